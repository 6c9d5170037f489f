-- The texts so far are those up to the ends so far.
use Rattle.std.proofs.Common.{List, drop, map, ℕ}
use Rattle.std.specs.Borrow.{Bor}
use Rattle.nfa_c.specs.Texts.{HasRead}
use Rattle.nfa_c.proofs.texts.read.Given as goal

abbrev pub invariant-loop-end : goal.invariant-loop-end
invariant-loop-end l = HasRead l.text l.ends (drop l.end-index l.ends) l.from
    (map (λ (text : Bor (List ℕ)). text.now) l.texts.items)
