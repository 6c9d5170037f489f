-- The copies so far are the texts so far.
use Rattle.std.proofs.Common.{◌≡◌, List, map, string_bytes, take, ℕ}
use Rattle.std.specs.Borrow.{Bor}
use Rattle.nfa_meta.proofs.builder.texts.Texts.of.Given as goal

abbrev pub invariant-loop-text : goal.invariant-loop-text
invariant-loop-text l =
    map string_bytes l.list.items ≡ map (λ (text : Bor (List ℕ)). text.now) (take l.text-index l.patterns)
