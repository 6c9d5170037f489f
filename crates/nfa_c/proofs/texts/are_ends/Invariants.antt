-- The ends so far are right.
use Rattle.std.proofs.Common.{drop}
use Rattle.nfa_c.specs.Texts.{HasSeen}
use Rattle.nfa_c.proofs.texts.are_ends.Given as goal

abbrev pub invariant-loop-end : goal.invariant-loop-end
invariant-loop-end l = HasSeen l.text l.ends (drop l.end-index l.ends) l.from
