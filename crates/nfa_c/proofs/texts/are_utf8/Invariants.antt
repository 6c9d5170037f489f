-- The texts so far are UTF-8.
use Rattle.std.proofs.Common.{drop}
use Rattle.nfa_c.specs.Texts.{HasChecked}
use Rattle.nfa_c.proofs.texts.are_utf8.Given as goal

abbrev pub invariant-loop-end : goal.invariant-loop-end
invariant-loop-end l = HasChecked l.text l.ends (drop l.end-index l.ends) l.from
