-- The bytes so far are those of the patterns so far.
use Rattle.nfa_c.specs.Sets.{AreFirstMarks}
use Rattle.nfa_c.proofs.set_search.write_marks.Given as goal

abbrev pub invariant-loop-at : goal.invariant-loop-at
invariant-loop-at l = record { marks : AreFirstMarks l.at l.found l.marks }
