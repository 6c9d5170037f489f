-- what a turn of the loop keeps
use Rattle.nfa_c.specs.Answers.{AreFirstWords}
use Rattle.nfa_c.proofs.search.write_words.Given as goal

abbrev pub invariant-loop-at : goal.invariant-loop-at
invariant-loop-at l = record { words : AreFirstWords l.at l.row l.words }
