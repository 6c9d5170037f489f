-- The first scan answers no path.
use Rattle.nfa_facts.proofs.PrefixLemmas.{nothing-answer, nothing-found, nothing-half, nothing-match}
use Rattle.nfa_facts.proofs.literal.laws.nothing_has_no_answer.Goals as goal

pub returns-clause-answer : goal.returns-clause-answer
returns-clause-answer c = λ nfa kind earliest x n none. nothing-answer nfa kind earliest x none n

pub returns-clause-match_of : goal.returns-clause-match_of
returns-clause-match_of c = λ nfa kind earliest x none. nothing-match nfa kind earliest x none

pub returns-clause-half : goal.returns-clause-half
returns-clause-half c = λ nfa kind earliest x none. nothing-half nfa kind earliest x none

pub returns-clause-found : goal.returns-clause-found
returns-clause-found c = λ nfa kind earliest x none. nothing-found nfa kind earliest x none
