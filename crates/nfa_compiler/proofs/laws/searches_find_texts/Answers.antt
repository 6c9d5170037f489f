-- The trees and what the grammar reads have hits that a caller cannot tell apart.
use Rattle.nfa_compiler.proofs.SearchLemmas.{answer-is, match-is}
use Rattle.nfa_compiler.proofs.AllSearchLemmas.{text-answered}
use Rattle.nfa_compiler.proofs.laws.searches_find_texts.Goals as goal

pub returns-clause-answers : goal.returns-clause-answers
returns-clause-answers c = λ syntax texts res nfa kind earliest x pattern slots made meant anywhere how bytes answer.
    answer-is (text-answered syntax texts res nfa x made meant anywhere how.whole bytes) pattern slots
    (rw (how.leftmost, how.latest) at answer)

pub returns-clause-matches : goal.returns-clause-matches
returns-clause-matches c = λ syntax texts res nfa kind earliest x found made meant anywhere how bytes answer.
    match-is (text-answered syntax texts res nfa x made meant anywhere how.whole bytes) found
    (rw (how.leftmost, how.latest) at answer)
