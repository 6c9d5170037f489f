-- The search's answer is the first path, which is that of the hit.
use Rattle.nfa_compiler.proofs.SearchLemmas.{answer-is, found-is, match-is, hit-answered}
use Rattle.nfa_compiler.proofs.laws.searches_find_hits.Goals as goal

pub returns-clause-answers : goal.returns-clause-answers
returns-clause-answers c = λ res nfa kind earliest x pattern slots made anywhere how answer.
    answer-is (hit-answered res nfa made x how.whole anywhere) pattern slots (rw (how.leftmost, how.latest) at answer)

pub returns-clause-matches : goal.returns-clause-matches
returns-clause-matches c = λ res nfa kind earliest x found made anywhere how answer.
    match-is (hit-answered res nfa made x how.whole anywhere) found (rw (how.leftmost, how.latest) at answer)

pub returns-clause-found : goal.returns-clause-found
returns-clause-found c = λ res nfa kind earliest x found made anywhere how answer.
    found-is (hit-answered res nfa made x how.whole anywhere) found (rw (how.leftmost, how.latest) at answer)
