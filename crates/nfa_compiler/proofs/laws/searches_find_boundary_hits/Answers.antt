-- The search's answer is the first path of its last scan, which is the path of the hit.
use Rattle.nfa_compiler.proofs.SearchLemmas.{answer-is, found-is, match-is}
use Rattle.nfa_compiler.proofs.BoundarySearchLemmas.{boundary-answered}
use Rattle.nfa_compiler.proofs.laws.searches_find_boundary_hits.Goals as goal

pub returns-clause-answers : goal.returns-clause-answers
returns-clause-answers c = λ res nfa kind earliest x pattern slots made mode how answer.
    answer-is (boundary-answered res nfa made mode x how.whole) pattern slots (rw (how.leftmost, how.latest) at answer)

pub returns-clause-matches : goal.returns-clause-matches
returns-clause-matches c = λ res nfa kind earliest x found made mode how answer.
    match-is (boundary-answered res nfa made mode x how.whole) found (rw (how.leftmost, how.latest) at answer)

pub returns-clause-found : goal.returns-clause-found
returns-clause-found c = λ res nfa kind earliest x found made mode how answer.
    found-is (boundary-answered res nfa made mode x how.whole) found (rw (how.leftmost, how.latest) at answer)
