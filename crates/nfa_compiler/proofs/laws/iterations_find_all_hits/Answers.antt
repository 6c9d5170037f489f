-- Each step of an iteration finds the next hit.
use Rattle.nfa_compiler.proofs.AllSearchLemmas.{all-matches, all-rows, hits-answered}
use Rattle.nfa_compiler.proofs.laws.iterations_find_all_hits.Goals as goal

pub returns-clause-matches : goal.returns-clause-matches
returns-clause-matches c = λ res nfa kind earliest x ms made anywhere how are.
    all-matches (hits-answered res nfa x how.whole made anywhere) ms (rw (how.leftmost, how.latest) at are)

pub returns-clause-captures : goal.returns-clause-captures
returns-clause-captures c = λ res nfa kind earliest x rows made anywhere how are.
    all-rows (hits-answered res nfa x how.whole made anywhere) rows (rw (how.leftmost, how.latest) at are)
