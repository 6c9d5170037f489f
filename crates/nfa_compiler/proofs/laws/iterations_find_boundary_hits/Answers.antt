-- Each step of an iteration finds the next hit that ends on a boundary.
use Rattle.nfa_compiler.proofs.AllSearchLemmas.{all-matches, all-rows, boundary-hits-answered}
use Rattle.nfa_compiler.proofs.laws.iterations_find_boundary_hits.Goals as goal

pub returns-clause-matches : goal.returns-clause-matches
returns-clause-matches c = λ res nfa kind earliest x ms made mode how are.
    all-matches (boundary-hits-answered res nfa x how.whole made mode) ms (rw (how.leftmost, how.latest) at are)

pub returns-clause-captures : goal.returns-clause-captures
returns-clause-captures c = λ res nfa kind earliest x rows made mode how are.
    all-rows (boundary-hits-answered res nfa x how.whole made mode) rows (rw (how.leftmost, how.latest) at are)
