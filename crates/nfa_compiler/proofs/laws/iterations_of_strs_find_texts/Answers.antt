-- Each step of an iteration finds the next hit in the `str`.
use Rattle.nfa_compiler.proofs.AllSearchLemmas.{all-matches, all-rows, strs-answered}
use Rattle.nfa_compiler.proofs.laws.iterations_of_strs_find_texts.Goals as goal

pub returns-clause-matches : goal.returns-clause-matches
returns-clause-matches c = λ syntax texts res nfa kind earliest x ms made meant mode free how text are.
    all-matches (strs-answered res nfa x how.whole syntax texts made meant mode free text) ms
    (rw (how.leftmost, how.latest) at are)

pub returns-clause-captures : goal.returns-clause-captures
returns-clause-captures c = λ syntax texts res nfa kind earliest x rows made meant mode free how text are.
    all-rows (strs-answered res nfa x how.whole syntax texts made meant mode free text) rows
    (rw (how.leftmost, how.latest) at are)
