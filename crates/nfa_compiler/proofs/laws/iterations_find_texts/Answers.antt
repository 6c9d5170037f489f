-- Each step of an iteration finds the next hit of what the grammar reads.
use Rattle.nfa_compiler.proofs.AllSearchLemmas.{all-matches, all-rows, texts-answered}
use Rattle.nfa_compiler.proofs.laws.iterations_find_texts.Goals as goal

pub returns-clause-matches : goal.returns-clause-matches
returns-clause-matches c = λ syntax texts res nfa kind earliest x ms made meant anywhere how bytes are.
    all-matches (texts-answered res nfa x how.whole syntax texts made meant anywhere bytes) ms
    (rw (how.leftmost, how.latest) at are)

pub returns-clause-captures : goal.returns-clause-captures
returns-clause-captures c = λ syntax texts res nfa kind earliest x rows made meant anywhere how bytes are.
    all-rows (texts-answered res nfa x how.whole syntax texts made meant anywhere bytes) rows
    (rw (how.leftmost, how.latest) at are)
