-- A search has one answer.
use Rattle.nfa_paths.proofs.AnswerLemmas.{search_answer-unique}
use Rattle.nfa_engines.proofs.laws.one_search_answer.Goals as goal

pub returns : goal.returns
returns c = λ nfa x kind earliest. search_answer-unique nfa kind earliest x
