-- Every search has an answer.
use Rattle.nfa_paths.proofs.ExistenceLemmas.{search_answer-exists}
use Rattle.nfa_engines.proofs.laws.every_search_has_an_answer.Goals as goal

pub returns : goal.returns
returns c = λ nfa x kind earliest. search_answer-exists nfa kind earliest x
