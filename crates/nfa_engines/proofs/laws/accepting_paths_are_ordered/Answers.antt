-- Of two accepting paths just one comes first.
use Rattle.nfa_paths.proofs.AnswerLemmas.{accepting_order, accepting_order-asymmetric}
use Rattle.nfa_engines.proofs.laws.accepting_paths_are_ordered.Goals as goal

pub returns : goal.returns
returns c = record { total = λ nfa x m n p q. accepting_order nfa x; asymmetric = accepting_order-asymmetric }
