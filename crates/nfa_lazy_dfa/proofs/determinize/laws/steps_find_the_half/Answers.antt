-- The half match of a search is what the steps find.
use Rattle.nfa_lazy_dfa.proofs.SearchLemmas.{steps-find-half}
use Rattle.nfa_lazy_dfa.proofs.determinize.laws.steps_find_the_half.Goals as goal

pub returns : goal.returns
returns c = steps-find-half
