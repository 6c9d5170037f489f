-- Each slot that a state writes is one of the groups.
use Rattle.nfa_facts.proofs.KeptLemmas.{all-kept}
use Rattle.nfa_facts.proofs.captures.laws.all_captures_are_kept.Goals as goal

pub returns : goal.returns
returns c = λ nfa valid. all-kept nfa valid
