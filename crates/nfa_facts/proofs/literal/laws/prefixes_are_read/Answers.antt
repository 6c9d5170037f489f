-- Each path takes the moves of the states.
use Rattle.nfa_facts.proofs.PrefixLemmas.{prefix-begins}
use Rattle.nfa_facts.proofs.literal.laws.prefixes_are_read.Goals as goal

pub returns : goal.returns
returns c = λ nfa. prefix-begins nfa
