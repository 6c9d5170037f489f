-- No match starts where the bytes do not occur.
use Rattle.nfa_facts.proofs.PrefixLemmas.{nothing-anywhere}
use Rattle.nfa_facts.proofs.literal.laws.no_match_without_prefix.Goals as goal

pub returns : goal.returns
returns c = λ nfa x bytes from free begins first none. nothing-anywhere nfa x bytes begins free from first none
