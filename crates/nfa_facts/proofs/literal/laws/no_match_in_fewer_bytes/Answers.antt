-- Each match has more bytes than the span.
use Rattle.nfa_facts.proofs.LeastLemmas.{nothing-in-fewer}
use Rattle.nfa_facts.proofs.literal.laws.no_match_in_fewer_bytes.Goals as goal

pub returns : goal.returns
returns c = λ nfa x least free has fewer. nothing-in-fewer nfa x least free has fewer
