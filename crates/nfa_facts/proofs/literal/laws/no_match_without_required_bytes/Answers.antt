-- No match starts where the bytes are not ahead.
use Rattle.nfa_facts.proofs.RequiredLemmas.{nothing-ahead}
use Rattle.nfa_facts.proofs.literal.laws.no_match_without_required_bytes.Goals as goal

pub returns : goal.returns
returns c = λ nfa x r from free required first lacks. nothing-ahead nfa x r required free from first lacks
