-- The half match is the end of the path that the match is of.
use Rattle.nfa_facts.proofs.MatchLemmas.{half-is-end}
use Rattle.nfa_facts.proofs.match_spans.laws.half_matches_are_ends.Goals as goal

pub returns : goal.returns
returns c = half-is-end
