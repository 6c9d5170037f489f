-- The match is that of a path, which starts there.
use Rattle.nfa_facts.proofs.MatchLemmas.{starts-the-span}
use Rattle.nfa_facts.proofs.match_spans.laws.anchored_matches_start_the_span.Goals as goal

pub returns : goal.returns
returns c = starts-the-span
