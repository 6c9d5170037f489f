-- A search has one answer, and its path writes its bounds.
use Rattle.nfa_facts.proofs.MatchLemmas.{match-of-path}
use Rattle.nfa_facts.proofs.match_spans.laws.matches_are_of_paths.Goals as goal

pub returns : goal.returns
returns c = match-of-path
