-- Two answers to one search are equal, whatever the caches did before.
use Rattle.nfa_paths.proofs.EarliestLemmas.{match-unique}
use Rattle.nfa_engines.proofs.FirstSetLemmas.{first_set-unique}
use Rattle.nfa_engines.proofs.MatchLemmas.{same-slots, found-unique, set-unique}
use Rattle.nfa_engines.proofs.laws.cache_history_is_invisible.Goals as goal

pub returns : goal.returns
returns c = record {
  slots = same-slots;
  matches = λ nfa x kind earliest. match-unique nfa kind earliest x;
  found = found-unique;
  patterns = set-unique;
  first_patterns = first_set-unique;
}
