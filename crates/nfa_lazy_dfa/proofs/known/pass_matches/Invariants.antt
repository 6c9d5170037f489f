-- The scan is at this place, and the last match is that of the row.
use Rattle.nfa_paths.proofs.Common.{◌≡◌, ◌≤◌, ◌-◌, ◌%◌, search_of}
use Rattle.nfa_lazy_dfa.specs.Places.{IsMatchedAt}
use Rattle.nfa_lazy_dfa.proofs.known.pass_matches.Given as goal

abbrev pub invariant-loop-at : goal.invariant-loop-at
invariant-loop-at l = record {
  whole : l.first % 256 ≡ 0;
  at : IsMatchedAt l.dfa l.cache (search_of l.input) l.at l.first;
  low : l.from ≤ l.at;
}

abbrev pub decreases-loop-at : goal.decreases-loop-at
decreases-loop-at l = l.end - l.at
