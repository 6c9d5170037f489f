-- The scan is in the row, and the last match is that of the row.
use Rattle.nfa_paths.proofs.Common.{◌≤◌, ◌-◌, search_of}
use Rattle.nfa_lazy_dfa.specs.Places.{IsMatchedAt}
use Rattle.nfa_lazy_dfa.proofs.known.past_pairs.Given as goal

abbrev pub invariant-loop-at : goal.invariant-loop-at
invariant-loop-at l = record {
  at : IsMatchedAt l.dfa l.cache (search_of l.input) l.at l.first;
  low : l.from ≤ l.at;
  high : l.at ≤ (search_of l.input).end;
}

abbrev pub decreases-loop-at : goal.decreases-loop-at
decreases-loop-at l = (search_of l.input).end - l.at
