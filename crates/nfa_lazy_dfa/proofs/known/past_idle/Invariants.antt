-- The scan is in the idle row, with what it had found.
use Rattle.nfa_paths.proofs.Common.{◌≤◌, ◌-◌, ◌%◌, search_of}
use Rattle.nfa_lazy_dfa.specs.Places.{IsFoundAt}
use Rattle.nfa_lazy_dfa.specs.Runs.{place_at}
use Rattle.nfa_lazy_dfa.proofs.known.past_idle.Given as goal

abbrev pub invariant-loop-at : goal.invariant-loop-at
invariant-loop-at l = record {
  at : IsFoundAt l.dfa l.cache (search_of l.input) (place_at l.at (l.cell % 0x2000_0000) l.found);
  low : l.from ≤ l.at;
  high : l.at ≤ (search_of l.input).end;
}

abbrev pub decreases-loop-at : goal.decreases-loop-at
decreases-loop-at l = (search_of l.input).end - l.at
