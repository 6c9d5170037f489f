-- The scan is at this place, in the row whose cells begin at `first`.
use Rattle.nfa_paths.proofs.Common.{◌≡◌, ◌≤◌, ◌-◌, ◌%◌, search_of}
use Rattle.nfa_lazy_dfa.specs.Places.{IsFoundAt}
use Rattle.nfa_lazy_dfa.specs.Runs.{place_at}
use Rattle.nfa_lazy_dfa.proofs.known.run_by_byte.Given as goal

abbrev pub invariant-loop-at : goal.invariant-loop-at
invariant-loop-at l = record {
  whole : l.first % 256 ≡ 0;
  at : IsFoundAt l.dfa l.cache (search_of l.input) (place_at l.at l.first l.found);
  low : l.fn.from.at ≤ l.at;
}

abbrev pub decreases-loop-at : goal.decreases-loop-at
decreases-loop-at l = l.end - l.at
