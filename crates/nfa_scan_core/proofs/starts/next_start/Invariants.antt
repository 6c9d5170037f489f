-- The positions so far are skipped.
use Rattle.nfa_paths.proofs.Common.{◌≡◌, ℕ, ◌+◌, ◌-◌, ◌<◌, ◌≤◌, search_of}
use Rattle.nfa_scan_core.specs.FirstBytes.{IsRefused}
use Rattle.nfa_scan_core.proofs.starts.next_start.Given as goal

abbrev pub invariant-loop-at : goal.invariant-loop-at
invariant-loop-at l = record {
  low : l.from ≤ l.at;
  high : l.at ≤ (search_of l.input).end + 1;
  near : l.from ≤ l.stop → l.at ≤ l.stop;
  stays : l.stop ≤ l.from → l.at ≡ l.from;
  passed : (k : ℕ) → l.from ≤ k → k < l.at → IsRefused l.first.may_begin (search_of l.input) k;
}

abbrev pub decreases-loop-at : goal.decreases-loop-at
decreases-loop-at l = l.stop - l.at
