-- At each start the answer from there is the answer from all starts, and the turns so far are bounded.
use Rattle.nfa_paths.proofs.Common.{◌≡◌, ◌+◌, ◌-◌, ◌<◌, ◌≤◌, [], length, map, search_of, starts, start_count, pairs_from, Explore, marked_sum}
use Rattle.nfa_scan_core.specs.FirstBytes.{IsRefused}
use Rattle.nfa_backtrack.specs.Walk.{Carries, weights}
use Rattle.nfa_backtrack.proofs.scan.try_starts.Given as goal

abbrev pub invariant-loop-at : goal.invariant-loop-at
invariant-loop-at l = record {
  follows : Carries l.nfa (search_of l.input) l.fn.scratch.visited (map Explore (starts l.nfa (search_of l.input)))
      l.fn.slots
      l.scratch.visited (map Explore (pairs_from l.sid l.at (l.limit - l.at))) l.slots;
  low : (search_of l.input).start ≤ l.at;
  high : l.at ≤ (search_of l.input).end + 1;
  due : l.at + 1 < (search_of l.input).start + start_count l.nfa (search_of l.input)
      → IsRefused l.first.may_begin (search_of l.input) l.at → ⊥;
  scans : l.scratch.scans ≡ l.fn.scratch.scans;
  size : length l.scratch.visited.bits ≡ length l.fn.scratch.visited.bits;
  empty : l.scratch.stack.items ≡ [];
  tried : l.scratch.visited.turns
      ≤ l.fn.scratch.visited.turns + (l.at - (search_of l.input).start) + marked_sum (weights l.nfa (search_of l.input))
      l.scratch.visited.bits;
}

abbrev pub decreases-loop-at : goal.decreases-loop-at
decreases-loop-at l = l.limit - l.at
