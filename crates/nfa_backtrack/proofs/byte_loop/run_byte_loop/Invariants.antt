-- After each iteration the answer from the place is the answer from the first one, and the marks pay for what is
-- pushed.
use Rattle.nfa_paths.proofs.Common.{◌≡◌, ◌-◌, ◌≤◌, length, Some, search_of, Slots}
use Rattle.nfa_backtrack.specs.Walk.{pair_of, walk_of, TurnsLead}
use Rattle.nfa_backtrack.proofs.byte_loop.run_byte_loop.Given as goal

abbrev pub invariant-loop-union : goal.invariant-loop-union
invariant-loop-union l = record {
  state : l.place.sid ≡ l.body.sid;
  turns : l.fn.scratch.visited.turns ≤ l.scratch.visited.turns;
  scans : l.scratch.scans ≡ l.fn.scratch.scans;
  size : length l.scratch.visited.bits ≡ length l.fn.scratch.visited.bits;
  leads : (slots : Slots) → TurnsLead l.nfa (search_of l.input) (pair_of l.body) (Some l.place)
      (walk_of l.fn.scratch slots) (walk_of l.scratch slots);
}

-- the positions before the end of the span
abbrev pub decreases-loop-union : goal.decreases-loop-union
decreases-loop-union l = (search_of l.input).end - l.place.at
