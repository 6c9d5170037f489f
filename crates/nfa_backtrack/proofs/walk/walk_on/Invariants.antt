-- At each turn of a walk the answer from there is the answer of the walk, and the marks pay for the frames.
use Rattle.nfa_paths.proofs.Common.{◌≡◌, ◌+◌, ◌-◌, length, sum, Some, sum_by, search_of, marked_sum}
use Rattle.nfa_backtrack.specs.Walk.{pair_of, frame_tries, walk_of, weights, TurnsLead}
use Rattle.nfa_backtrack.proofs.walk.walk_on.Given as goal

abbrev pub invariant-loop-next : goal.invariant-loop-next
invariant-loop-next l = record {
  scans : l.scratch.scans ≡ l.fn.scratch.scans;
  size : length l.scratch.visited.bits ≡ length l.fn.scratch.visited.bits;
  leads : TurnsLead l.nfa (search_of l.input) (pair_of l.fn.start) (Some l.place) (walk_of l.fn.scratch l.fn.slots)
      (walk_of l.scratch l.slots);
}

-- the places that wait, and the weight of what is not marked yet
abbrev pub decreases-loop-next : goal.decreases-loop-next
decreases-loop-next l =
    sum_by frame_tries l.scratch.stack.items
    + (sum (weights l.nfa (search_of l.input)) - marked_sum (weights l.nfa (search_of l.input))
    l.scratch.visited.bits)
