-- All that a state leads to without reading a byte is entered in order, up to the next match.
use Rattle.nfa_pikevm_scan.proofs.Common.{All, IsWithin, KeepsRoom, NoMatch, Some, TurnsGive, degree, is_match, length, map, moment_of, search_of, stack_frames, sum, sum_by, take, tries, weight, ◌+◌, ◌-◌, ◌<◌, ◌≤◌}
use Rattle.nfa_pikevm_scan.proofs.closure.next_match.Given as goal

abbrev pub invariant-loop-on : goal.invariant-loop-on
invariant-loop-on l = record {
  state : l.sid < length l.here.nfa.now.states;
  inside : l.top ≤ stack_frames l.here.nfa.now;
  keeps : KeepsRoom l.fn.reached l.reached;
  grows : l.fn.reached.seen.turns ≤ l.reached.seen.turns;
  within : All (IsWithin (length l.here.nfa.now.states) (length l.row)) (take l.top l.frames);
  passed : TurnsGive l.here.nfa.now (search_of l.here.input.now) l.here.at l.fn.from
      (moment_of l.fn.reached (take l.fn.top l.fn.frames) l.fn.row) (NoMatch (is_match l.here.nfa.now)) (Some l.sid)
      (moment_of l.reached (take l.top l.frames) l.row);
}

-- the turns that wait on the stack, and those that the states may still bring that are not marked
abbrev pub decreases-loop-on : goal.decreases-loop-on
decreases-loop-on l =
    sum_by tries (take l.top l.frames) + length l.reached.next.items
    + (sum (map degree l.here.nfa.now.states) - weight l.here.nfa.now degree l.reached.seen.bits)
