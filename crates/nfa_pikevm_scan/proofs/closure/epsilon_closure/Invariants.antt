-- All that a root leads to without reading a byte is followed from match to match, until the position ends.
use Rattle.nfa_pikevm_scan.proofs.Common.{All, IsWithin, KeepsRoom, Some, Takes, TurnsGive, [], degree, false, length, map, moment_of, search_of, stack_frames, sum, sum_by, take, tries, weight, ◌+◌, ◌-◌, ◌<◌, ◌≡◌, ◌≤◌}
use Rattle.nfa_pikevm_scan.proofs.closure.epsilon_closure.Given as goal

abbrev pub invariant-loop-pattern : goal.invariant-loop-pattern
invariant-loop-pattern g l = record {
  state : l.sid < length l.here.nfa.now.states;
  inside : l.top ≤ stack_frames l.here.nfa.now;
  keeps : KeepsRoom l.fn.reached l.reached;
  grows : l.fn.reached.seen.turns ≤ l.reached.seen.turns;
  within : All (IsWithin (length l.here.nfa.now.states) (length l.row)) (take l.top l.frames);
  width : g.T.MatchSink.row_width l.sink ≡ g.T.MatchSink.row_width l.fn.sink;
  same_reference : g.T.MatchSink.reference l.sink ≡ g.T.MatchSink.reference l.fn.sink;
  followed : TurnsGive l.here.nfa.now (search_of l.here.input.now) l.here.at l.fn.root
      (moment_of l.fn.reached [] l.fn.row)
      (λ front. Takes l.here.nfa.now g.T.MatchSink.takes front l.fn.sink false l.sink) (Some l.sid)
      (moment_of l.reached (take l.top l.frames) l.row);
}

-- the turns that wait on the stack, and those that the states may still bring that are not marked
abbrev pub decreases-loop-pattern : goal.decreases-loop-pattern
decreases-loop-pattern g l =
    sum_by tries (take l.top l.frames) + length l.reached.next.items
    + (sum (map degree l.here.nfa.now.states) - weight l.here.nfa.now degree l.reached.seen.bits)
