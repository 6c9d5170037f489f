-- The room of all states, or none if it exceeds the limit.
use Rattle.nfa_pikevm_scan.proofs.Common.{node_of, room_of, sum_by, take, ◌≡◌}
use Rattle.nfa_pikevm_scan.proofs.sizes.rooms.Given as goal

abbrev pub invariant-loop-state : goal.invariant-loop-state
invariant-loop-state l = l.sum ≡ sum_by (λ s. room_of (node_of s)) (take l.state-index l.states)
