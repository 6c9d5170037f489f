-- The steps so far are those of the ranges.
use Rattle.std.proofs.Common.{◌≡◌, map, take}
use Rattle.nfa_samples.specs.StateTables.{transition_in}
use Rattle.nfa_samples.proofs.state_table.transitions.Given as goal

abbrev pub invariant-loop-start : goal.invariant-loop-start
invariant-loop-start l = l.steps.items ≡ map (λ r. transition_in r.0 r.1 l.next) (take l.start-index l.ranges)
