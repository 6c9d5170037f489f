-- Each assertion so far is that of the end.
use Rattle.nfa_paths.proofs.Common.{◌<◌, ℕ, get_or, node_of}
use Rattle.thompson_nfa.specs.declared.state.State.TheVariants.{Fail}
use Rattle.nfa_onepass.specs.Ways.{IsOnlyEnd}
use Rattle.nfa_onepass.proofs.table.has_only_ends.Given as goal

abbrev pub invariant-loop-state : goal.invariant-loop-state
invariant-loop-state l = (k : ℕ) → k < l.state-index → IsOnlyEnd (node_of (get_or l.state-items k Fail))
