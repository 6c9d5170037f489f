-- None of the states so far leads to the start.
use Rattle.nfa_paths.proofs.Common.{◌≡◌, ◌<◌, ℕ, get_or, Some, node_of, target_on}
use Rattle.thompson_nfa.specs.declared.state.State.TheVariants.{Fail}
use Rattle.nfa_lazy_dfa.proofs.apart.is_start_apart.Given as goal

abbrev pub invariant-loop-state : goal.invariant-loop-state
invariant-loop-state l =
    (k : ℕ) → k < l.state-index → (byte : ℕ)
    → target_on (node_of (get_or l.state-items k Fail)) byte ≡ Some l.start → ⊥
