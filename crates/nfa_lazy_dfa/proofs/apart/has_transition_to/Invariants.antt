-- None of the transitions so far leads to the state.
use Rattle.nfa_paths.proofs.Common.{◌≡◌, ◌<◌, ℕ, get_or, Transition}
use Rattle.nfa_lazy_dfa.proofs.apart.has_transition_to.Given as goal

abbrev pub invariant-loop-trans : goal.invariant-loop-trans
invariant-loop-trans l =
    (j : ℕ) (d : Transition) → j < l.trans-index → (get_or l.transitions j d).next ≡ l.sid → ⊥
