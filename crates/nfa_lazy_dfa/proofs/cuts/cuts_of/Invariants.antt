-- The states so far are cut for.
use Rattle.nfa_paths.proofs.Common.{◌≡◌, ℕ, ◌+◌, ◌<◌, false, get_or, node_of, target_on, State}
use Rattle.nfa_lazy_dfa.specs.Cuts.{IsUncut}
use Rattle.nfa_lazy_dfa.proofs.cuts.cuts_of.Given as goal

abbrev pub invariant-loop-state : goal.invariant-loop-state
invariant-loop-state l = record {
  none : (k : ℕ) → IsUncut l.cuts k → l.looks ≡ false;
  alike : (k : ℕ) → IsUncut l.cuts k → (j : ℕ) (d : State) → j < l.state-index
      → target_on (node_of (get_or l.state-items j d)) k ≡ target_on (node_of (get_or l.state-items j d)) (k + 1);
}
