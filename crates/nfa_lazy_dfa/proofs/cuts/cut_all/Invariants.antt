-- The ranges so far are cut around.
use Rattle.nfa_paths.proofs.Common.{◌≡◌, ℕ, ◌+◌, ◌<◌, get_or, Transition, holds_byte}
use Rattle.nfa_lazy_dfa.specs.Cuts.{IsUncut, KeepsCuts}
use Rattle.nfa_lazy_dfa.proofs.cuts.cut_all.Given as goal

abbrev pub invariant-loop-trans : goal.invariant-loop-trans
invariant-loop-trans l = record {
  alike : (k : ℕ) → IsUncut l.cuts k → (j : ℕ) (d : Transition) → j < l.trans-index
      → holds_byte (get_or l.transitions j d) k ≡ holds_byte (get_or l.transitions j d) (k + 1);
  keeps : KeepsCuts l.fn.cuts l.cuts;
}
