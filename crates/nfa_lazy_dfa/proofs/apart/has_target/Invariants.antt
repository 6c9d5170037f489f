-- None of the targets so far is the state.
use Rattle.std.proofs.Common.{◌≡◌, ◌<◌, ℕ, get_or, Option, Some}
use Rattle.nfa_lazy_dfa.proofs.apart.has_target.Given as goal

abbrev pub invariant-loop-target : goal.invariant-loop-target
invariant-loop-target l = (j : ℕ) (d : Option ℕ) → j < l.target-index → get_or l.targets j d ≡ Some l.sid → ⊥
