-- The bytes of the transitions so far are added.
use Rattle.nfa_paths.proofs.Common.{◌≡◌, ℕ, ◌<◌, get_or, true, Transition, holds_byte}
use Rattle.nfa_facts.specs.Levels.{Grows, Has}
use Rattle.nfa_facts.proofs.literal.level.admit_all.Given as goal

abbrev pub invariant-loop-trans : goal.invariant-loop-trans
invariant-loop-trans l = record {
  grows : Grows l.fn.level l.level;
  done : (k : ℕ) (d : Transition) → k < l.trans-index → (b : ℕ) → holds_byte (get_or l.transitions k d) b ≡ true
      → Has l.level b;
}
