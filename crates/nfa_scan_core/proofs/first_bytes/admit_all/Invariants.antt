-- The bytes of the transitions so far are admitted.
use Rattle.nfa_paths.proofs.Common.{◌≡◌, ℕ, ◌<◌, get_or, true, Sparse, Transition, holds_byte}
use Rattle.nfa_scan_core.specs.FirstBytes.{Admits, Grows, GrowsBy}
use Rattle.nfa_scan_core.proofs.first_bytes.admit_all.Given as goal

abbrev pub invariant-loop-i : goal.invariant-loop-i
invariant-loop-i l = record {
  grows : Grows l.fn.table l.table;
  done : (k : ℕ) → k < l.i → (d : Transition) (b : ℕ) → holds_byte (get_or l.transitions k d) b ≡ true
      → Admits l.table b;
  only : GrowsBy l.fn.table l.table (Sparse l.transitions);
}
