-- The bytes so far that have a target are admitted.
use Rattle.nfa_paths.proofs.Common.{◌≡◌, ℕ, ◌<◌, length, Some, Dense, target_on}
use Rattle.nfa_scan_core.specs.FirstBytes.{Admits, Grows, GrowsBy}
use Rattle.nfa_scan_core.proofs.first_bytes.admit_targets.Given as goal

abbrev pub invariant-loop-byte : goal.invariant-loop-byte
invariant-loop-byte l = record {
  size : length l.table ≡ 256;
  grows : Grows l.fn.table l.table;
  done : (b : ℕ) → b < l.byte → (t : ℕ) → target_on (Dense l.targets) b ≡ Some t → Admits l.table b;
  only : GrowsBy l.fn.table l.table (Dense l.targets);
}
