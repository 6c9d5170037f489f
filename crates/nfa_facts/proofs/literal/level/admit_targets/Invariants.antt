-- The bytes so far that have a target are added.
use Rattle.nfa_paths.proofs.Common.{◌≡◌, ℕ, ◌<◌, length, Some, Dense, target_on}
use Rattle.nfa_facts.specs.Levels.{Grows, Has}
use Rattle.nfa_facts.proofs.literal.level.admit_targets.Given as goal

abbrev pub invariant-loop-byte : goal.invariant-loop-byte
invariant-loop-byte l = record {
  size : length l.level ≡ 256;
  grows : Grows l.fn.level l.level;
  done : (b : ℕ) → b < l.byte → (t : ℕ) → target_on (Dense l.targets) b ≡ Some t → Has l.level b;
}
