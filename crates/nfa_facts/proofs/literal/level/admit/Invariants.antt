-- The bytes so far are added.
use Rattle.nfa_paths.proofs.Common.{◌≡◌, ℕ, ◌<◌, ◌≤◌, length}
use Rattle.nfa_facts.specs.Levels.{Grows, Has}
use Rattle.nfa_facts.proofs.literal.level.admit.Given as goal

abbrev pub invariant-loop-byte : goal.invariant-loop-byte
invariant-loop-byte l = record {
  size : length l.level ≡ 256;
  grows : Grows l.fn.level l.level;
  done : (b : ℕ) → l.trans.start ≤ b → b < l.byte → Has l.level b;
}
