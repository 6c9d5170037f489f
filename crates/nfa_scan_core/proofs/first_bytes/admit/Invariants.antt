-- The bytes so far are admitted.
use Rattle.nfa_paths.proofs.Common.{ℕ, ◌<◌, ◌≤◌, ByteRange}
use Rattle.nfa_scan_core.specs.FirstBytes.{Admits, Grows, GrowsBy}
use Rattle.nfa_scan_core.proofs.first_bytes.admit.Given as goal

abbrev pub invariant-loop-byte : goal.invariant-loop-byte
invariant-loop-byte l = record {
  grows : Grows l.fn.table l.table;
  done : (b : ℕ) → l.trans.start ≤ b → b < l.byte → Admits l.table b;
  only : GrowsBy l.fn.table l.table (ByteRange l.trans);
}
