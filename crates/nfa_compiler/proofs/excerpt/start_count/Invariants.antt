-- the count so far
use Rattle.std.proofs.Common.{◌≡◌, ◌≤◌, take}
use Rattle.std.specs.Prelude.{sum_by}
use Rattle.nfa_compiler.specs.Rejected.{starts_char}
use Rattle.nfa_compiler.proofs.excerpt.start_count.Given as goal

abbrev pub invariant-loop-byte : goal.invariant-loop-byte
invariant-loop-byte l = record {
  value : l.count ≡ sum_by starts_char (take l.byte-index l.bytes);
  bound : l.count ≤ l.byte-index;
}
