-- The numbers so far were appended.
use Rattle.nfa_paths.proofs.Common.{◌≡◌, ◌<◌, ◌++◌, [], false, length, map, true, decimal, join_with_byte, number_of}
use Rattle.nfa_grep.specs.Printed.{comma}
use Rattle.nfa_grep.proofs.which.append_set.Given as goal

abbrev pub invariant-loop-pattern : goal.invariant-loop-pattern
invariant-loop-pattern l = record {
  appended : l.out.items ≡ l.fn.out.items ++ join_with_byte comma (map decimal (map number_of l.yielded));
  none : l.first ≡ true → l.yielded ≡ [];
  some : l.first ≡ false → 0 < length l.yielded;
}
