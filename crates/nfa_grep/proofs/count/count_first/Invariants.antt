-- The lines so far were counted.
use Rattle.std.proofs.Common.{◌≡◌, ◌≤◌, List, length, take}
use Rattle.nfa_grep.specs.Counted.{IsCounted}
use Rattle.nfa_grep.specs.Meant.{Mean, Re}
use Rattle.nfa_grep.proofs.count.count_first.Given as goal

abbrev pub invariant-loop : goal.invariant-loop
invariant-loop l = record {
  counted : (res : List Re) → Mean l.initial.grep res
      → IsCounted l.initial.grep.options res l.limit (take l.counted.len l.text) l.counted;
  within : l.counted.len ≤ length l.text;
  at_most : l.counted.selected ≤ l.limit;
  as_many : l.counted.lines ≤ l.counter;
  end_is : l.end ≡ l.initial.grep.options.end;
  kept : l.grep ≡ l.initial.grep;
}
