-- The lines so far were counted.
use Rattle.std.proofs.Common.{◌≡◌, ◌≤◌, IfSome, List}
use Rattle.nfa_grep.specs.Counted.{IsCounting}
use Rattle.nfa_grep.specs.Meant.{Mean, Re}
use Rattle.nfa_grep.proofs.count.count_lines.Given as goal

abbrev pub invariant-loop : goal.invariant-loop
invariant-loop g l = record {
  counting : (res : List Re) → Mean l.fn.grep res
      → IfSome (g.R.Read.remaining l.fn.input) (λ text. IsCounting l.fn.grep.options res l.limit text
      (g.R.Read.remaining l.input) l.count);
  at_most : l.count ≤ l.limit;
  kept : l.grep ≡ l.fn.grep;
}
