-- As many blanks as turns were appended.
use Rattle.nfa_paths.proofs.Common.{◌≡◌, ◌++◌, replicate}
use Rattle.nfa_grep.proofs.paint.append_blanks.Given as goal

abbrev pub invariant-loop : goal.invariant-loop
invariant-loop l = l.out.items ≡ l.fn.out.items ++ replicate l.counter 32
