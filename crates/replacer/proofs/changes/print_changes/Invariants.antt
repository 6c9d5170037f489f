-- The changes of the lines so far were printed.
use Rattle.std.proofs.Common.{◌≡◌, ◌≤◌, ◌+◌}
use Rattle.replacer.specs.Changes.{HasChanged}
use Rattle.replacer.proofs.changes.print_changes.Given as goal

abbrev pub invariant-loop-before : goal.invariant-loop-before
invariant-loop-before g l = record {
  printed : HasChanged l.fn.job l.style (g.R.Read.remaining l.fn.input) (g.R.Read.remaining l.input)
      (g.W.Write.contents l.fn.out) (g.W.Write.contents l.out) (l.before + 1) l.count;
  counted : l.count ≤ l.before;
  kept : l.job ≡ l.fn.job;
}
