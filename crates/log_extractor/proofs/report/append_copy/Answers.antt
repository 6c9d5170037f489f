-- The line that was read is the next one.
use Rattle.std.proofs.Common.{rules}
use Rattle.log_extractor.proofs.report.append_copy.Goals as goal

pub returns-then-not-branch-clause-taken : goal.returns-then-not-branch-clause-taken
returns-then-not-branch-clause-taken g c = c.in_ok-read_line.ensures.ended (search rules)

pub returns-clause-taken : goal.returns-clause-taken
returns-clause-taken g c = (
  c.read_line.new.line.items,
  c.in_ok-read_line.ensures.taken (search rules),
  λ ps is. (
    rw c.deref.ensures.value at (c.in_ok-row.ensures.shown ps is),
    rw c.deref.ensures.value at (c.in_ok-row.ensures.row ps is),
  ),
)
