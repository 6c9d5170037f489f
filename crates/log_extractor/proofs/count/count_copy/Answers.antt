-- The line that was read is the next one.
use Rattle.std.proofs.Common.{rules}
use Rattle.log_extractor.proofs.count.count_copy.Goals as goal

pub returns-then-not-branch-clause-counted : goal.returns-then-not-branch-clause-counted
returns-then-not-branch-clause-counted g c = c.in_ok-read_line.ensures.ended (search rules)

pub returns-clause-counted : goal.returns-clause-counted
returns-clause-counted g c = (
  c.read_line.new.line.items,
  c.in_ok-read_line.ensures.taken (search rules),
  λ ps is values tally. rw c.deref.ensures.value at (c.in_ok-count_one.ensures.counted ps is values tally),
)
