-- What the cell says is so.
use Rattle.nfa_paths.proofs.Common.{rules}
use Rattle.nfa_onepass.proofs.table.OnePass.cell.Goals as goal

pub returns-then-cell-lt-NOTHING-clause-step : goal.returns-then-cell-lt-NOTHING-clause-step
returns-then-cell-lt-NOTHING-clause-step c s here =
    (c.in-Some.ensures s here).step (search (rules, c.if-cell-lt-NOTHING.true))

pub returns-in-4294967293-clause-nothing : goal.returns-in-4294967293-clause-nothing
returns-in-4294967293-clause-nothing c s here err = (c.in-Some.ensures s here).dead c.in-4294967293.is
