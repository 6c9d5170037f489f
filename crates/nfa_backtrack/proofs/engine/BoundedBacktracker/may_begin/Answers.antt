-- What the table of first bytes promises of the byte.
use Rattle.std.proofs.Common.{arith}
use Rattle.nfa_scan_core.proofs.FirstLemmas.{begins-may, begins-none}
use Rattle.nfa_backtrack.proofs.engine.BoundedBacktracker.may_begin.Goals as goal

pub returns-clause-may : goal.returns-clause-may
returns-clause-may c =
    rw (← c.self.view_is)
    (begins-may c.self.invariant.0 c.args.byte (omega (arith, c.ranges.byte.fits)) c.refuses.ensures.admitted)

pub returns-clause-nothing : goal.returns-clause-nothing
returns-clause-nothing c =
    rw (← c.self.view_is) (begins-none c.self.invariant.0 c.args.byte c.refuses.ensures.refused)
