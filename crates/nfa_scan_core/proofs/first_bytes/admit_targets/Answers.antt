-- Each byte that has a target is admitted.
use Rattle.nfa_paths.proofs.Common.{arith, inl, inr, true, cases_lt, get_or_past}
use Rattle.nfa_scan_core.proofs.first_bytes.admit_targets.Goals as goal

pub returns-clause-admits : goal.returns-clause-admits
returns-clause-admits c = λ b t e.
    elim (cases_lt b c.loop-byte.byte) [
      | inl less ↦ c.loop-byte.invariant.done b less t e
      | inr past ↦ get_or_past c.loop-byte.table b true
          (omega (arith, c.loop-byte-test.false, c.loop-byte.invariant.size))
    ]
