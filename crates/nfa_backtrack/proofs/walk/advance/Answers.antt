-- After a turn that leads nowhere, frames are popped.
use Rattle.nfa_paths.proofs.Common.{refl}
use Rattle.nfa_backtrack.proofs.ApplyFrameLemmas.{TurnsLead-resumed}
use Rattle.nfa_backtrack.proofs.walk.advance.Goals as goal

pub returns-in-Matched-clause-advances : goal.returns-in-Matched-clause-advances
returns-in-Matched-clause-advances c =
    rw c.new.ensures (rw c.in-Matched.is at c.in_ok-next.ensures.goes)

pub returns-in-Some-clause-advances : goal.returns-in-Some-clause-advances
returns-in-Some-clause-advances c =
    TurnsLead-resumed (rw c.in-DeadEnd.is at c.in_ok-next.ensures.goes) c.in-Some.ensures.resumes
    c.requires.ready.within

pub returns-in-None-clause-advances : goal.returns-in-None-clause-advances
returns-in-None-clause-advances c = (
  c.in-None.ensures.over refl,
  TurnsLead-resumed (rw c.in-DeadEnd.is at c.in_ok-next.ensures.goes)
      c.in-None.ensures.resumes c.requires.ready.within,
)
