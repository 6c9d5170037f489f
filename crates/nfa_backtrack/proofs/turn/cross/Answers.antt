-- A turn at a byte state goes on where the byte leads, or finds its place marked. If the byte leads nowhere, it stops.
use Rattle.std.proofs.Common.{refl}
use Rattle.nfa_backtrack.proofs.StepLemmas.{TurnsLead-byte, TurnsLead-marked, TurnsLead-refused}
use Rattle.nfa_backtrack.proofs.turn.cross.Goals as goal

pub returns-in_default-clause-leads : goal.returns-in_default-clause-leads
returns-in_default-clause-leads c = λ walk.
    TurnsLead-refused (rw c.pass.ensures refl) (rw c.pass.ensures refl) (rw c.in_default.is at c.requires.step)

pub returns-then-not-mark-clause-leads : goal.returns-then-not-mark-clause-leads
returns-then-not-mark-clause-leads c = λ walk. TurnsLead-marked (c.mark.ensures.seen c.if-not-mark.true)

pub returns-clause-leads : goal.returns-clause-leads
returns-clause-leads c = λ walk.
    TurnsLead-byte (c.mark.ensures.taken c.if-not-mark.false) c.requires.place.row
    (rw c.in-Some.is at c.requires.step) c.requires.states
