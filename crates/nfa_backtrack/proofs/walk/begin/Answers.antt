-- The first turn of a walk: it goes on from the place that it leads to, or fails if its place was marked.
use Rattle.nfa_backtrack.proofs.PassLemmas.{StartFails-marked, BeginsAt-write, BeginsAt-unkept, BeginsAt-none}
use Rattle.nfa_backtrack.proofs.walk.begin.Goals as goal
use Rattle.nfa_backtrack.proofs.walk.begin.Goals.{then-slot-slots, else-slot-slots}

pub returns-then-not-mark-clause-begins : goal.returns-then-not-mark-clause-begins
returns-then-not-mark-clause-begins c =
    StartFails-marked c.args.slots.now (c.mark.ensures.seen c.if-not-mark.true)

pub returns-after-slot-slots-clause-begins : goal.returns-after-slot-slots-clause-begins
returns-after-slot-slots-clause-begins c =
    let t = c.mark.ensures.taken c.if-not-mark.false in
    let is = rw c.in-Capture.is at c.state_at.ensures.node in
    let below = rw c.in-Capture.is at c.state_at.ensures.leads in
    rw c.to.ensures (elim c.if-slot-slots.branch [
      | then-slot-slots w ↦ rw (w.slots-is, w.write.ensures) (BeginsAt-write c.requires.place t is below)
      | else-slot-slots w ↦ rw w.slots-is (BeginsAt-unkept c.requires.place t is below w.if-slot-slots.false)
    ])

pub returns-in_default-clause-begins : goal.returns-in_default-clause-begins
returns-in_default-clause-begins c = BeginsAt-none c.requires.place
