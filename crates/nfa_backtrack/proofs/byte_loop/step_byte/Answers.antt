-- A turn at a byte state goes on where the byte leads, or stops there, or finds its place marked.
use Rattle.nfa_paths.proofs.Common.{refl, ByteRange}
use Rattle.nfa_backtrack.proofs.StepLemmas.{same_size, TurnsLead-byte, TurnsLead-marked, TurnsLead-stop}
use Rattle.nfa_backtrack.proofs.byte_loop.step_byte.Goals as goal

pub returns-then-not-mark-clause-leads : goal.returns-then-not-mark-clause-leads
returns-then-not-mark-clause-leads c = λ walk. TurnsLead-marked (c.mark.ensures.seen c.if-not-mark.true)

pub returns-in-Some-clause-leads : goal.returns-in-Some-clause-leads
returns-in-Some-clause-leads c = λ walk.
    TurnsLead-byte (c.mark.ensures.taken c.if-not-mark.false) c.requires.place.row
    (record {
      node = ByteRange c.args.trans.now;
      is = c.requires.state;
      reads = refl;
      below = c.requires.onto;
      leads = rw (← c.byte_at-byte.ensures) c.in-Some.ensures;
    })
    (same_size c.args.nfa.now c.states.result.now c.states.ensures.nodes)

pub returns-in-None-clause-leads : goal.returns-in-None-clause-leads
returns-in-None-clause-leads c = λ walk.
    TurnsLead-stop (c.mark.ensures.taken c.if-not-mark.false) c.requires.place.row
    (record {
      node = ByteRange c.args.trans.now;
      is = c.requires.state;
      reads = refl;
      below = c.requires.onto;
      leads = rw (← c.byte_at-byte.ensures) c.in-None.ensures;
    })
