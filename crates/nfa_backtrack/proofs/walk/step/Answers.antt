-- Where a turn leads, for each kind of state; its mark pays for what it pushes.
use Rattle.nfa_paths.proofs.Common.{◌<◌, ◌∙◌, length, drop, arith, refl, sym, search_of, ByteRange, Sparse, Dense}
use Rattle.nfa_scan_core.proofs.TargetLemmas.{first-drop}
use Rattle.nfa_backtrack.specs.Walk.{walk_of, PushesLive}
use Rattle.nfa_backtrack.proofs.StepLemmas.{beside, Goes-leads, Goes-match, TurnsLead-fail, TurnsLead-look, TurnsLead-marked, TurnsLead-no_look, TurnsLead-no_union, TurnsLead-then, TurnsLead-union, TurnsLead-unkept, TurnsLead-write, refused-turn, refused-then}
use Rattle.nfa_backtrack.proofs.AlternateLemmas.{TurnsLead-live}
use Rattle.nfa_backtrack.proofs.walk.step.Goals as goal
use Rattle.nfa_backtrack.proofs.walk.step.Goals.{then-slot-slots+in_ok-save-in-Capture, else-slot-slots}

pub cross-next-requires-clause-step : goal.cross-next-requires-clause-step
cross-next-requires-clause-step c =
    record {
      node = ByteRange c.in-ByteRange.trans;
      is = rw c.in-ByteRange.is at c.state_at.ensures.node;
      reads = refl;
      below = rw c.in-ByteRange.is at c.state_at.ensures.leads;
      leads = rw (← c.byte_at.ensures) c.range_target-target.ensures;
    }

pub returns-in-ByteRange-clause-goes : goal.returns-in-ByteRange-clause-goes
returns-in-ByteRange-clause-goes c =
    rw c.move_to.ensures
    (Goes-leads c.cross-next.result
    (c.cross-next.ensures.leads (walk_of c.args.scratch.now c.args.slots.now)))

pub cross-next-requires-in-Sparse-clause-step : goal.cross-next-requires-in-Sparse-clause-step
cross-next-requires-in-Sparse-clause-step c =
    let list = c.deref.ensures.value in
    record {
      node = Sparse c.in-Sparse.transitions.items;
      is = rw c.in-Sparse.is at c.state_at.ensures.node;
      reads = refl;
      below = rw c.in-Sparse.is at c.state_at.ensures.leads;
      leads = rw (← c.byte_at-in-Sparse.ensures) (rw list at c.sparse_target-target.ensures);
    }

pub returns-in-Sparse-clause-goes : goal.returns-in-Sparse-clause-goes
returns-in-Sparse-clause-goes c =
    rw c.move_to-in-Sparse.ensures
    (Goes-leads c.cross-next-in-Sparse.result
    (c.cross-next-in-Sparse.ensures.leads (walk_of c.args.scratch.now c.args.slots.now)))

pub cross-next-requires-in-Dense-clause-step : goal.cross-next-requires-in-Dense-clause-step
cross-next-requires-in-Dense-clause-step c =
    let list = c.deref-in-Dense.ensures.value in
    record {
      node = Dense c.in-Dense.targets.items;
      is = rw c.in-Dense.is at c.state_at.ensures.node;
      reads = refl;
      below = rw c.in-Dense.is at c.state_at.ensures.leads;
      leads = rw (← c.byte_at-in-Dense.ensures) (rw list at c.dense_target-target.ensures);
    }

pub returns-in-Dense-clause-goes : goal.returns-in-Dense-clause-goes
returns-in-Dense-clause-goes c =
    rw c.move_to-in-Dense.ensures
    (Goes-leads c.cross-next-in-Dense.result
    (c.cross-next-in-Dense.ensures.leads (walk_of c.args.scratch.now c.args.slots.now)))

pub returns-then-not-mark-clause-goes : goal.returns-then-not-mark-clause-goes
returns-then-not-mark-clause-goes c = TurnsLead-marked (c.mark.ensures.seen c.if-not-mark.true)

pub returns-then-not-mark-2-clause-goes : goal.returns-then-not-mark-2-clause-goes
returns-then-not-mark-2-clause-goes c = TurnsLead-marked (c.mark-in-Union.ensures.seen c.if-not-mark-2.true)

pub returns-then-not-mark-3-clause-goes : goal.returns-then-not-mark-3-clause-goes
returns-then-not-mark-3-clause-goes c = TurnsLead-marked (c.mark-in-BinaryUnion.ensures.seen c.if-not-mark-3.true)

pub returns-then-not-mark-4-clause-goes : goal.returns-then-not-mark-4-clause-goes
returns-then-not-mark-4-clause-goes c = TurnsLead-marked (c.mark-in-Capture.ensures.seen c.if-not-mark-4.true)

pub returns-then-not-mark-5-clause-goes : goal.returns-then-not-mark-5-clause-goes
returns-then-not-mark-5-clause-goes c = TurnsLead-marked (c.mark-in-Match.ensures.seen c.if-not-mark-5.true)

pub returns-then-assertion_holds-clause-goes : goal.returns-then-assertion_holds-clause-goes
returns-then-assertion_holds-clause-goes c =
    let t = c.mark.ensures.taken c.if-not-mark.false in
    let is = rw c.in-Look.is at c.state_at.ensures.node in
    let below = rw c.in-Look.is at c.state_at.ensures.leads in
    let holds = sym (rw c.haystack.ensures at c.assertion_holds.ensures) ∙ c.if-assertion_holds.true in
    rw c.to.ensures (TurnsLead-look t c.requires.ready.is_place.row is holds below)

pub returns-else-assertion_holds-clause-goes : goal.returns-else-assertion_holds-clause-goes
returns-else-assertion_holds-clause-goes c =
    let t = c.mark.ensures.taken c.if-not-mark.false in
    let is = rw c.in-Look.is at c.state_at.ensures.node in
    let fails = sym (rw c.haystack.ensures at c.assertion_holds.ensures) ∙ c.if-assertion_holds.false in
    TurnsLead-no_look t c.requires.ready.is_place.row is fails

pub returns-in_default-clause-goes : goal.returns-in_default-clause-goes
returns-in_default-clause-goes c =
    let t = c.mark-in-Union.ensures.taken c.if-not-mark-2.false in
    let is = rw c.in-Union.is at c.state_at.ensures.node in
    let none = sym (rw c.deref-in-Union.ensures.value at c.in_default.ensures.value) in
    TurnsLead-no_union t c.requires.ready.is_place.row is none

pub push_alternates-requires : goal.push_alternates-requires
push_alternates-requires c =
    let below = rw c.in-Union.is at c.state_at.ensures.leads in
    rw c.deref-in-Union-2.ensures.value below

-- the alternatives that were pushed
pushes : (c : goal.After-to-in-Union)
    → PushesLive c.args.nfa.now (search_of c.args.input.now) c.args.place (drop 1 c.in-Union.alternates.items)
    c.args.scratch.now.stack.items c.push_alternates.new.stack.items
pushes c =
    rw c.deref-in-Union-2.ensures.value at
    (c.in_ok-push_alternates-in-Union.ensures (search_of c.args.input.now) c.requires.ready.is_place
    c.byte_at-byte.ensures)

pub returns-in_ok-push_alternates-in-Union-clause-goes : goal.returns-in_ok-push_alternates-in-Union-clause-goes
returns-in_ok-push_alternates-in-Union-clause-goes c =
    let t = c.mark-in-Union.ensures.taken c.if-not-mark-2.false in
    let is = rw c.in-Union.is at c.state_at.ensures.node in
    let below = rw c.in-Union.is at c.state_at.ensures.leads in
    let first = sym (rw c.deref-in-Union.ensures.value at c.in-Some.ensures.value) in
    let split = first-drop c.in-Union.alternates.items c.in-Some.first.now first in
    let state : c.in-Some.first.now < length c.args.nfa.now.states = (rw split at below) 0 0 (omega arith) in
    rw c.to-in-Union.ensures
    (TurnsLead-live t is first (pushes c) (beside t c.requires.ready.is_place.row c.in-Some.first.now state))

pub returns-in_err-push_alternates-in-Union-clause-refused : goal.returns-in_err-push_alternates-in-Union-clause-refused
returns-in_err-push_alternates-in-Union-clause-refused c =
    refused-turn c.from_residual.result c.args.nfa.now (search_of c.args.input.now)
    c.args.scratch.now.stack.items c.args.scratch.now.visited c.mark-in-Union.new.visited
    c.mark-in-Union.ensures.turns

pub returns-in_err-push-in-BinaryUnion-clause-refused : goal.returns-in_err-push-in-BinaryUnion-clause-refused
returns-in_err-push-in-BinaryUnion-clause-refused c =
    refused-turn c.from_residual-in_err-push-in-BinaryUnion.result c.args.nfa.now (search_of c.args.input.now)
    c.args.scratch.now.stack.items c.args.scratch.now.visited c.mark-in-BinaryUnion.new.visited
    c.mark-in-BinaryUnion.ensures.turns

pub returns-in_err-save-in-Capture-clause-refused : goal.returns-in_err-save-in-Capture-clause-refused
returns-in_err-save-in-Capture-clause-refused c =
    refused-turn c.from_residual-in_err-save-in-Capture.result c.args.nfa.now (search_of c.args.input.now)
    c.args.scratch.now.stack.items c.args.scratch.now.visited c.mark-in-Capture.new.visited
    c.mark-in-Capture.ensures.turns

pub run_loop-requires-clause-state : goal.run_loop-requires-clause-state
run_loop-requires-clause-state c =
    rw c.to-preferred.ensures (c.in-Some-byte_loop_at.ensures.found c.in-Some-byte_loop_at.trans refl).loops

pub returns-in_err-run_loop-in-BinaryUnion-clause-refused : goal.returns-in_err-run_loop-in-BinaryUnion-clause-refused
returns-in_err-run_loop-in-BinaryUnion-clause-refused c =
    let t = c.mark-in-BinaryUnion.ensures.taken c.if-not-mark-3.false in
    let is = rw c.in-BinaryUnion.is at c.state_at.ensures.node in
    let below = rw c.in-BinaryUnion.is at c.state_at.ensures.leads in
    let union = TurnsLead-union {a = walk_of c.args.scratch.now c.args.slots.now} t c.requires.ready.is_place.row is
    below.0 below.1 in
    let round = rw (c.in_ok-push-in-BinaryUnion.ensures.items, c.later.ensures) at
    c.in_err-run_loop-in-BinaryUnion.ensures.refused in
    refused-then c.from_residual-in_err-run_loop-in-BinaryUnion.result c.run_loop.new.scratch.visited union round

pub returns-in-Some-byte_loop_at-clause-goes : goal.returns-in-Some-byte_loop_at-clause-goes
returns-in-Some-byte_loop_at-clause-goes c =
    let t = c.mark-in-BinaryUnion.ensures.taken c.if-not-mark-3.false in
    let is = rw c.in-BinaryUnion.is at c.state_at.ensures.node in
    let below = rw c.in-BinaryUnion.is at c.state_at.ensures.leads in
    let union = TurnsLead-union {a = walk_of c.args.scratch.now c.args.slots.now} t c.requires.ready.is_place.row is
    below.0 below.1 in
    TurnsLead-then union
    (rw (c.in_ok-push-in-BinaryUnion.ensures.items, c.later.ensures, c.to-preferred.ensures) at
    (c.in_ok-run_loop-in-BinaryUnion.ensures.leads c.args.slots.now))

pub returns-in_default-byte_loop_at-clause-goes : goal.returns-in_default-byte_loop_at-clause-goes
returns-in_default-byte_loop_at-clause-goes c =
    let t = c.mark-in-BinaryUnion.ensures.taken c.if-not-mark-3.false in
    let is = rw c.in-BinaryUnion.is at c.state_at.ensures.node in
    let below = rw c.in-BinaryUnion.is at c.state_at.ensures.leads in
    let union = TurnsLead-union {a = walk_of c.args.scratch.now c.args.slots.now} t c.requires.ready.is_place.row is
    below.0 below.1 in
    rw (c.to-preferred.ensures, c.in_ok-push-in-BinaryUnion.ensures.items, c.later.ensures) union

pub returns-after-slot-slots-clause-goes : goal.returns-after-slot-slots-clause-goes
returns-after-slot-slots-clause-goes c =
    let t = c.mark-in-Capture.ensures.taken c.if-not-mark-4.false in
    let is = rw c.in-Capture.is at c.state_at.ensures.node in
    let below = rw c.in-Capture.is at c.state_at.ensures.leads in
    rw c.to-in-Capture.ensures
    (elim c.if-slot-slots.branch [
      | then-slot-slots+in_ok-save-in-Capture w ↦
          rw (
            w.scratch-is,
            w.slots-is,
            w.in_ok-save-in-Capture.ensures.stack,
            w.in_ok-save-in-Capture.ensures.slots,
          )
          (TurnsLead-write t c.requires.ready.is_place.row is below w.if-slot-slots.true)
      | else-slot-slots w ↦
          rw (w.scratch-is, w.slots-is)
          (TurnsLead-unkept t c.requires.ready.is_place.row is below w.if-slot-slots.false)
    ])

pub returns-in-Fail-clause-goes : goal.returns-in-Fail-clause-goes
returns-in-Fail-clause-goes c =
    let is = rw c.in-Fail.is at c.state_at.ensures.node in
    TurnsLead-fail (rw c.pass.ensures refl) (rw c.pass.ensures refl) is

pub returns-else-not-mark-5-clause-goes : goal.returns-else-not-mark-5-clause-goes
returns-else-not-mark-5-clause-goes c =
    let t = c.mark-in-Match.ensures.taken c.if-not-mark-5.false in
    let is = rw c.in-Match.is at c.state_at.ensures.node in
    Goes-match t c.in-Match.pattern_id is
