-- A turn enters a state: it marks it, and keeps the state that its byte leads to, or gives the state to go on with.
use Rattle.nfa_scan_core.proofs.TargetLemmas.{none-nil}
use Rattle.nfa_pikevm_scan.proofs.VisitLemmas.{IsPut-made, IsSaved, VisitsState-byte, VisitsState-capture, VisitsState-fail, VisitsState-leads, VisitsState-marked, VisitsState-match, frames-entered, offset-some, onto, states-entered, top-put, within-saved, within-union}
use Rattle.nfa_pikevm_scan.proofs.closure.visit_state.Goals.{else-slot-row, then-slot-row}
use Rattle.nfa_pikevm_scan.proofs.closure.visit_state.Goals as goal
use Rattle.nfa_pikevm_scan.proofs.Common.{[], ap, append-nil, arith, length-drop, refl, sym, take, ◌∙◌, ◌∷◌}

pub returns-in_default-clause-enters : goal.returns-in_default-clause-enters
returns-in_default-clause-enters c = VisitsState-marked (c.in_default.ensures.marked refl)

pub push_target-requires-clause-room : goal.push_target-requires-clause-room
push_target-requires-clause-room c = states-entered c.in-Some.ensures.entered c.requires.room

pub returns-in-ByteRange-clause-enters : goal.returns-in-ByteRange-clause-enters
returns-in-ByteRange-clause-enters c =
    VisitsState-byte (rw c.in-ByteRange.is at c.in-Some.ensures.entered) refl refl c.requires.here.byte
    (rw c.range_target.ensures at c.push_target.ensures.kept)

pub push_target-requires-in-Sparse-clause-room : goal.push_target-requires-in-Sparse-clause-room
push_target-requires-in-Sparse-clause-room c = states-entered c.in-Some.ensures.entered c.requires.room

pub returns-in-Sparse-clause-enters : goal.returns-in-Sparse-clause-enters
returns-in-Sparse-clause-enters c =
    VisitsState-byte (rw c.in-Sparse.is at c.in-Some.ensures.entered) refl refl c.requires.here.byte
    (rw (c.sparse_target.ensures, c.deref.ensures.value) at c.push_target-in-Sparse.ensures.kept)

pub push_target-requires-in-Dense-clause-room : goal.push_target-requires-in-Dense-clause-room
push_target-requires-in-Dense-clause-room c = states-entered c.in-Some.ensures.entered c.requires.room

pub returns-in-Dense-clause-enters : goal.returns-in-Dense-clause-enters
returns-in-Dense-clause-enters c =
    VisitsState-byte (rw c.in-Dense.is at c.in-Some.ensures.entered) refl refl c.requires.here.byte
    (rw (c.dense_target.ensures, c.deref-in-Dense.ensures.value) at c.push_target-in-Dense.ensures.kept)

pub returns-then-look_matches-clause-enters : goal.returns-then-look_matches-clause-enters
returns-then-look_matches-clause-enters c =
    VisitsState-leads (rw c.in-Look.is at c.in-Some.ensures.entered) refl refl {es = c.in-Look.next ∷ []}
    (rw (sym (rw c.haystack.ensures at c.look_matches.ensures) ∙ c.if-look_matches.true) refl) refl
    (sym (append-nil (take c.args.top.now c.args.frames.now)))

pub returns-else-look_matches-clause-enters : goal.returns-else-look_matches-clause-enters
returns-else-look_matches-clause-enters c =
    VisitsState-leads (rw c.in-Look.is at c.in-Some.ensures.entered) refl refl {es = []}
    (rw (sym (rw c.haystack.ensures at c.look_matches.ensures) ∙ c.if-look_matches.false) refl) refl
    (sym (append-nil (take c.args.top.now c.args.frames.now)))

pub returns-in-Fail-clause-enters : goal.returns-in-Fail-clause-enters
returns-in-Fail-clause-enters c = VisitsState-fail (rw c.in-Fail.is at c.in-Some.ensures.entered)

pub returns-in-Match-clause-enters : goal.returns-in-Match-clause-enters
returns-in-Match-clause-enters c =
    VisitsState-match c.in-Match.pattern_id (rw c.in-Match.is at c.in-Some.ensures.entered)

pub push_alternates-requires : goal.push_alternates-requires
push_alternates-requires c =
    let room = frames-entered (rw c.in-Union.is at c.in-Some.ensures.entered) c.requires.room in
    rw c.deref-in-Union-2.ensures.value
    (omega (arith, room, c.requires.room.stack, length-drop 1 c.in-Union.alternates.items))

pub returns-in_default-first-clause-enters : goal.returns-in_default-first-clause-enters
returns-in_default-first-clause-enters c =
    VisitsState-leads (rw c.in-Union.is at c.in-Some.ensures.entered) refl refl
    (none-nil c.in-Union.alternates.items (sym (rw c.deref-in-Union.ensures.value at c.in_default-first.ensures.value)))
    refl (sym (append-nil (take c.args.top.now c.args.frames.now)))

pub returns-in-Some-first-clause-top : goal.returns-in-Some-first-clause-top
returns-in-Some-first-clause-top c =
    let room = frames-entered (rw c.in-Union.is at c.in-Some.ensures.entered) c.requires.room in
    let top = rw c.deref-in-Union-2.ensures.value at c.push_alternates.ensures.top in
    omega (arith, room, top, length-drop 1 c.in-Union.alternates.items)

pub returns-in-Some-first-clause-within : goal.returns-in-Some-first-clause-within
returns-in-Some-first-clause-within c =
    within-union _ _ c.in-Union.alternates.items _ _ _
    (sym (rw c.deref-in-Union.ensures.value at c.in-Some-first.ensures.value))
    (rw c.deref-in-Union-2.ensures.value at c.push_alternates.ensures.stack) c.requires.within
    (rw c.in-Union.is at c.in-Some.ensures.leads)

pub returns-in-Some-first-clause-enters : goal.returns-in-Some-first-clause-enters
returns-in-Some-first-clause-enters c =
    VisitsState-leads (rw c.in-Union.is at c.in-Some.ensures.entered) refl refl refl
    (ap onto (rw c.deref-in-Union.ensures.value at c.in-Some-first.ensures.value))
    (rw c.deref-in-Union-2.ensures.value at c.push_alternates.ensures.stack)

pub push-requires : goal.push-requires
push-requires c =
    let room = frames-entered (rw c.in-BinaryUnion.is at c.in-Some.ensures.entered) c.requires.room in
    omega (arith, room, c.requires.room.stack)

pub returns-in-BinaryUnion-clause-top : goal.returns-in-BinaryUnion-clause-top
returns-in-BinaryUnion-clause-top c =
    let room = frames-entered (rw c.in-BinaryUnion.is at c.in-Some.ensures.entered) c.requires.room in
    omega (arith, room, c.push.ensures.top)

pub returns-in-BinaryUnion-clause-enters : goal.returns-in-BinaryUnion-clause-enters
returns-in-BinaryUnion-clause-enters c =
    VisitsState-leads (rw c.in-BinaryUnion.is at c.in-Some.ensures.entered) refl refl refl refl c.push.ensures.stack

pub push_restore-requires-clause-room : goal.push_restore-requires-clause-room
push_restore-requires-clause-room c =
    let room = frames-entered (rw c.in-Capture.is at c.in-Some.ensures.entered) c.requires.room in
    omega (arith, room, c.requires.room.stack)

pub returns-after-slot-row-clause-top : goal.returns-after-slot-row-clause-top
returns-after-slot-row-clause-top c =
    let room = frames-entered (rw c.in-Capture.is at c.in-Some.ensures.entered) c.requires.room in
    let same = c.if-slot-row.auto.frames in
    elim c.if-slot-row.branch [
      | then-slot-row w ↦ let put = top-put c.args.top.now w.push_restore.new.top w.push_restore.ensures.empty
          w.push_restore.ensures.top in omega (arith, room, same, w.top-is)
      | else-slot-row w ↦ omega (arith, same, w.top-is)
    ]

-- what was written and pushed
saved : (c : goal.After-result-in-Capture-1)
    → IsSaved c.args.here.now.at c.in-Capture.slot (take c.args.top.now c.args.frames.now) c.args.row.now
    (take c.if-slot-row.top c.if-slot-row.frames) c.if-slot-row.row
saved c = grind (arith, then-slot-row, offset-some, IsPut-made, else-slot-row)

pub returns-after-slot-row-clause-within : goal.returns-after-slot-row-clause-within
returns-after-slot-row-clause-within c =
    within-saved _ c.args.here.now.at c.in-Capture.slot (take c.args.top.now c.args.frames.now) c.args.row.now _ _
    (saved c) c.requires.within

pub returns-after-slot-row-clause-enters : goal.returns-after-slot-row-clause-enters
returns-after-slot-row-clause-enters c =
    VisitsState-capture _ (rw c.in-Capture.is at c.in-Some.ensures.entered) c.args.here.now.at (saved c)
