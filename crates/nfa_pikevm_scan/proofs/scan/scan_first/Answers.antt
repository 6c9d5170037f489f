-- A scan that is leftmost first answers the first accepting path.
use Rattle.nfa_paths.proofs.Common.{arith, length, refl, sym, ◌∙◌, ◌≡◌}
use Rattle.nfa_pikevm_scan.proofs.EndLemmas.{first-over}
use Rattle.nfa_pikevm_scan.proofs.FrontierLemmas.{AreAt-turns}
use Rattle.nfa_pikevm_scan.proofs.LoneLemmas.{Joined-first, Joined-start, MayCross-joined, ScansFirst-begin, ScansFirst-match, ScansFirst-miss}
use Rattle.nfa_pikevm_scan.proofs.RowLemmas.{HaveRows-kept, KeepsThreads-then, is_none_of, none_of}
use Rattle.nfa_pikevm_scan.proofs.scan.scan_first.Goals.{else-is_some, else-is_some-2, then-is_some+else-is_empty, then-is_some-2}
use Rattle.nfa_pikevm_scan.proofs.scan.scan_first.Goals as goal

pub loop-to-init : goal.loop-to-init
loop-to-init c =
    let ready = c.requires.ready in
    let joined = Joined-first ready c.requires.first c.requires.some (rw c.start.ensures at c.pass_over-at.ensures) in
    let gives = c.nexts_of_start.ensures in
    elim c.if-is_some.branch [
      | then-is_some+else-is_empty w ↦
          rw w.limit-is
          (ScansFirst-match (ScansFirst-begin ready) ready.starts joined gives.keeps gives.next gives.crosses
          c.half_at-found.result c.half_at-found.ensures (sym c.is_some.ensures ∙ w.if-is_some.true))
      | else-is_some w ↦
          let none = sym c.is_some.ensures ∙ w.if-is_some.false in
          rw (w.limit-is, is_none_of c.half_at-found.result none)
          (ScansFirst-miss (ScansFirst-begin ready) ready.starts joined gives.keeps gives.next gives.crosses
          c.half_at-found.result c.half_at-found.ensures none)
    ]

pub returns-then-is_empty-clause-turns : goal.returns-then-is_empty-clause-turns
returns-then-is_empty-clause-turns c =
    let ready = c.requires.ready in
    let joined = Joined-first ready c.requires.first c.requires.some (rw c.start.ensures at c.pass_over-at.ensures) in
    let gives = c.nexts_of_start.ensures in
    let s = ScansFirst-match (ScansFirst-begin ready) ready.starts joined gives.keeps gives.next gives.crosses
    c.half_at-found.result c.half_at-found.ensures (sym c.is_some.ensures ∙ c.if-is_some.true) in
    AreAt-turns s.high ready.span s.states

pub returns-then-is_empty-clause-answer : goal.returns-then-is_empty-clause-answer
returns-then-is_empty-clause-answer c =
    let ready = c.requires.ready in
    let joined = Joined-first ready c.requires.first c.requires.some (rw c.start.ensures at c.pass_over-at.ensures) in
    let gives = c.nexts_of_start.ensures in
    let s = ScansFirst-match (ScansFirst-begin ready) ready.starts joined gives.keeps gives.next gives.crosses
    c.half_at-found.result c.half_at-found.ensures (sym c.is_some.ensures ∙ c.if-is_some.true) in
    first-over s.searches (omega arith)
    (none_of c.nexts_of_start.new.threads.curr.items (c.is_empty.ensures.0 c.if-is_empty.true))
    (sym c.nexts_of_start.auto.slots)

pub returns-in_default-clause-turns : goal.returns-in_default-clause-turns
returns-in_default-clause-turns c =
    let s = c.loop-to.invariant in
    rw c.in_default.ensures.seen (AreAt-turns s.high c.requires.ready.span s.states)

pub returns-in_default-clause-answer : goal.returns-in_default-clause-answer
returns-in_default-clause-answer c =
    rw c.in_default.ensures.seen
    (first-over c.loop-to.invariant.searches (c.in_default.ensures.none refl) (c.in_default.ensures.over refl)
    (sym (c.loop-to.auto.slots ∙ c.nexts_of_start.auto.slots)))

pub nexts-requires-clause-ready : goal.nexts-requires-clause-ready
nexts-requires-clause-ready c =
    let s = c.loop-to.invariant in
    let ready = c.requires.ready in
    let joins = rw (s.keeps.width, ready.room.width_is) at c.in-Some.ensures.joins in
    let joined = Joined-start s c.requires.first ready.starts joins c.in-Some.ensures.some in
    rw (c.loop-to.auto.slots, c.nexts_of_start.auto.slots) (MayCross-joined joined refl
    (HaveRows-kept ready.room (KeepsThreads-then s.keeps c.in-Some.ensures.keeps)) (c.in-Some.ensures.next ∙ s.next))

pub run_lone-last-requires-clause-room : goal.run_lone-last-requires-clause-room
run_lone-last-requires-clause-room c = grind (arith, KeepsThreads-then, HaveRows-kept)

pub run_lone-last-requires-clause-first : goal.run_lone-last-requires-clause-first
run_lone-last-requires-clause-first c =
    let s = c.loop-to.invariant in
    let ready = c.requires.ready in
    let joins = rw (s.keeps.width, ready.room.width_is) at c.in-Some.ensures.joins in
    let joined = Joined-start s c.requires.first ready.starts joins c.in-Some.ensures.some in
    let crosses = rw c.in-Some.ensures.seen at c.nexts.ensures.crosses in
    let long : length c.nexts.new.slots ≡ length c.args.slots.now = c.nexts.auto.slots ∙ c.loop-to.auto.slots
    ∙ c.nexts_of_start.auto.slots in (
      c.args.threads.now,
      rw long (ScansFirst-match s ready.starts joined
          (KeepsThreads-then c.in-Some.ensures.keeps c.nexts.ensures.keeps) c.nexts.ensures.next crosses
          c.half_at-hit.result c.half_at-hit.ensures (sym c.is_some-in-loop-to.ensures ∙ c.if-is_some-2.true)),
    )

pub loop-to-preserved : goal.loop-to-preserved
loop-to-preserved c =
    let s = c.loop-to.invariant in
    let ready = c.requires.ready in
    let joins = rw (s.keeps.width, ready.room.width_is) at c.in-Some.ensures.joins in
    let joined = Joined-start s c.requires.first ready.starts joins c.in-Some.ensures.some in
    let crosses = rw c.in-Some.ensures.seen at c.nexts.ensures.crosses in
    let keeps = KeepsThreads-then c.in-Some.ensures.keeps c.nexts.ensures.keeps in
    let long : length c.nexts.new.slots ≡ length c.args.slots.now = c.nexts.auto.slots ∙ c.loop-to.auto.slots
    ∙ c.nexts_of_start.auto.slots in
    elim c.if-is_some-2.branch [
      | then-is_some-2 w ↦
          let first = rw long at w.run_lone-last.ensures.first in
          rw (w.threads-is, w.slots-is, w.limit-is, w.at-is, w.found-is)
          (first c.args.threads.now (ScansFirst-match s ready.starts joined keeps c.nexts.ensures.next crosses
          c.half_at-hit.result c.half_at-hit.ensures (sym c.is_some-in-loop-to.ensures ∙ w.if-is_some-2.true)))
      | else-is_some-2 w ↦
          rw (w.threads-is, w.slots-is, w.limit-is, w.at-is, w.found-is)
          (ScansFirst-miss s ready.starts joined keeps c.nexts.ensures.next crosses c.half_at-hit.result
          c.half_at-hit.ensures (sym c.is_some-in-loop-to.ensures ∙ w.if-is_some-2.false))
    ]
