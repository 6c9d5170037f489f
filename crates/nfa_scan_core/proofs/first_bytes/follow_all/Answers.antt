-- If all states that were reached were followed, the table has the bytes that a match may begin with.
use Rattle.std.proofs.Common.{◌<◌, length, arith}
use Rattle.nfa_scan_core.proofs.FirstLemmas.{WasReached-extends, covers-step, covers-all, IsFirstBytes-covered, admits-none, each-first, at_start-step, least-step, stops-step}
use Rattle.nfa_scan_core.specs.FirstBytes.{IsReachedAtStart}
use Rattle.nfa_scan_core.specs.FirstBytes.IsReachedAtStart.{begin}
use Rattle.nfa_scan_core.specs.FirstBytes.MayBegin.{reads}
use Rattle.nfa_scan_core.proofs.first_bytes.follow_all.Goals as goal

pub loop-done-init : goal.loop-done-init
loop-done-init c = record {
  room = omega arith;
  inside = omega arith;
  start = record { place = 0; below = omega arith; is = c.start_anchored.ensures.value };
  covers = λ k h. absurd (omega arith);
  below = each-first (λ s. s < length c.args.nfa.now.states) 63 c.start_anchored.result c.start_anchored.ensures.within;
  at_start = each-first (IsReachedAtStart c.args.nfa.now) 63 c.start_anchored.result
      (rw c.start_anchored.ensures.value begin);
  differ = λ j k less h e. absurd (omega arith);
  least = λ b small a. absurd (admits-none 256 b small a);
}

pub loop-done-preserved : goal.loop-done-preserved
loop-done-preserved c =
    let less : c.loop-done.done < c.loop-done.reached.len = c.loop-done-test.true in
    record {
      room = c.follow.ensures.room;
      inside = omega (arith, c.follow.ensures.extends.more);
      start = WasReached-extends c.follow.ensures.extends c.loop-done.invariant.start;
      covers = covers-step c.args.nfa.now c.loop-done.reached c.follow.new.reached c.loop-done.table c.follow.new.table
          c.loop-done.done _ _ less (omega (arith, c.loop-done.invariant.room))
          c.follow.ensures.extends c.follow.ensures.grows c.state-state.ensures.node
          (c.follow.ensures.covers c.if-not-follow.false) c.loop-done.invariant.covers;
      below = c.follow.ensures.below _ c.state-state.ensures.leads c.loop-done.invariant.below;
      at_start = at_start-step c.args.nfa.now c.loop-done.reached c.follow.new.reached c.loop-done.done _ _ less
          (omega arith) c.loop-done.invariant.room c.state-state.ensures.node c.loop-done.invariant.at_start
          c.follow.ensures.extends c.follow.ensures.adds;
      differ = c.follow.ensures.differ c.loop-done.invariant.differ;
      least = least-step c.args.nfa.now c.loop-done.reached c.follow.new.reached c.loop-done.done _ _ less
          (omega arith) c.loop-done.invariant.room c.state-state.ensures.node c.loop-done.invariant.at_start
          c.loop-done.table c.follow.new.table c.follow.ensures.only c.loop-done.invariant.least;
    }

pub returns-clause-some : goal.returns-clause-some
returns-clause-some c =
    IsFirstBytes-covered c.args.nfa.now c.loop-done.table c.loop-done.reached c.loop-done.invariant.start
    (covers-all c.args.nfa.now c.loop-done.reached c.loop-done.table c.loop-done.done c.loop-done-test.false
    c.loop-done.invariant.covers) (λ b small admits. reads (c.loop-done.invariant.least b small admits))

pub returns-then-not-follow-clause-none : goal.returns-then-not-follow-clause-none
returns-then-not-follow-clause-none c =
    let less : c.loop-done.done < c.loop-done.reached.len = c.loop-done-test.true in
    stops-step c.args.nfa.now c.loop-done.reached c.follow.new.reached c.loop-done.done _ _ less (omega arith)
    c.loop-done.invariant.room c.state-state.ensures.node c.loop-done.invariant.at_start
    c.follow.ensures.extends c.follow.ensures.adds (c.follow.ensures.differ c.loop-done.invariant.differ)
    (c.follow.ensures.stops c.if-not-follow.true)
