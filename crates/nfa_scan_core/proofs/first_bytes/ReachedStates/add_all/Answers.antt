-- Each of the states was reached, and no other.
use Rattle.nfa_paths.proofs.Common.{◌≡◌, ◌∙◌, ◌<◌, length, get_or, below_more, subst, sym, get_or_default}
use Rattle.nfa_scan_core.specs.FirstBytes.{WasReached}
use Rattle.nfa_scan_core.proofs.FirstLemmas.{Extends-then, WasReached-extends, AddsOnly-then, In-at, In-one, LacksRoom-among}
use Rattle.nfa_scan_core.proofs.first_bytes.ReachedStates.add_all.Goals as goal

pub loop-i-preserved : goal.loop-i-preserved
loop-i-preserved c =
    let inside : c.loop-i.i < length c.args.sids.now = c.loop-i-test.true in
    let is : c.index-sids-i.result ≡ get_or c.args.sids.now c.loop-i.i 0 = c.index-sids-i.is
    ∙ get_or_default c.args.sids.now c.loop-i.i _ 0 inside in
    let here : WasReached c.add.new.self (get_or c.args.sids.now c.loop-i.i 0) =
    subst (λ s. WasReached c.add.new.self s) is (c.add.ensures.added c.if-not-add.false) in
    record {
      room = c.add.ensures.room;
      extends = Extends-then c.loop-i.invariant.extends c.add.ensures.extends;
      added = λ k d h. below_more (λ k. WasReached c.add.new.self (get_or c.args.sids.now k d)) c.loop-i.i
          (λ k l. WasReached-extends c.add.ensures.extends (c.loop-i.invariant.added k d l))
          (rw (get_or_default c.args.sids.now c.loop-i.i d 0 inside) here) k h;
      below = λ n all prior. c.add.ensures.below n (subst (λ s. s < n) (sym is) (all c.loop-i.i 0 inside))
          (c.loop-i.invariant.below n all prior);
      only = AddsOnly-then c.loop-i.invariant.only c.add.ensures.only c.add.ensures.extends (λ x i. i)
          (In-one c.index-sids-i.result c.args.sids.now
          (rw c.index-sids-i.is (In-at c.args.sids.now c.loop-i.i _ inside)));
      differ = λ prior. c.add.ensures.differ (c.loop-i.invariant.differ prior);
    }

pub returns-then-not-add-clause-only : goal.returns-then-not-add-clause-only
returns-then-not-add-clause-only c =
    let inside : c.loop-i.i < length c.args.sids.now = c.loop-i-test.true in
    AddsOnly-then c.loop-i.invariant.only c.add.ensures.only c.add.ensures.extends (λ x i. i)
    (In-one c.index-sids-i.result c.args.sids.now
    (rw c.index-sids-i.is (In-at c.args.sids.now c.loop-i.i _ inside)))

pub returns-then-not-add-clause-full : goal.returns-then-not-add-clause-full
returns-then-not-add-clause-full c = λ _.
    let inside : c.loop-i.i < length c.args.sids.now = c.loop-i-test.true in
    LacksRoom-among (c.add.ensures.full c.if-not-add.true)
    (In-one c.index-sids-i.result c.args.sids.now
    (rw c.index-sids-i.is (In-at c.args.sids.now c.loop-i.i _ inside)))
