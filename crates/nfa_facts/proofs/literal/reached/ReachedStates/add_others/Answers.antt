-- The targets of one transition more were added.
use Rattle.nfa_paths.proofs.Common.{◌≡◌, ◌∙◌, ◌<◌, length, get_or, subst, arith, below_more, get_or_default, ByteRange}
use Rattle.nfa_facts.specs.Reached.{HasOtherTargets}
use Rattle.nfa_facts.proofs.ReachedLemmas.{AddsTo-then, HasOtherTargets-added, others-all}
use Rattle.nfa_facts.proofs.literal.reached.ReachedStates.add_others.Goals as goal

pub loop-trans-preserved : goal.loop-trans-preserved
loop-trans-preserved c =
    let xs = c.args.transitions.now in
    let i = c.loop-trans.trans-index in
    let inside : i < length xs = c.loop-trans-test.true in
    let before = c.loop-trans.invariant in
    let added = c.in_ok-add_other.ensures in
    let new = c.add_other.new.self.states in
    record {
      room = added.room ∙ before.room;
      adds = AddsTo-then before.adds added.adds;
      has = λ k d h.
          let same : c.trans-item.result ≡ get_or xs i d = c.trans-item.is ∙ get_or_default xs i _ d inside in
          below_more (λ k. HasOtherTargets new c.args.byte (ByteRange (get_or xs k d))) i
          (λ k less. HasOtherTargets-added added.adds (before.has k d less))
          (subst (λ t. HasOtherTargets new c.args.byte (ByteRange t)) same added.has) k h;
    }

pub returns-clause-has : goal.returns-clause-has
returns-clause-has c =
    others-all c.loop-trans.self.states c.args.byte c.args.transitions.now
    (λ k d h. c.loop-trans.invariant.has k d (omega (arith, c.loop-trans-test.false)))
