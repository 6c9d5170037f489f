-- The target on one byte more was added.
use Rattle.nfa_paths.proofs.Common.{◌≡◌, ◌∙◌, ◌<◌, ℕ, Some, IfSome, length, slice_get, slice_get_within, subst, arith, below_more, get_or_from_slice_get, In}
use Rattle.nfa_facts.proofs.ReachedLemmas.{AddsTo-then, In-added, dense-get}
use Rattle.nfa_facts.proofs.literal.reached.ReachedStates.add_targets.Goals as goal

pub loop-index-preserved : goal.loop-index-preserved
loop-index-preserved c =
    let xs = c.args.targets.now in
    let i = c.loop-index.index in
    let before = c.loop-index.invariant in
    let added = c.in_ok-add_target.ensures in
    let new = c.add_target.new.self.states in
    let target = c.index-targets-index.result in
    record {
      room = added.room ∙ before.room;
      adds = AddsTo-then before.adds added.adds;
      has = below_more (λ k. (t : ℕ) → ¬ (Some k ≡ c.args.byte) → slice_get xs k ≡ Some (Some t) → In t new) i
          (λ k less t n e. In-added added.adds t (before.has k less t n e))
          (λ t n e.
          let same : target ≡ Some t = c.index-targets-index.is ∙ get_or_from_slice_get xs i (Some t) target e in
          subst (λ o. IfSome o (λ s. In s new)) same (added.has n));
    }

pub returns-clause-has : goal.returns-clause-has
returns-clause-has c = record {
  others = λ b t n e.
      let xs = c.args.targets.now in
      let here = dense-get xs b t e in
      let inside : b < length xs = slice_get_within xs b (Some t) here in
      c.loop-index.invariant.has b (omega (arith, inside, c.loop-index-test.false)) t n here;
}
