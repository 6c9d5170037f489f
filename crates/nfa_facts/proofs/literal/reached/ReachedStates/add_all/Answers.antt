-- One state more was added.
use Rattle.nfa_paths.proofs.Common.{◌≡◌, ◌∙◌, ◌<◌, length, get_or, subst, below_more, get_or_default, In}
use Rattle.nfa_facts.proofs.ReachedLemmas.{AddsTo-then, In-added}
use Rattle.nfa_facts.proofs.literal.reached.ReachedStates.add_all.Goals as goal

pub loop-state-preserved : goal.loop-state-preserved
loop-state-preserved c =
    let xs = c.args.states.now in
    let i = c.loop-state.state-index in
    let inside : i < length xs = c.loop-state-test.true in
    let before = c.loop-state.invariant in
    let added = c.in_ok-add.ensures in
    record {
      room = added.room ∙ before.room;
      adds = AddsTo-then before.adds added.adds;
      has = λ k d h.
          let same : c.state-item.result ≡ get_or xs i d = c.state-item.is ∙ get_or_default xs i _ d inside in
          below_more (λ k. In (get_or xs k d) c.add.new.self.states) i
          (λ k less. In-added added.adds _ (before.has k d less))
          (subst (λ s. In s c.add.new.self.states) same added.has) k h;
    }
