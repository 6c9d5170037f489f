-- Each state treats bytes next to each other alike, if no cut is between them.
use Rattle.std.proofs.Math.ListN.{get_or-map}
use Rattle.nfa_paths.proofs.Common.{◌≡◌, ◌<◌, ◌+◌, ℕ, List, false, length, map, get_or, refl, ap, sym, ◌∙◌, inl, inr, arith, Some, cases_lt, get_or-replicate, get_or_past, get_or_from_slice_get, slice_get-get_or, Automaton, Node, node_of, node_at, target_on, Fail, State}
use Rattle.thompson_nfa.specs.declared.state.State.TheVariants as variant
use Rattle.nfa_lazy_dfa.proofs.cuts.cuts_of.Goals as goal

targets-at : (nfa : Automaton) (states : List State) (k : ℕ) → map node_of states ≡ nfa.states
    → ((j : ℕ) (d : State) → j < length states
    → target_on (node_of (get_or states j d)) k ≡ target_on (node_of (get_or states j d)) (k + 1))
    → (s : ℕ) → target_on (node_at nfa s) k ≡ target_on (node_at nfa s) (k + 1)
unfolding node_at
targets-at nfa states k same all s =
    let node : get_or nfa.states s Fail ≡ node_of (get_or states s variant.Fail) =
    ap (λ (nodes : List Node). get_or nodes s Fail) (sym same) ∙ get_or-map node_of states s variant.Fail in
    elim (cases_lt s (length states)) [
      | inl less ↦ rw node (all s variant.Fail less)
      | inr past ↦ rw (node, get_or_past states s variant.Fail past) refl
    ]

pub loop-state-init : goal.loop-state-init
loop-state-init c = record {
  none = λ k uncut.
      let below = uncut.below in
      sym (get_or-replicate 256 k c.args.looks false (omega arith)) ∙ uncut.clear;
  alike = λ k uncut j d less. absurd (omega arith);
}

pub loop-state-preserved : goal.loop-state-preserved
loop-state-preserved c =
    let items = c.states-state-items.result.now in
    let i = c.loop-state.state-index in
    let s = c.state-item.result in
    record {
      none = λ k uncut. c.loop-state.invariant.none k (c.cut_state.ensures.keeps.keeps k uncut);
      alike = λ k uncut j d less.
          elim (cases_lt j i) [
            | inl before ↦ c.loop-state.invariant.alike k (c.cut_state.ensures.keeps.keeps k uncut) j d before
            | inr now ↦
                let here : j ≡ i = omega arith in
                let read : get_or items j d ≡ s =
                ap (λ (n : ℕ). get_or items n d) here
                ∙ get_or_from_slice_get items i s d
                (slice_get-get_or items i s c.loop-state-test.true ∙ ap Some (sym c.state-item.is)) in
                rw read (c.cut_state.ensures.alike k uncut)
          ];
    }

pub returns : goal.returns
returns c = record {
  alike = λ k uncut. record {
    none = c.loop-state.invariant.none k uncut;
    targets = targets-at c.args.nfa.now c.states-state-items.result.now k c.states-state-items.ensures.nodes
        (λ j d less. c.loop-state.invariant.alike k uncut j d (omega arith));
  };
}
