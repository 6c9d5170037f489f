-- The line terminator of each state is marked.
use Rattle.std.proofs.Math.ListN.{get_or-map}
use Rattle.nfa_paths.proofs.Common.{◌≡◌, ◌<◌, ℕ, Bool, List, length, map, get_or, ap, sym, subst, ◌∙◌, inl, inr, arith, Some, cases_lt, get_or_past, get_or_from_slice_get, slice_get-get_or, Automaton, Node, node_of, node_at, Fail, Look, State, StartLine}
use Rattle.thompson_nfa.specs.declared.state.State.TheVariants as variant
use Rattle.nfa_lazy_dfa.specs.Assertions.{IsMarkedBy, KeepsMarks}
use Rattle.nfa_lazy_dfa.proofs.terminators.terminators_of.Goals as goal

-- what is marked stays so
marked-kept : (old new : List Bool) → KeepsMarks old new → (node : Node) → IsMarkedBy old node → IsMarkedBy new node
marked-kept old new keeps (Look (StartLine t) next) marked = keeps t marked
marked-kept old new keeps _ marked = tt

marked-at : (nfa : Automaton) (marks : List Bool) (states : List State) → map node_of states ≡ nfa.states
    → ((j : ℕ) (d : State) → j < length states → IsMarkedBy marks (node_of (get_or states j d)))
    → (s : ℕ) → IsMarkedBy marks (node_at nfa s)
unfolding node_at
marked-at nfa marks states same all s =
    let node : get_or nfa.states s Fail ≡ node_of (get_or states s variant.Fail) =
    ap (λ (nodes : List Node). get_or nodes s Fail) (sym same) ∙ get_or-map node_of states s variant.Fail in
    elim (cases_lt s (length states)) [
      | inl less ↦ rw node (all s variant.Fail less)
      | inr past ↦ rw (node, get_or_past states s variant.Fail past) tt
    ]

pub loop-state-preserved : goal.loop-state-preserved
loop-state-preserved c =
    let items = c.states-state-items.result.now in
    let i = c.loop-state.state-index in
    let s = c.state-item.result in
    λ j d less.
    elim (cases_lt j i) [
      | inl before ↦
          marked-kept c.loop-state.marks c.mark_terminator.new.marks c.mark_terminator.ensures.keeps
          (node_of (get_or items j d)) (c.loop-state.invariant j d before)
      | inr now ↦
          let here : j ≡ i = omega arith in
          let read : get_or items j d ≡ s =
          ap (λ (n : ℕ). get_or items n d) here
          ∙ get_or_from_slice_get items i s d
          (slice_get-get_or items i s c.loop-state-test.true ∙ ap Some (sym c.state-item.is)) in
          rw read c.mark_terminator.ensures.marked
    ]

pub returns : goal.returns
returns c = record {
  marked = λ s t next e.
      subst (IsMarkedBy c.loop-state.marks) e
      (marked-at c.args.nfa.now c.loop-state.marks c.states-state-items.result.now c.states-state-items.ensures.nodes
      (λ j d less. c.loop-state.invariant j d (omega arith)) s);
}
