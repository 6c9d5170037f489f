-- Each assertion is that of the end.
use Rattle.std.proofs.Math.ListN.{get_or-map}
use Rattle.nfa_paths.proofs.Common.{◌≡◌, ◌<◌, ℕ, List, length, map, get_or, get_or_default, ap, sym, subst, ◌∙◌, inl, inr, arith, below_more, cases_lt, get_or_past, Automaton, Node, node_of, node_at, Fail, State}
use Rattle.thompson_nfa.specs.declared.state.State.TheVariants as variant
use Rattle.nfa_onepass.specs.Ways.{HasOnlyEnds, IsOnlyEnd}
use Rattle.nfa_onepass.proofs.table.has_only_ends.Goals as goal

-- the states of the NFA are those that were read
only-at : (nfa : Automaton) (states : List State) → map node_of states ≡ nfa.states
    → ((k : ℕ) → k < length states → IsOnlyEnd (node_of (get_or states k variant.Fail))) → HasOnlyEnds nfa
unfolding node_at
only-at nfa states same all s =
    let read : get_or nfa.states s Fail ≡ node_of (get_or states s variant.Fail) =
    ap (λ (nodes : List Node). get_or nodes s Fail) (sym same) ∙ get_or-map node_of states s variant.Fail in
    subst IsOnlyEnd (sym read) (elim (cases_lt s (length states)) [
      | inl less ↦ all s less
      | inr past ↦ λ look next e. cc (ap node_of (get_or_past states s variant.Fail past), e)
    ])

pub returns : goal.returns
returns c _ =
    only-at c.args.nfa.now c.states-state-items.result.now c.states-state-items.ensures.nodes
    (λ k less. c.loop-state.invariant k (omega arith))

pub loop-state-preserved : goal.loop-state-preserved
loop-state-preserved c =
    let states = c.states-state-items.result.now in
    let at = c.loop-state.state-index in
    let same : c.state-item.result ≡ get_or states at variant.Fail =
    c.state-item.is ∙ get_or_default states at _ variant.Fail c.loop-state-test.true in
    below_more (λ k. IsOnlyEnd (node_of (get_or states k variant.Fail))) at c.loop-state.invariant
    (subst (λ (s : State). IsOnlyEnd (node_of s)) same (c.is_only_end.ensures c.if-not-is_only_end.false))
