-- Each state may be followed.
use Rattle.std.proofs.Math.ListN.{get_or-map}
use Rattle.nfa_paths.proofs.Common.{◌≡◌, ◌<◌, ℕ, List, true, false, length, map, get_or, ap, sym, ◌∙◌, inl, inr, arith, cases_lt, get_or_default, get_or_past, Automaton, Node, node_of, node_at, Fail, State}
use Rattle.thompson_nfa.specs.declared.state.State.TheVariants as variant
use Rattle.nfa_lazy_dfa.specs.Assertions.{HasUnicodeWord, may_follow}
use Rattle.nfa_lazy_dfa.proofs.dfa.has_unicode_word.Goals as goal

none-at : (nfa : Automaton) (states : List State) → map node_of states ≡ nfa.states
    → ((k : ℕ) → k < length states → may_follow (node_of (get_or states k variant.Fail)) ≡ true) → (s : ℕ)
    → may_follow (node_at nfa s) ≡ true
unfolding node_at
none-at nfa states same all s =
    elim (cases_lt s (length states)) [
      | inl less ↦
          ap (λ (nodes : List Node). may_follow (get_or nodes s Fail)) (sym same)
          ∙ ap may_follow (get_or-map node_of states s variant.Fail) ∙ all s less
      | inr past ↦
          ap (λ (nodes : List Node). may_follow (get_or nodes s Fail)) (sym same)
          ∙ ap may_follow (get_or-map node_of states s variant.Fail)
          ∙ ap (λ (s : State). may_follow (node_of s)) (get_or_past states s variant.Fail past)
    ]

-- a state that was read is one of the NFA's
some-at : (nfa : Automaton) (states : List State) → map node_of states ≡ nfa.states → (s : ℕ) → s < length states
    → may_follow (node_of (get_or states s variant.Fail)) ≡ false → HasUnicodeWord nfa
unfolding node_at
some-at nfa states same s less e =
    let found : may_follow (node_at nfa s) ≡ false =
    ap (λ (nodes : List Node). may_follow (get_or nodes s Fail)) (sym same)
    ∙ ap may_follow (get_or-map node_of states s variant.Fail) ∙ e in
    λ none. absurd (cc (none.all s, found))

pub returns-clause-none : goal.returns-clause-none
returns-clause-none c = λ e. record {
  all = none-at c.args.nfa.now c.states-state-items.result.now c.states-state-items.ensures.nodes
      (λ k less. c.loop-state.invariant k (omega arith));
}

pub returns-then-not-may_follow-clause-some : goal.returns-then-not-may_follow-clause-some
returns-then-not-may_follow-clause-some c = λ e.
    let states = c.states-state-items.result.now in
    let s = c.loop-state.state-index in
    let less = c.loop-state-test.true in
    let item = c.state-item.result in
    let same : get_or states s variant.Fail ≡ item =
    get_or_default states s variant.Fail item less ∙ sym c.state-item.is in
    some-at c.args.nfa.now states c.states-state-items.ensures.nodes s less
    (ap (λ (t : State). may_follow (node_of t)) same ∙ sym c.may_follow.ensures ∙ c.if-not-may_follow.true)
