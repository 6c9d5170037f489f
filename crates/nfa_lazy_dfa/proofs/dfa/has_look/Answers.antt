-- None of the states is an assertion.
use Rattle.std.proofs.Math.ListN.{get_or-map}
use Rattle.nfa_paths.proofs.Common.{◌≡◌, ◌<◌, ℕ, List, false, length, map, get_or, ap, sym, ◌∙◌, inl, inr, arith, cases_lt, get_or_past, Automaton, Node, node_of, node_at, Fail, State}
use Rattle.thompson_nfa.specs.declared.state.State.TheVariants as variant
use Rattle.nfa_lazy_dfa.specs.Assertions.{is_look}
use Rattle.nfa_lazy_dfa.proofs.dfa.has_look.Goals as goal

none-at : (nfa : Automaton) (states : List State) → map node_of states ≡ nfa.states
    → ((k : ℕ) → k < length states → is_look (node_of (get_or states k variant.Fail)) ≡ false) → (s : ℕ)
    → is_look (node_at nfa s) ≡ false
unfolding node_at
none-at nfa states same all s =
    elim (cases_lt s (length states)) [
      | inl less ↦
          ap (λ (nodes : List Node). is_look (get_or nodes s Fail)) (sym same)
          ∙ ap is_look (get_or-map node_of states s variant.Fail) ∙ all s less
      | inr past ↦
          ap (λ (nodes : List Node). is_look (get_or nodes s Fail)) (sym same)
          ∙ ap is_look (get_or-map node_of states s variant.Fail)
          ∙ ap (λ (s : State). is_look (node_of s)) (get_or_past states s variant.Fail past)
    ]

pub returns : goal.returns
returns c = λ e. record {
  all = none-at c.args.nfa.now c.states-state-items.result.now c.states-state-items.ensures.nodes
      (λ k less. c.loop-state.invariant k (omega arith));
}
