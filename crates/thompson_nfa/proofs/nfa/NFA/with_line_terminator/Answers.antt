-- Each state leads to the same states, and has the same slot and the same pattern.
use Rattle.std.proofs.Common.{◌≡◌, ◌∙◌, ap, sym, subst, length, map, vec_len, List}
use Rattle.std.specs.Vec.{with_items}
use Rattle.std.proofs.lemmas.List.{with_items_is}
use Rattle.thompson_nfa.specs.Automaton.{IsAutomaton, Node, node_of, node_with_terminator}
use Rattle.thompson_nfa.specs.NFA.{automaton_of}
use Rattle.thompson_nfa.proofs.TerminatorLemmas.{valid-with_terminator}
use Rattle.thompson_nfa.proofs.nfa.NFA.with_line_terminator.Goals as goal

pub invariant_of-self : goal.invariant_of-self
invariant_of-self c =
    let nfa = automaton_of c.self.inside in
    let states = c.set_line_terminator.new.states in
    let size : length states ≡ vec_len c.self.inside.states =
    c.set_line_terminator.auto.states ∙ c.deref_mut.ensures.len in
    let nodes : map node_of (with_items c.self.inside.states states).items
    ≡ map (node_with_terminator c.args.byte) nfa.states =
    ap (map node_of) (with_items_is c.self.inside.states states size)
    ∙ c.set_line_terminator.ensures
    ∙ ap (λ states. map (node_with_terminator c.args.byte) (map node_of states)) c.deref_mut.ensures.value in
    subst (λ (states : List Node). IsAutomaton (record nfa { states = states })) (sym nodes)
    (valid-with_terminator c.args.byte nfa c.self.invariant)
