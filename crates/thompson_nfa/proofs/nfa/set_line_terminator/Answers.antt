-- Each state is that of before, with the byte as its line terminator.
use Rattle.std.proofs.Common.{◌≡◌, ◌<◌, ◌≤◌, ◌∙◌, ap, sym, length, map, get_or, arith}
use Rattle.std.proofs.lemmas.List.{length-map, map-set, get_or-map}
use Rattle.thompson_nfa.specs.Automaton.{node_of, node_with_terminator}
use Rattle.thompson_nfa.specs.Automaton.Node.{Fail}
use Rattle.thompson_nfa.proofs.EachLemmas.{maps-none, maps-next, maps-all}
use Rattle.thompson_nfa.proofs.nfa.set_line_terminator.Goals as goal

pub loop-state-init : goal.loop-state-init
loop-state-init c = maps-none (node_with_terminator c.args.byte) (map node_of c.args.states.now)

pub loop-state-preserved : goal.loop-state-preserved
loop-state-preserved c =
    let f = node_with_terminator c.args.byte in
    let old = map node_of c.args.states.now in
    let states = c.loop-state.states in
    let i = c.loop-state.state-index in
    let s = c.set_line_terminator.new.self in
    let inside : i < length states = omega (arith, c.loop-state.auto.states, c.loop-state-test.true) in
    let long : i < length (map node_of states) = rw length-map inside in
    let image : node_of s ≡ f (get_or (map node_of states) i Fail) =
    c.set_line_terminator.ensures
    ∙ ap f (sym (get_or-map node_of states i c.state-item.result Fail inside)) in
    rw map-set (maps-next f old (map node_of states) i (node_of s) Fail long c.loop-state.invariant image)

pub returns : goal.returns
returns c =
    let states = c.loop-state.states in
    let i = c.loop-state.state-index in
    let whole : length states ≤ i = omega (arith, c.loop-state.auto.states, c.loop-state-test.false) in
    maps-all (node_with_terminator c.args.byte) (map node_of c.args.states.now) (map node_of states) i
    (rw length-map whole) c.loop-state.invariant
