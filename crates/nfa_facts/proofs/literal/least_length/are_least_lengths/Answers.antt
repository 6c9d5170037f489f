-- The number of one state more is at most what those of its targets allow.
use Rattle.nfa_paths.proofs.Common.{◌<◌, ◌≤◌, arith, below_more, get_or, length, node_at, node_of, ap, length-map}
use Rattle.nfa_facts.specs.LeastLengths.{IsLeastOf}
use Rattle.nfa_facts.proofs.LeastLemmas.{AreLeastLengths-all, IsLeastOf-fewer, leads-below, node-of}
use Rattle.nfa_facts.proofs.literal.least_length.are_least_lengths.Goals as goal

pub least_from-requires : goal.least_from-requires
least_from-requires c =
    let states = c.states-states.result.now in
    let inside : c.loop-index.index < length states = omega (arith, c.loop-index-test.true) in
    leads-below c.args.nfa.now states c.states-states.ensures.nodes c.loop-index.index c.index-states-index.result
    inside c.index-states-index.is c.states-states.ensures.valid (length c.args.lengths.now) c.requires

pub loop-index-preserved : goal.loop-index-preserved
loop-index-preserved c =
    let nfa = c.args.nfa.now in
    let states = c.states-states.result.now in
    let lengths = c.args.lengths.now in
    let i = c.loop-index.index in
    let inside : i < length states = omega (arith, c.loop-index-test.true) in
    let here : IsLeastOf lengths (node_at nfa i) c.least_from.result =
    rw (node-of nfa states c.states-states.ensures.nodes i c.index-states-index.result inside c.index-states-index.is)
    c.least_from.ensures in
    let few : get_or lengths i 0 ≤ c.least_from.result = omega arith in
    below_more (λ s. IsLeastOf lengths (node_at nfa s) (get_or lengths s 0)) i c.loop-index.invariant
    (IsLeastOf-fewer few here)

pub returns : goal.returns
returns c = λ is.
    AreLeastLengths-all c.args.nfa.now c.args.lengths.now c.requires
    (λ s less. c.loop-index.invariant s
    (omega (arith, less, ap length c.states-states.ensures.nodes, length-map c.states-states.result.now node_of)))
