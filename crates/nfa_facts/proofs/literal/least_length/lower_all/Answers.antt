-- One more number was set.
use Rattle.nfa_paths.proofs.Common.{◌<◌, arith, length}
use Rattle.nfa_facts.proofs.LeastLemmas.{leads-below}
use Rattle.nfa_facts.proofs.literal.least_length.lower_all.Goals as goal

pub least_from-requires : goal.least_from-requires
least_from-requires c =
    let states = c.states-states.result.now in
    let inside : c.loop-index.index < length states = omega (arith, c.loop-index-test.true) in
    leads-below c.args.nfa.now states c.states-states.ensures.nodes c.loop-index.index c.index-states-index.result
    inside c.index-states-index.is c.states-states.ensures.valid (length c.loop-index.lengths) c.loop-index.invariant
