-- The state of a number is the one that the NFA has there, and it leads to states of the NFA.
use Rattle.nfa_paths.proofs.Common.{passes-at, ◌<◌, length, map, arith, All, LeadsBelow, node_of}
use Rattle.nfa_backtrack.proofs.StepLemmas.{same_size}
use Rattle.nfa_backtrack.proofs.turn.state_at.Goals as goal

pub returns-clause-leads : goal.returns-clause-leads
returns-clause-leads c =
    let within : c.as_usize.result < length c.args.states.now =
    omega (
      arith,
      same_size c.args.nfa.now c.args.states.now c.requires.states,
      c.as_usize.ensures.value,
      c.requires.sid,
    ) in
    let all : All (LeadsBelow (length c.args.nfa.now.states)) (map node_of c.args.states.now) = rw c.requires.states
    c.requires.valid.numbered.targets_in in
    passes-at (LeadsBelow (length c.args.nfa.now.states)) node_of c.args.states.now _ _ within
    c.index-states-as_usize.is all
