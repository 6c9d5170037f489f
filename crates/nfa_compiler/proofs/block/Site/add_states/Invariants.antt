-- the states so far are those of the pattern's NFA, moved
use Rattle.nfa_paths.proofs.Common.{map, node_of}
use Rattle.nfa_compiler.specs.Common.{HoldsStates}
use Rattle.nfa_compiler.proofs.block.Site.add_states.Given as goal

abbrev pub invariant-loop-id : goal.invariant-loop-id
invariant-loop-id l =
    HoldsStates (map node_of l.initial.states.items) (map node_of l.states.items) l.nfa l.self l.id
