-- The states so far are those of the original, without the captures that are not kept.
use Rattle.nfa_paths.proofs.Common.{◌≡◌, map, take, node_of}
use Rattle.nfa_facts.specs.Kept.{kept_node}
use Rattle.nfa_facts.proofs.captures.states.kept_states.Given as goal

abbrev pub invariant-loop-state : goal.invariant-loop-state
invariant-loop-state l =
    map node_of l.kept.items ≡ map (λ s. kept_node l.count (node_of s)) (take l.state-index l.states)
