-- The states so far have the byte as their line terminator, and the others are as they were.
use Rattle.std.proofs.Common.{map}
use Rattle.thompson_nfa.specs.Automaton.{node_of, node_with_terminator}
use Rattle.thompson_nfa.proofs.EachLemmas.{MapsSoFar}
use Rattle.thompson_nfa.proofs.nfa.set_line_terminator.Given as goal

abbrev pub invariant-loop-state : goal.invariant-loop-state
invariant-loop-state l =
    MapsSoFar (node_with_terminator l.byte) (map node_of l.fn.states) (map node_of l.states) l.state-index
