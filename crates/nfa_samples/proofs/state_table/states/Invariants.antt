-- The states so far are those of the rows.
use Rattle.std.proofs.Common.{◌≡◌, map, take}
use Rattle.thompson_nfa.specs.Automaton.{node_of}
use Rattle.nfa_samples.specs.StateTables.{node_in}
use Rattle.nfa_samples.proofs.state_table.states.Given as goal

abbrev pub invariant-loop-row : goal.invariant-loop-row
invariant-loop-row l = map node_of l.states.items ≡ map node_in (take l.row-index l.rows)
