-- The NFA is made, since it has all that an NFA keeps.
use Rattle.std.proofs.Common.{map}
use Rattle.thompson_nfa.specs.Automaton.{node_of}
use Rattle.thompson_nfa.specs.Flaws.{IsBuilt}
use Rattle.nfa_samples.specs.StateTables.{automaton_in}
use Rattle.nfa_samples.proofs.StateTableLemmas.{memory-alone}
use Rattle.nfa_samples.proofs.state_table.StateTable.build.Goals as goal

pub returns-clause-memory : goal.returns-clause-memory
returns-clause-memory c =
    let built : IsBuilt (automaton_in (map node_of c.args.states.items) c.args.unanchored c.args.self.now)
    c.from_states.result =
    simp (c.state_id.ensures, c.state_id-2.ensures, c.in_ok-state_ids.ensures, c.in_ok-group_info.ensures)
    at c.from_states.ensures in
    memory-alone _ _ c.requires.sound built
