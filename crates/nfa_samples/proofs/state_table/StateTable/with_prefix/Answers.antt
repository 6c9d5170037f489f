-- The states are those of the rows and two more, so they make an NFA.
use Rattle.std.proofs.Common.{◌≡◌, ◌∙◌, ◌++◌, map, length, rules}
use Rattle.thompson_nfa.specs.Automaton.{node_of}
use Rattle.nfa_samples.specs.StateTables.{node_in, prefix_at}
use Rattle.nfa_samples.proofs.StateTableLemmas.{sound, prefixed-makes, two-pushed, as-many}
use Rattle.nfa_samples.proofs.state_table.StateTable.with_prefix.Goals as goal

pub build-requires-clause-sound : goal.build-requires-clause-sound
build-requires-clause-sound c =
    let rows = c.args.self.now.rows.now in
    let count : c.len-prefix.result ≡ length c.in_ok-states.states.items = search rules in
    let len : c.len-prefix.result ≡ length rows = count ∙ as-many _ rows c.in_ok-states.ensures in
    let are : map node_of c.push-2.new.self.items ≡ map node_in rows ++ prefix_at c.len-prefix.result =
    two-pushed c.in_ok-states.states.items c.push.new.self.items c.push-2.new.self.items _ _ rows _ _
    c.in_ok-states.ensures c.in_ok-push.ensures.items c.in_ok-push-2.ensures.items c.in_ok-state.ensures
    c.in_ok-state-2.ensures in
    rw are (rw len (prefixed-makes c.args.self.now (sound 2 c.args.self.now c.requires)))
