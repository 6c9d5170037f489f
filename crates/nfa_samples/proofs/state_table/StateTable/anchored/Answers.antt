-- The states are those of the rows, so they make an NFA.
use Rattle.nfa_samples.proofs.StateTableLemmas.{sound, anchored-makes}
use Rattle.nfa_samples.proofs.state_table.StateTable.anchored.Goals as goal

pub build-requires-clause-sound : goal.build-requires-clause-sound
build-requires-clause-sound c =
    rw (c.in_ok-states.ensures) (anchored-makes c.args.self.now (sound 0 c.args.self.now c.requires))
