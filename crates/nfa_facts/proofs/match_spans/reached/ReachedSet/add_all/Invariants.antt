-- The states so far were added.
use Rattle.std.proofs.Common.{◌≡◌, map, take}
use Rattle.nfa_facts.specs.PathStates.{at_state, GainsPathStates}
use Rattle.nfa_facts.proofs.match_spans.reached.ReachedSet.add_all.Given as goal

abbrev pub invariant-loop-state : goal.invariant-loop-state
invariant-loop-state l = record {
  room : l.self.room ≡ l.fn.self.room;
  gains : GainsPathStates l.fn.self.places l.self.places (map (at_state l.place) (take l.state-index l.states));
}
