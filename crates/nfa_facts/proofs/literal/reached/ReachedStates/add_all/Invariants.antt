-- The states so far were added.
use Rattle.std.proofs.Common.{◌≡◌, ℕ, ◌<◌, get_or}
use Rattle.nfa_paths.specs.Graphs.{In}
use Rattle.nfa_facts.specs.Reached.{AddsTo}
use Rattle.nfa_facts.proofs.literal.reached.ReachedStates.add_all.Given as goal

abbrev pub invariant-loop-state : goal.invariant-loop-state
invariant-loop-state l = record {
  room : l.self.room ≡ l.fn.self.room;
  adds : AddsTo l.fn.self.states l.self.states;
  has : (k d : ℕ) → k < l.state-index → In (get_or l.states k d) l.self.states;
}
