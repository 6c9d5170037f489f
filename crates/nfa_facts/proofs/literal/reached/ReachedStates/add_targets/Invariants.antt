-- The targets so far were added.
use Rattle.nfa_paths.proofs.Common.{◌≡◌, ℕ, ◌<◌, Some, slice_get, In}
use Rattle.nfa_facts.specs.Reached.{AddsTo}
use Rattle.nfa_facts.proofs.literal.reached.ReachedStates.add_targets.Given as goal

abbrev pub invariant-loop-index : goal.invariant-loop-index
invariant-loop-index l = record {
  room : l.self.room ≡ l.fn.self.room;
  adds : AddsTo l.fn.self.states l.self.states;
  has : (k : ℕ) → k < l.index → (t : ℕ) → ¬ (Some k ≡ l.byte) → slice_get l.targets k ≡ Some (Some t)
      → In t l.self.states;
}
