-- The targets of the transitions so far were added.
use Rattle.nfa_paths.proofs.Common.{◌≡◌, ℕ, ◌<◌, get_or, ByteRange, Transition}
use Rattle.nfa_facts.specs.Reached.{AddsTo, HasOtherTargets}
use Rattle.nfa_facts.proofs.literal.reached.ReachedStates.add_others.Given as goal

abbrev pub invariant-loop-trans : goal.invariant-loop-trans
invariant-loop-trans l = record {
  room : l.self.room ≡ l.fn.self.room;
  adds : AddsTo l.fn.self.states l.self.states;
  has : (k : ℕ) (d : Transition) → k < l.trans-index
      → HasOtherTargets l.self.states l.byte (ByteRange (get_or l.transitions k d));
}
