-- No offset so far is a start of both, and both caches are as they were.
use Rattle.nfa_engines.specs.Backtrack.{HoldsNoMore}
use Rattle.nfa_engines.specs.Engines.{SameCapacities}
use Rattle.callers.specs.Texts.{NoCommonStartBefore}
use Rattle.callers.proofs.loops.first_common_start.Given as goal

abbrev pub invariant-loop-at : goal.invariant-loop-at
invariant-loop-at l = record {
  none : NoCommonStartBefore l.vm l.engine l.text l.at;
  capacities : SameCapacities l.fn.cache l.cache;
  holds : HoldsNoMore 0 l.fn.marks l.marks;
}
