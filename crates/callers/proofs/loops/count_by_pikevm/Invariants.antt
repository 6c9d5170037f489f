-- The count so far is that of the lines so far, and the cache fits what it fitted.
use Rattle.std.proofs.Common.{◌≡◌, take}
use Rattle.std.specs.List.{count_by}
use Rattle.nfa_engines.specs.Engines.{SameCapacities}
use Rattle.callers.specs.Texts.{pikevm_finds}
use Rattle.callers.proofs.loops.count_by_pikevm.Given as goal

abbrev pub invariant-loop-line : goal.invariant-loop-line
invariant-loop-line l = record {
  count : l.count ≡ count_by (λ line. pikevm_finds l.vm line.now) (take l.line-index l.lines);
  capacities : SameCapacities l.fn.cache l.cache;
}
