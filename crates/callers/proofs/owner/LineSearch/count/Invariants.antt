-- The count so far is that of the lines so far, and the engine is that of the start.
use Rattle.std.proofs.Common.{◌≡◌, take}
use Rattle.std.specs.List.{count_by}
use Rattle.callers.specs.Texts.{pikevm_finds}
use Rattle.callers.proofs.owner.LineSearch.count.Given as goal

abbrev pub invariant-loop-line : goal.invariant-loop-line
invariant-loop-line l = record {
  count : l.count ≡ count_by (λ line. pikevm_finds l.fn.self line.now) (take l.line-index l.lines);
  keeps : l.self ≡ l.fn.self;
}
