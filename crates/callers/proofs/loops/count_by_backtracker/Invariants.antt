-- The count so far is that of the lines so far, and none of them was too long.
use Rattle.std.proofs.Common.{◌≡◌, take}
use Rattle.std.specs.List.{AllWithin, count_by}
use Rattle.nfa_engines.specs.Backtrack.{HoldsNoMore, IsTooLong}
use Rattle.nfa_engines.specs.Search.{whole}
use Rattle.callers.specs.Texts.{backtracker_finds}
use Rattle.callers.proofs.loops.count_by_backtracker.Given as goal

abbrev pub invariant-loop-line : goal.invariant-loop-line
invariant-loop-line l = record {
  count : l.count ≡ count_by (λ line. backtracker_finds l.engine line.now) (take l.line-index l.lines);
  short : AllWithin (λ line. ¬ (IsTooLong l.engine (whole line.now))) l.lines 0 l.line-index;
  holds : HoldsNoMore 0 l.fn.cache l.cache;
}
