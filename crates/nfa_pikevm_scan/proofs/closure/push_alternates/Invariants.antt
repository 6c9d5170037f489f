-- The alternatives after the first one are on the stack, with the earliest on top.
use Rattle.nfa_paths.proofs.Common.{drop, length, map, reverse, take, ◌++◌, ◌+◌, ◌≡◌, ◌≤◌}
use Rattle.nfa_pikevm_scan.specs.declared.frame.FollowEpsilon.TheVariants.{Explore}
use Rattle.nfa_pikevm_scan.proofs.closure.push_alternates.Given as goal

abbrev pub invariant-loop-left : goal.invariant-loop-left
invariant-loop-left l = record {
  inside : l.left ≤ length l.alternates;
  none : l.left ≡ 0 → length l.alternates ≡ 0;
  above : l.top + l.left ≡ l.fn.top + length l.alternates;
  pushed : take l.top l.frames ≡ take l.fn.top l.fn.frames
      ++ map (λ sid. Explore sid) (reverse (drop l.left l.alternates));
}

abbrev pub decreases-loop-left : goal.decreases-loop-left
decreases-loop-left l = l.left
