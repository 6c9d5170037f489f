-- The alternatives from `left` on are pushed.
use Rattle.nfa_paths.proofs.Common.{◌≡◌, ◌≤◌, length, drop, Search, byte_at}
use Rattle.nfa_backtrack.specs.Walk.{IsStatePos, PushesLive}
use Rattle.nfa_backtrack.proofs.alternates.push_alternates.Given as goal

abbrev pub invariant-loop-left : goal.invariant-loop-left
invariant-loop-left l = record {
  inside : l.left ≤ length l.alternates;
  none : l.left ≡ 0 → length l.alternates ≡ 0;
  pushed : (x : Search) → IsStatePos l.nfa x l.place → l.byte ≡ byte_at x l.place.at
      → PushesLive l.nfa x l.place (drop l.left l.alternates) l.fn.stack.items l.stack.items;
}

abbrev pub decreases-loop-left : goal.decreases-loop-left
decreases-loop-left l = l.left
