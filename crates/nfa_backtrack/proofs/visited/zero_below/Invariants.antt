-- The blocks so far are zero, the others as they were.
use Rattle.std.proofs.Common.{◌≡◌, ℕ, ◌<◌, ◌≤◌, get_or}
use Rattle.nfa_backtrack.proofs.visited.zero_below.Given as goal

abbrev pub invariant-loop-i : goal.invariant-loop-i
invariant-loop-i l = record {
  below : (k : ℕ) → k < l.i → get_or l.blocks k 0 ≡ 0;
  others : (k : ℕ) → l.i ≤ k → get_or l.blocks k 0 ≡ get_or l.fn.blocks k 0;
}
