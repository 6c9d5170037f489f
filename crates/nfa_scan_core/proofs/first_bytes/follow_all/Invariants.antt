-- The states so far are followed, and all that were reached are states of the NFA.
use Rattle.nfa_paths.proofs.Common.{ℕ, ◌-◌, ◌<◌, ◌≤◌, get_or, length, node_at}
use Rattle.nfa_scan_core.specs.FirstBytes.{Admits, WasReached, AreBelow, Covers, Differ, IsRead, IsReachedAtStart}
use Rattle.nfa_scan_core.proofs.first_bytes.follow_all.Given as goal

abbrev pub invariant-loop-done : goal.invariant-loop-done
invariant-loop-done l = record {
  room : l.reached.len ≤ 64;
  inside : l.done ≤ l.reached.len;
  start : WasReached l.reached l.nfa.anchored;
  covers : (k : ℕ) → k < l.done → Covers l.reached l.table (node_at l.nfa (get_or l.reached.states k 0));
  below : AreBelow (length l.nfa.states) l.reached;
  at_start : (k : ℕ) → k < l.reached.len → IsReachedAtStart l.nfa (get_or l.reached.states k 0);
  differ : Differ l.reached;
  least : (b : ℕ) → b < 256 → Admits l.table b → IsRead l.nfa b;
}

abbrev pub decreases-loop-done : goal.decreases-loop-done
decreases-loop-done l = 64 - l.done
