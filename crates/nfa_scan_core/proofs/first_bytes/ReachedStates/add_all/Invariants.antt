-- The states so far were reached.
use Rattle.std.proofs.Common.{ℕ, ◌<◌, ◌≤◌, get_or, All}
use Rattle.nfa_scan_core.specs.FirstBytes.{WasReached, Extends, AreBelow, AddsOnly, Differ}
use Rattle.nfa_scan_core.proofs.first_bytes.ReachedStates.add_all.Given as goal

abbrev pub invariant-loop-i : goal.invariant-loop-i
invariant-loop-i l = record {
  room : l.self.len ≤ 64;
  extends : Extends l.fn.self l.self;
  added : (k d : ℕ) → k < l.i → WasReached l.self (get_or l.sids k d);
  below : (n : ℕ) → All (λ s. s < n) l.sids → AreBelow n l.fn.self → AreBelow n l.self;
  only : AddsOnly l.fn.self l.self l.sids;
  differ : Differ l.fn.self → Differ l.self;
}
