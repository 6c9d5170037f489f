-- The state is none of those so far.
use Rattle.std.proofs.Common.{◌≡◌, ℕ, ◌<◌, get_or}
use Rattle.nfa_scan_core.proofs.first_bytes.ReachedStates.has.Given as goal

abbrev pub invariant-loop-place : goal.invariant-loop-place
invariant-loop-place l = (k : ℕ) → k < l.place → get_or l.self.states k 0 ≡ l.sid → ⊥
