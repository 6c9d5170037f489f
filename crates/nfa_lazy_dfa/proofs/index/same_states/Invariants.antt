-- The elements so far are equal.
use Rattle.std.proofs.Common.{◌≡◌, ℕ, ◌<◌, get_or}
use Rattle.nfa_lazy_dfa.proofs.index.same_states.Given as goal

abbrev pub invariant-loop-index : goal.invariant-loop-index
invariant-loop-index l = (k : ℕ) → k < l.index → get_or l.a k 0 ≡ get_or l.b k 0
