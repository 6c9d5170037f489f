-- The patterns so far are equal.
use Rattle.nfa_paths.proofs.Common.{◌≡◌, ℕ, ◌<◌, get_or, map, number_of}
use Rattle.nfa_lazy_dfa.proofs.index.same_hits.Given as goal

abbrev pub invariant-loop-index : goal.invariant-loop-index
invariant-loop-index l = (k : ℕ) → k < l.index → get_or (map number_of l.a) k 0 ≡ get_or (map number_of l.b) k 0
