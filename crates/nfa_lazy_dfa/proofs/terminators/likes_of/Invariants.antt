-- The bytes so far have one that is like them.
use Rattle.std.proofs.Common.{◌≡◌, ℕ, ◌<◌, get_or, length}
use Rattle.nfa_lazy_dfa.specs.Assertions.{like}
use Rattle.nfa_lazy_dfa.proofs.terminators.likes_of.Given as goal

abbrev pub invariant-loop-byte : goal.invariant-loop-byte
invariant-loop-byte l = record {
  size : length l.likes ≡ 256;
  alike : (k : ℕ) → k < l.byte → get_or l.likes k 0 ≡ like l.terminators k;
}
