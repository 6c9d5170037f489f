-- The states so far, each once.
use Rattle.std.proofs.Common.{◌<◌, All, length}
use Rattle.nfa_lazy_dfa.proofs.HeldLemmas.{IsHeld}
use Rattle.nfa_lazy_dfa.proofs.OnceLemmas.{IsOnce}
use Rattle.nfa_lazy_dfa.proofs.follow.each_once.Given as goal

abbrev pub invariant-loop-sid : goal.invariant-loop-sid
invariant-loop-sid l = record {
  once : IsOnce l.nfa l.states l.sid-index l.once.items l.seen.items;
  held : IsHeld l.states l.sid-index l.once.items;
  below : All (λ s. s < length l.nfa.states) l.once.items;
}
