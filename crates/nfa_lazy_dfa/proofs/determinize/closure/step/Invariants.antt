-- The targets so far, and those of the states that are left, are the whole.
use Rattle.std.proofs.Common.{◌≡◌, ◌<◌, ◌++◌, All, drop, length}
use Rattle.nfa_lazy_dfa.specs.Closures.{step}
use Rattle.nfa_lazy_dfa.proofs.determinize.closure.step.Given as goal

abbrev pub invariant-loop-sid : goal.invariant-loop-sid
invariant-loop-sid l = record {
  stepped : l.next.items ++ step l.nfa l.byte (drop l.sid-index l.states) ≡ step l.nfa l.byte l.states;
  below : All (λ s. s < length l.nfa.states) l.next.items;
}
