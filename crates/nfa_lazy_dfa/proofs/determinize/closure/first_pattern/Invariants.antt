-- No state so far is a Match.
use Rattle.std.proofs.Common.{◌≡◌, drop}
use Rattle.nfa_lazy_dfa.specs.Closures.{first_pattern}
use Rattle.nfa_lazy_dfa.proofs.determinize.closure.first_pattern.Given as goal

abbrev pub invariant-loop-sid : goal.invariant-loop-sid
invariant-loop-sid l = first_pattern l.nfa (drop l.sid-index l.states) ≡ first_pattern l.nfa l.states
