-- The cache is the DFA's.
use Rattle.nfa_lazy_dfa.specs.Rows.{IsFor}
use Rattle.clocks.proofs.ends.Ends.count_last.Given as goal

abbrev pub invariant-loop : goal.invariant-loop
invariant-loop l = IsFor l.cache l.dfa
