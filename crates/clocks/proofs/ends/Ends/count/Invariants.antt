-- The cache is the DFA's.
use Rattle.std.proofs.Common.{length, ◌-◌}
use Rattle.nfa_lazy_dfa.specs.Rows.{IsFor}
use Rattle.clocks.proofs.ends.Ends.count.Given as goal

abbrev pub invariant-loop-from : goal.invariant-loop-from
invariant-loop-from l = IsFor l.cache l.dfa

abbrev pub decreases-loop-from : goal.decreases-loop-from
decreases-loop-from l = length l.text - l.from
