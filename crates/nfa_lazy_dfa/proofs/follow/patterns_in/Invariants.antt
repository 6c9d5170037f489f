-- The patterns so far, and those of the states that are left.
use Rattle.nfa_paths.proofs.Common.{◌≡◌, ◌≤◌, ◌++◌, drop, length, map, number_of}
use Rattle.nfa_lazy_dfa.specs.Stances.{patterns_in}
use Rattle.nfa_lazy_dfa.proofs.follow.patterns_in.Given as goal

abbrev pub invariant-loop-sid : goal.invariant-loop-sid
invariant-loop-sid l = record {
  patterns : map number_of l.patterns.items ++ patterns_in l.nfa (drop l.sid-index l.states)
      ≡ patterns_in l.nfa l.states;
  short : length l.patterns.items ≤ l.sid-index;
}
