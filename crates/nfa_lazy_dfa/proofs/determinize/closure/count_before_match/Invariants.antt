-- No state so far is a Match.
use Rattle.std.proofs.Common.{◌≡◌, ◌++◌, take, drop}
use Rattle.nfa_lazy_dfa.specs.Closures.{before_first_match}
use Rattle.nfa_lazy_dfa.proofs.determinize.closure.count_before_match.Given as goal

abbrev pub invariant-loop-index : goal.invariant-loop-index
invariant-loop-index l =
    take l.index l.states ++ before_first_match l.nfa (drop l.index l.states) ≡ before_first_match l.nfa l.states
