-- The last pattern is that of the states that are left, or else the one so far.
use Rattle.nfa_paths.proofs.Common.{◌≡◌, drop, option_map, option_or, number_of}
use Rattle.nfa_lazy_dfa.specs.Closures.{last_pattern}
use Rattle.nfa_lazy_dfa.proofs.determinize.closure.last_pattern.Given as goal

abbrev pub invariant-loop-sid : goal.invariant-loop-sid
invariant-loop-sid l =
    option_or (last_pattern l.nfa (drop l.sid-index l.states)) (option_map number_of l.last)
    ≡ last_pattern l.nfa l.states
