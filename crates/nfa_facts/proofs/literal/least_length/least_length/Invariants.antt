-- Each state has a number.
use Rattle.nfa_paths.proofs.Common.{◌≡◌, length}
use Rattle.nfa_facts.proofs.literal.least_length.least_length.Given as goal

abbrev pub invariant-loop : goal.invariant-loop
invariant-loop l = length l.lengths.items ≡ length l.nfa.states
