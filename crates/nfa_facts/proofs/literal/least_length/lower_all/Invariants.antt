-- Each state has a number still.
use Rattle.nfa_paths.proofs.Common.{◌≡◌, length}
use Rattle.nfa_facts.proofs.literal.least_length.lower_all.Given as goal

abbrev pub invariant-loop-index : goal.invariant-loop-index
invariant-loop-index l = length l.lengths ≡ length l.nfa.states
