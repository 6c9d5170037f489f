-- The number is at most those of the states so far.
use Rattle.std.proofs.Common.{ℕ, ◌<◌, ◌≤◌, get_or}
use Rattle.nfa_facts.proofs.literal.least_length.least_of.Given as goal

abbrev pub invariant-loop-state : goal.invariant-loop-state
invariant-loop-state l = (k d : ℕ) → k < l.state-index → l.least ≤ get_or l.lengths (get_or l.states k d) 0
