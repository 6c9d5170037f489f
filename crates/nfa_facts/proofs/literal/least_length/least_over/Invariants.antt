-- The number is at most those of the targets so far.
use Rattle.nfa_paths.proofs.Common.{ℕ, ◌<◌, ◌≤◌, get_or, Transition}
use Rattle.nfa_facts.proofs.literal.least_length.least_over.Given as goal

abbrev pub invariant-loop-trans : goal.invariant-loop-trans
invariant-loop-trans l =
    (k : ℕ) (d : Transition) → k < l.trans-index → l.least ≤ get_or l.lengths (get_or l.transitions k d).next 0
