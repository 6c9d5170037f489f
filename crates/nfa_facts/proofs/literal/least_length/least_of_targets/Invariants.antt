-- The number is at most those of the targets so far.
use Rattle.std.proofs.Common.{ℕ, ◌<◌, ◌≤◌, IfSome, Option, get_or}
use Rattle.nfa_facts.proofs.literal.least_length.least_of_targets.Given as goal

abbrev pub invariant-loop-target : goal.invariant-loop-target
invariant-loop-target l =
    (k : ℕ) (d : Option ℕ) → k < l.target-index
    → IfSome (get_or l.targets k d) (λ s. l.least ≤ get_or l.lengths s 0)
