-- The numbers of the states so far are at most what those of their targets allow.
use Rattle.nfa_paths.proofs.Common.{ℕ, ◌<◌, get_or, node_at}
use Rattle.nfa_facts.specs.LeastLengths.{IsLeastOf}
use Rattle.nfa_facts.proofs.literal.least_length.are_least_lengths.Given as goal

abbrev pub invariant-loop-index : goal.invariant-loop-index
invariant-loop-index l =
    (s : ℕ) → s < l.index → IsLeastOf l.lengths (node_at l.nfa s) (get_or l.lengths s 0)
