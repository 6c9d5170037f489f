-- The marked states so far write the slot, or lead to marked states.
use Rattle.nfa_paths.proofs.Common.{ℕ, ◌<◌, node_at}
use Rattle.nfa_meta.specs.AlwaysSet.{IsMarked, LeadsToMarked}
use Rattle.nfa_meta.proofs.regex.unwritten.targets_are_marked.Given as goal

abbrev pub invariant-loop-number : goal.invariant-loop-number
invariant-loop-number l =
    (s : ℕ) → s < l.number → IsMarked l.marks s → LeadsToMarked l.slot l.marks (node_at l.nfa s)
