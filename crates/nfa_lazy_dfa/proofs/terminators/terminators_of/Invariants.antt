-- The line terminators of the states so far are marked.
use Rattle.nfa_paths.proofs.Common.{ℕ, ◌<◌, get_or, node_of, State}
use Rattle.nfa_lazy_dfa.specs.Assertions.{IsMarkedBy}
use Rattle.nfa_lazy_dfa.proofs.terminators.terminators_of.Given as goal

abbrev pub invariant-loop-state : goal.invariant-loop-state
invariant-loop-state l =
    (j : ℕ) (d : State) → j < l.state-index → IsMarkedBy l.marks (node_of (get_or l.state-items j d))
