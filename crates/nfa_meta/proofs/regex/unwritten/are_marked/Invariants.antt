-- The states so far are marked.
use Rattle.std.proofs.Common.{ℕ, ◌<◌, get_or}
use Rattle.nfa_meta.specs.AlwaysSet.{IsMarked}
use Rattle.nfa_meta.proofs.regex.unwritten.are_marked.Given as goal

abbrev pub invariant-loop-state : goal.invariant-loop-state
invariant-loop-state l = (k d : ℕ) → k < l.state-index → IsMarked l.marks (get_or l.states k d)
