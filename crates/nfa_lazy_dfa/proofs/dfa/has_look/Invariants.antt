-- None of the states so far is an assertion.
use Rattle.nfa_paths.proofs.Common.{◌≡◌, ◌<◌, ℕ, false, get_or, node_of}
use Rattle.thompson_nfa.specs.declared.state.State.TheVariants.{Fail}
use Rattle.nfa_lazy_dfa.specs.Assertions.{is_look}
use Rattle.nfa_lazy_dfa.proofs.dfa.has_look.Given as goal

abbrev pub invariant-loop-state : goal.invariant-loop-state
invariant-loop-state l = (k : ℕ) → k < l.state-index → is_look (node_of (get_or l.state-items k Fail)) ≡ false
