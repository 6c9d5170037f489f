-- Each state so far may be followed.
use Rattle.nfa_paths.proofs.Common.{◌≡◌, ◌<◌, ℕ, true, get_or, node_of}
use Rattle.thompson_nfa.specs.declared.state.State.TheVariants.{Fail}
use Rattle.nfa_lazy_dfa.specs.Assertions.{may_follow}
use Rattle.nfa_lazy_dfa.proofs.dfa.has_unicode_word.Given as goal

abbrev pub invariant-loop-state : goal.invariant-loop-state
invariant-loop-state l = (k : ℕ) → k < l.state-index → may_follow (node_of (get_or l.state-items k Fail)) ≡ true
