-- A place that was not marked is marked, and listed.
use Rattle.nfa_paths.proofs.Common.{arith, get_or_default}
use Rattle.nfa_facts.proofs.StatePathLemmas.{IsTable-more, GainsPathStates-one}
use Rattle.nfa_facts.proofs.match_spans.reached.ReachedSet.add.Goals as goal

pub invariant_of-self-then-not-index : goal.invariant_of-self-then-not-index
invariant_of-self-then-not-index c = grind (arith, IsTable-more, get_or_default)

pub returns-in_ok-push-clause-gains : goal.returns-in_ok-push-clause-gains
returns-in_ok-push-clause-gains c = grind (arith, GainsPathStates-one)
