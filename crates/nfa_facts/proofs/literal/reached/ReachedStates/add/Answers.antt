-- A state that was not marked is marked, and listed.
use Rattle.std.proofs.lemmas.Slice.{pushed}
use Rattle.nfa_paths.proofs.Common.{[], ◌∷◌, arith, get_or_default, refl}
use Rattle.nfa_facts.proofs.ReachedLemmas.{AreMarked-more, In-pushed}
use Rattle.nfa_facts.proofs.literal.reached.ReachedStates.add.Goals as goal

pub invariant_of-self-then-not-index : goal.invariant_of-self-then-not-index
invariant_of-self-then-not-index c = grind (arith, AreMarked-more, get_or_default)

pub returns-in_ok-push-clause-has : goal.returns-in_ok-push-clause-has
returns-in_ok-push-clause-has c =
    In-pushed _ _ c.args.state (pushed (c.args.state ∷ []) refl c.in_ok-push.was c.push.ensures.items)
