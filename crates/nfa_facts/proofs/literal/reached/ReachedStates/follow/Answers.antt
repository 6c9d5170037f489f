-- The alternates of a union are added.
use Rattle.nfa_paths.proofs.Common.{All, List, subst, sym, In, node_of, ℕ}
use Rattle.thompson_nfa.specs.declared.state.State.{State}
use Rattle.nfa_facts.specs.Reached.{HasTargets}
use Rattle.nfa_facts.proofs.ReachedLemmas.{In-added, ok-both, ok-then, pair-targets, union-targets}
use Rattle.nfa_facts.proofs.literal.reached.ReachedStates.follow.Goals as goal

pub returns-in-Union-clause-has : goal.returns-in-Union-clause-has
returns-in-Union-clause-has c =
    let new = c.add_all.new.self.states in
    ok-then c.add_all.result
    (λ all.
    subst (λ (s : State). HasTargets new c.args.byte (node_of s)) (sym c.in-Union.is)
    (union-targets new c.args.byte c.in-Union.alternates.items
    (subst (λ (l : List ℕ). All (λ s. In s new) l) c.deref-in-Union.ensures.value all)))
    c.add_all.ensures.has

pub returns-in_ok-add-in-BinaryUnion-clause-has : goal.returns-in_ok-add-in-BinaryUnion-clause-has
returns-in_ok-add-in-BinaryUnion-clause-has c =
    let new = c.add-in-BinaryUnion.new.self.states in
    ok-both c.add-in-BinaryUnion.result
    (λ adds second.
    subst (λ (s : State). HasTargets new c.args.byte (node_of s)) (sym c.in-BinaryUnion.is)
    (pair-targets new c.args.byte c.in-BinaryUnion.alt1 c.in-BinaryUnion.alt2
    (In-added adds c.in-BinaryUnion.alt1 c.in_ok-add-in-BinaryUnion.ensures.has) second))
    c.add-in-BinaryUnion.ensures.adds c.add-in-BinaryUnion.ensures.has
