-- The number of a state that reads a byte is one more than that of a target.
use Rattle.nfa_paths.proofs.Common.{◌+◌, ◌≤◌, All, IfSome, List, Option, ℕ, arith, get_or, node_of, subst, sym, Transition}
use Rattle.thompson_nfa.specs.declared.state.State.{State}
use Rattle.nfa_facts.specs.LeastLengths.{IsLeastOf}
use Rattle.nfa_facts.proofs.LeastLemmas.{least-dense, least-sparse}
use Rattle.nfa_facts.proofs.literal.least_length.least_from.Goals as goal

pub returns-in-Sparse : goal.returns-in-Sparse
returns-in-Sparse c =
    let lengths = c.args.lengths.now in
    let n = c.least_over.result in
    let m = c.saturating_add-in-Sparse.result in
    let one : m ≤ n + 1 = omega (arith, c.saturating_add-in-Sparse.ensures) in
    subst (λ (s : State). IsLeastOf lengths (node_of s) m) (sym c.in-Sparse.is)
    (least-sparse lengths m n c.in-Sparse.transitions.items
    (subst (λ (ts : List Transition). All (λ t. n ≤ get_or lengths t.next 0) ts) c.deref.ensures.value
    c.least_over.ensures) one)

pub returns-in-Dense : goal.returns-in-Dense
returns-in-Dense c =
    let lengths = c.args.lengths.now in
    let n = c.least_of_targets.result in
    let m = c.saturating_add-in-Dense.result in
    let one : m ≤ n + 1 = omega (arith, c.saturating_add-in-Dense.ensures) in
    subst (λ (s : State). IsLeastOf lengths (node_of s) m) (sym c.in-Dense.is)
    (least-dense lengths m n c.in-Dense.targets.items
    (subst (λ (os : List (Option ℕ)). All (λ o. IfSome o (λ s. n ≤ get_or lengths s 0)) os)
    c.deref-in-Dense.ensures.value c.least_of_targets.ensures) one)
