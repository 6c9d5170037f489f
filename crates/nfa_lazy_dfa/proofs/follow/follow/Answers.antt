-- The next stand has the states that the byte leads to.
use Rattle.nfa_paths.proofs.Common.{rules, ◌≡◌, ◌∷◌, ◌++◌, [], sym, subst, Some, In}
use Rattle.nfa_paths.proofs.MemberLemmas.{In-append_left}
use Rattle.nfa_lazy_dfa.specs.Closures.{kept, step}
use Rattle.nfa_lazy_dfa.specs.Stances.{here, stance_of}
use Rattle.nfa_lazy_dfa.proofs.follow.follow.Goals as goal
use Rattle.nfa_lazy_dfa.proofs.follow.follow.Goals.{then-more+in_ok-push, else-more}

pub returns-clause-next : goal.returns-clause-next
returns-clause-next c =
    let nfa = c.args.dfa.now.nfa in
    let s = stance_of c.args.stand.now in
    let next = c.in_ok-next.next.items in
    let stepped : next ≡ step nfa (Some c.args.byte) (kept nfa c.args.dfa.now.kind (here nfa s (Some c.args.byte))) =
    search rules in
    record {
      read = c.requires.read;
      hit = search rules;
      hits = search rules;
      more = search rules;
      states = search rules;
      held = λ q i.
          let j : In q next = subst (In q) (sym stepped) i in
          c.in_ok-states-2.ensures.held q
          (subst (In q) (sym c.deref-4.ensures.value)
          (elim c.if-more.branch [
            | then-more+in_ok-push w ↦
                let pushed : c.if-more.next.items ≡ next ++ c.args.dfa.now.nfa.anchored ∷ [] = search rules in
                subst (In q) (sym pushed) (In-append_left q next (c.args.dfa.now.nfa.anchored ∷ []) j)
            | else-more w ↦
                let same : c.if-more.next.items ≡ next = search rules in
                subst (In q) (sym same) j
          ]));
      before = search rules;
    }
