-- It allocates only if there was a match.
use Rattle.nfa_paths.proofs.Common.{rules, subst, sym, search_of}
use Rattle.nfa_search_base.specs.Common.{MatchesGiven}
use Rattle.nfa_search_base.proofs.ListLemmas.{none-before}
use Rattle.nfa_choice.specs.ChoiceState.{kind_in}
use Rattle.nfa_choice.specs.Iterations.{choice_matches_next}
use Rattle.nfa_choice.proofs.choose.Choice.find_all.Goals as goal

pub returns-in_err-push-clause-lists : goal.returns-in_err-push-clause-lists
returns-in_err-push-clause-lists c =
    let nfa = c.args.self.now.nfa in
    let kind = kind_in c.args.self.now in
    let x = search_of c.args.input in
    let given : MatchesGiven nfa kind x choice_matches_next c.into_iter-item-iterator.result =
    subst (λ s. MatchesGiven nfa kind x choice_matches_next s) (sym c.into_iter-item-iterator.ensures.into_iter_gives)
    c.find_iter-item-items.ensures.given in
    record {
      granted = λ none. absurd (none-before nfa kind x.earliest x c.loop-item.yielded c.in-Some.item
          (given.next c.loop-item.yielded _ _ _ c.loop-item.yielded_by c.in-Some.ensures.steps) none);
      all = search rules;
      disjoint = search rules;
    }
