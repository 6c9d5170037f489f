-- It allocates only if there was a match.
use Rattle.nfa_paths.proofs.Common.{subst, sym, search_of}
use Rattle.nfa_search_base.specs.Common.{MatchesGiven}
use Rattle.nfa_pikevm.specs.Engines.{kind_of}
use Rattle.nfa_pikevm.specs.Iterators.{pike_matches_next}
use Rattle.nfa_search_base.proofs.ListLemmas.{none-before}
use Rattle.nfa_pikevm.proofs.engine.PikeVM.find_all.Goals as goal

pub returns-in_err-push-clause-granted : goal.returns-in_err-push-clause-granted
returns-in_err-push-clause-granted c = λ none.
    let nfa = c.args.self.now.nfa in
    let kind = kind_of c.args.self.now in
    let x = search_of c.args.input in
    let given : MatchesGiven nfa kind x pike_matches_next c.into_iter-item-iterator.result =
    subst (λ s. MatchesGiven nfa kind x pike_matches_next s) (sym c.into_iter-item-iterator.ensures.into_iter_gives)
    c.find_iter-item-items.ensures.given in
    absurd (none-before nfa kind x.earliest x c.loop-item.yielded c.in-Some.item
    (given.next c.loop-item.yielded _ _ _ c.loop-item.yielded_by c.in-Some.ensures.steps) none)
