-- The items are the list.
use Rattle.std.proofs.Common.{rules, ◌≡◌, ◌∙◌, ap, subst, map, List, refl, Result}
use Rattle.std.proofs.lemmas.Iterator.Consumers.{YieldsList-at, YieldsList-end}
use Rattle.regex_search_core.specs.declared.search.Match.{Match}
use Rattle.nfa_search_base.specs.declared.error.SearchError.{SearchError}
use Rattle.regex_search_core.specs.Found.{found_of}
use Rattle.callers.specs.EmptyFinder.{empty_answer}
use Rattle.nfa_search_base.specs.Common.{item_by, greedy, IterState, fresh, span_of}
use Rattle.nfa_search_base.proofs.StepLemmas.{AnswersAlong-always}
use Rattle.callers.proofs.finders.looped.Goals as goal

pub returns : goal.returns
returns c =
    subst (λ (w : IterState). map (item_by found_of) c.loop-item.found.items ≡ greedy span_of empty_answer w)
    (c.new-searcher.ensures ∙ ap fresh c.new-input.ensures)
    (ap (λ (xs : List (Result Match SearchError)). map (item_by found_of) xs) c.loop-item.invariant.2
    ∙ (YieldsList-end (YieldsList-at c.into_iter-item-iterator.ensures.into_iter_gives
    (c.into_matches_iter-items.ensures.list empty_answer
    (AnswersAlong-always found_of _ (λ s a. a ≡ empty_answer s) _ _
    (λ q p same. search rules) (λ q p reply q' same called. search rules))))
    c.loop-item.yielded _ c.loop-item.yielded_by _ _ refl c.in-None.ensures.steps).0)
