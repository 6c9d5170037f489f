-- The items are the list, up to a refusal.
use Rattle.std.proofs.Common.{rules, ◌≡◌, ◌∙◌, ap, subst, map, IfOk, [], ◌∷◌, Some}
use Rattle.regex_search_core.specs.Slots.{Captured}
use Rattle.nfa_search_base.specs.Common.{row_of, row_span, UpToRefusal, item_by, greedy, IterState, AnswerIsInside, fresh}
use Rattle.callers.specs.EmptyFinder.{zero_row}
use Rattle.nfa_search_base.proofs.WithCapturesLemmas.{FillsAlong-by, refusal_from_collect}
use Rattle.callers.proofs.EmptyFinderLemmas.{zero_inside}
use Rattle.callers.proofs.finders.collected_captures.Goals as goal

pub into_captures_iter-items-requires : goal.into_captures_iter-items-requires
into_captures_iter-items-requires c =
    FillsAlong-by _ (AnswerIsInside row_span) (λ f (k : Captured). k.slots ≡ Some 0 ∷ Some 0 ∷ []) _ _ c.requires
    (λ f p q same inv. search rules) (λ f p q reply left f' same inv called. search (rules, zero_inside))

pub returns : goal.returns
returns c =
    subst (λ (w : IterState). IfOk c.collect.result
    (λ v. UpToRefusal (greedy row_span zero_row w) (map (item_by row_of) v.items)))
    (c.new-searcher.ensures ∙ ap fresh c.new-input.ensures)
    (refusal_from_collect c.collect.result c.collect.ensures.ran (c.into_captures_iter-items.ensures.list zero_row
    (FillsAlong-by _ (λ s a. a ≡ zero_row s) (λ f (k : Captured). k.slots ≡ Some 0 ∷ Some 0 ∷ []) _ _ c.requires
    (λ f p q same inv. search rules) (λ f p q reply left f' same inv called. search rules))))
