-- The items are the list.
use Rattle.std.proofs.Common.{rules, ◌∙◌, ap}
use Rattle.nfa_search_base.specs.Common.{IsInfalliblyInside, fresh, row_span}
use Rattle.nfa_search_base.proofs.MayAnswerLemmas.{captures_collected_infallibly_as}
use Rattle.callers.proofs.sure.captures_surely_collected.Goals as goal

pub returns : goal.returns
returns c = captures_collected_infallibly_as (IsInfalliblyInside row_span) _ c.collect.result c.collect.ensures.ran
    (c.infallible-items.ensures.given c.into_captures_iter.ensures.going).all
    (c.into_captures_iter.ensures.iter_state ∙ c.new-searcher.ensures ∙ ap fresh c.new.ensures)
    (λ q t a q' matched_row. search rules)
