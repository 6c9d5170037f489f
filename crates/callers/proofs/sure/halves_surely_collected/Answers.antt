-- The items are the list.
use Rattle.std.proofs.Common.{rules, ◌∙◌, ap}
use Rattle.nfa_search_base.specs.IterStates.{IsInfalliblyInside, fresh, half_span_of}
use Rattle.nfa_search_base.proofs.MayAnswerLemmas.{collected_infallibly_as}
use Rattle.callers.proofs.sure.halves_surely_collected.Goals as goal

pub returns : goal.returns
returns c = collected_infallibly_as (IsInfalliblyInside half_span_of) _ c.collect.result c.collect.ensures.ran
    (c.infallible-items.ensures.given c.into_half_matches_iter.ensures.going).all
    (c.into_half_matches_iter.ensures.iter_state ∙ c.new-searcher.ensures ∙ ap fresh c.new-input.ensures)
    (λ t a f' found. search rules)
