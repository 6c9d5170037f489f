-- The items are the list.
use Rattle.std.proofs.Common.{rules, ◌∙◌, ap}
use Rattle.nfa_search_base.specs.IterStates.{IsInfalliblyInside, fresh, span_of}
use Rattle.nfa_search_base.proofs.MayAnswerLemmas.{collected_infallibly_as}
use Rattle.callers.proofs.sure.surely_collected.Goals as goal

pub returns : goal.returns
returns c = collected_infallibly_as (IsInfalliblyInside span_of) _ c.collect.result c.collect.ensures.ran
    (c.infallible-items.ensures.given c.into_matches_iter.ensures.going).all
    (c.into_matches_iter.ensures.iter_state ∙ c.new-searcher.ensures ∙ ap fresh c.new-input.ensures)
    (λ t a f' found. search rules)
