-- The items are the list.
use Rattle.regex_search_core.specs.Found.{half_found_of}
use Rattle.nfa_search_base.specs.Common.{stored_match_steps, half_span_of}
use Rattle.nfa_search_base.proofs.MayAnswerLemmas.{collected_all}
use Rattle.callers.proofs.finders.halves_collected_by.Goals as goal

pub returns : goal.returns
returns g c = collected_all (stored_match_steps half_found_of half_span_of g.F.FnMut) _ c.into_half_matches_iter.result
    c.collect.result c.collect.ensures.ran c.into_half_matches_iter.ensures.given.all
