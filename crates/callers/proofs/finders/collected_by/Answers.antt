-- The items are the list.
use Rattle.regex_search_core.specs.Found.{found_of}
use Rattle.nfa_search_base.specs.Common.{stored_match_steps, span_of}
use Rattle.nfa_search_base.proofs.MayAnswerLemmas.{collected_all}
use Rattle.callers.proofs.finders.collected_by.Goals as goal

pub returns : goal.returns
returns g c = collected_all (stored_match_steps found_of span_of g.F.FnMut) _ c.into_matches_iter.result
    c.collect.result
    c.collect.ensures.ran c.into_matches_iter.ensures.given.all
