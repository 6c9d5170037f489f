-- The items are the list.
use Rattle.nfa_search_base.specs.StoredRuns.{stored_captures_steps}
use Rattle.nfa_search_base.proofs.MayAnswerLemmas.{collected_all}
use Rattle.callers.proofs.finders.captures_collected_by.Goals as goal

pub returns : goal.returns
returns g c = collected_all (stored_captures_steps g.F.FnMut) _ c.into_captures_iter.result c.collect.result
    c.collect.ensures.ran c.into_captures_iter.ensures.given.all
