-- An answer is what the finder replied.
use Rattle.std.proofs.Common.{rules, refl}
use Rattle.nfa_search_base.proofs.iter.by_ref.ByRefFindWith.answer.Goals as goal

pub returns : goal.returns
returns g c = record {
  reply = c.ask.result;
  asked = record { shown = c.ask.ensures.shown; shows = c.ask.ensures.shows; called = search rules };
  shows = refl;
}
