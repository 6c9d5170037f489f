-- The law, at the two answers.
use Rattle.callers.proofs.histories.found_twice.Goals as goal

pub returns : goal.returns
returns c = c.cache_history_is_invisible.ensures.matches _ _ _ _ _ _ c.find-one.ensures.answer c.find-two.ensures.answer
