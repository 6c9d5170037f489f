-- The law, of the two answers.
use Rattle.callers.proofs.answers.found_with_the_flag.Goals as goal

pub returns : goal.returns
returns c = c.answers_agree_under_any_flag.ensures.found _ _ _ _ _ _ _ _ c.earliest-flagged.ensures c.requires.off
    c.is_match-found.ensures.answer c.search_slots-pattern.ensures.answer
