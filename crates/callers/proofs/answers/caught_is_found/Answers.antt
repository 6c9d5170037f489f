-- The law, of the captures and the match.
use Rattle.std.proofs.Common.{◌∙◌}
use Rattle.callers.proofs.answers.caught_is_found.Goals as goal

pub returns : goal.returns
returns c = c.get_match-caught.ensures ∙ c.slots_give_the_match.ensures.all _ _ _ _ _ _ _
    (c.captures-2.ensures.count ∙ c.requires.slots) c.captures-2.ensures.answer c.find-found.ensures.answer
