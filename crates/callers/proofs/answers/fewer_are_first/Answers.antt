-- The law, of the two answers.
use Rattle.std.proofs.Common.{arith}
use Rattle.callers.proofs.answers.fewer_are_first.Goals as goal

pub returns : goal.returns
returns c = (c.fewer_slots.ensures.first _ _ _ _ _ _ _ _ c.search_slots.ensures.answer c.search_slots-2.ensures.answer
    (omega (arith, c.requires.fewer, c.search_slots.auto.slots, c.search_slots-2.auto.slots))).1
