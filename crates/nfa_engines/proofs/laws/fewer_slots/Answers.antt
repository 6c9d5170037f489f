-- Fewer slots are the first ones of the same answer, and slots past those of the NFA are none.
use Rattle.nfa_engines.proofs.MatchLemmas.{fewer-slots, slots-past}
use Rattle.nfa_engines.proofs.laws.fewer_slots.Goals as goal

pub returns : goal.returns
returns c = record { first = fewer-slots; past = slots-past }
