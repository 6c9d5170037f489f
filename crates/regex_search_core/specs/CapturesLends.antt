-- captures whose slots are borrowed for writing
use Rattle.std.specs.Prelude.{ℕ, List, Option, length}
use Rattle.std.specs.Borrow.{Lends, MutBor, Fml, Array}
use Rattle.std.specs.List.{refill}
use Rattle.std.specs.contracts.option.Option.{the_row as OptionOf}
use Rattle.regex_search_core.specs.Slots.{Captured}
use Rattle.regex_search_core.specs.contracts.captures.Captures.{the_row}
use Rattle.regex_search_core.specs.contracts.primitives.NonMaxUsize.{the_row as NonMax}

-- these captures with other slots; their number stays
abbrev pub with_slots : Captured → List (Option ℕ) → Captured
with_slots captures slots = record captures { slots = refill (length captures.slots) captures.slots slots }

-- when the borrow ends, the captures have the slots that were last written through the slice
abbrev pub LendsSlots : MutBor Captured → MutBor (List (Option ℕ)) → Fml
LendsSlots captures slots = Lends the_row (Array (OptionOf NonMax) 0) captures slots (with_slots captures.now)
