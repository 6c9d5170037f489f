-- With the slots that are left, the slots are those that are wanted.
use Rattle.std.proofs.Common.{◌≡◌, drop}
use Rattle.nfa_onepass.specs.Ways.{write_each}
use Rattle.nfa_onepass.proofs.walk.write_each.Given as goal

abbrev pub invariant-loop-slot : goal.invariant-loop-slot
invariant-loop-slot l = write_each (drop l.slot-index l.list) l.at l.slots ≡ write_each l.list l.at l.fn.slots
