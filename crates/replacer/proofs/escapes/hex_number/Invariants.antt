-- It is the number of the digits so far.
use Rattle.std.proofs.Common.{◌≡◌, take}
use Rattle.replacer.specs.Escapes.{hex_number}
use Rattle.replacer.proofs.escapes.hex_number.Given as goal

abbrev pub invariant-loop-at : goal.invariant-loop-at
invariant-loop-at l = l.number ≡ hex_number (take l.at l.digits)
