-- All bytes so far are digits.
use Rattle.std.specs.List.{AllWithin}
use Rattle.replacer.specs.Escapes.{IsHex}
use Rattle.replacer.proofs.escapes.digits_end.Given as goal

abbrev pub invariant-loop-end : goal.invariant-loop-end
invariant-loop-end l = AllWithin IsHex l.text l.from l.end
