-- The templates so far were read.
use Rattle.std.proofs.Common.{take}
use Rattle.replacer.specs.Stretches.{AreAllStretches, all_stretched}
use Rattle.replacer.proofs.stretches.all_stretches.Given as goal

abbrev pub invariant-loop-number : goal.invariant-loop-number
invariant-loop-number l = AreAllStretches (take l.number l.templates) (all_stretched l.all.items)
