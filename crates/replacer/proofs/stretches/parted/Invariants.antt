-- The stretches so far, and those of the signs that are left, are all.
use Rattle.std.proofs.Common.{◌≡◌, ◌++◌, drop, map}
use Rattle.replacer.specs.Stretches.{stretched, stretches_from, stretches_of}
use Rattle.replacer.proofs.stretches.parted.Given as goal

abbrev pub invariant-loop-sign : goal.invariant-loop-sign
invariant-loop-sign l =
    map stretched l.stretches.items ++ stretches_from (stretched l.begun) (drop l.sign-index l.signs)
    ≡ stretches_of l.signs
