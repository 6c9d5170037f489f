-- The text so far is the signs so far.
use Rattle.std.proofs.Common.{◌≤◌, ◌-◌, length}
use Rattle.replacer.specs.Escapes.{AreSigns}
use Rattle.replacer.proofs.escapes.signs_of.Given as goal

abbrev pub invariant-loop-at : goal.invariant-loop-at
invariant-loop-at l = record {
  signs : AreSigns l.text l.signs.items l.at;
  within : l.at ≤ length l.text;
}

abbrev pub decreases-loop-at : goal.decreases-loop-at
decreases-loop-at l = length l.text - l.at
