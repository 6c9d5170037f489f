-- The names so far are others.
use Rattle.std.proofs.Common.{◌≡◌, false, take}
use Rattle.program_text.specs.Parting.{is_one_of}
use Rattle.program_text.proofs.parted.is_one_of.Given as goal

abbrev pub invariant-loop-name : goal.invariant-loop-name
invariant-loop-name l = is_one_of (take l.name-index l.names) l.bytes ≡ false
