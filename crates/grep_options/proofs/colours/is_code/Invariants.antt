-- The other bytes decide.
use Rattle.std.proofs.Common.{◌≡◌, drop}
use Rattle.grep_options.specs.Colours.{is_code}
use Rattle.grep_options.proofs.colours.is_code.Given as goal

abbrev pub invariant-loop-byte : goal.invariant-loop-byte
invariant-loop-byte l = is_code l.text ≡ is_code (drop l.byte-index l.text)
