-- The names so far are others.
use Rattle.std.proofs.Common.{◌≡◌, false, take}
use Rattle.lexer.specs.Printed.{is_in}
use Rattle.lexer.proofs.names.is_in.Given as goal

abbrev pub invariant-loop-other : goal.invariant-loop-other
invariant-loop-other l = is_in (take l.other-index l.names) l.name ≡ false
