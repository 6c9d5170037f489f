-- The fields so far were appended, a line for each.
use Rattle.std.proofs.Common.{◌≡◌, take}
use Rattle.replacer.specs.Printed.{field_lines}
use Rattle.replacer.specs.Separated.{texts}
use Rattle.replacer.proofs.shown.lines_of.Given as goal

abbrev pub invariant-loop-field : goal.invariant-loop-field
invariant-loop-field l = l.lines.items ≡ field_lines (texts (take l.field-index l.fields))
