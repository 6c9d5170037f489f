-- The fields so far are those of the first numbers.
use Rattle.std.proofs.Common.{◌≡◌, map, take}
use Rattle.log_extractor.specs.Fields.{fields_now}
use Rattle.log_extractor.specs.Several.{field_at}
use Rattle.log_extractor.proofs.selection.fields_at.Given as goal

abbrev pub invariant-loop-column : goal.invariant-loop-column
invariant-loop-column l =
    fields_now l.shown.items ≡ map (field_at (fields_now l.fields)) (take l.column-index l.columns)
