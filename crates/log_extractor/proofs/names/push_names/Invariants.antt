-- The names of the first columns were added.
use Rattle.std.proofs.Common.{◌≡◌, map, take, string_bytes}
use Rattle.log_extractor.specs.Fields.{column_names, group_of}
use Rattle.log_extractor.specs.Several.{with_names}
use Rattle.log_extractor.proofs.names.push_names.Given as goal

abbrev pub invariant-loop-column : goal.invariant-loop-column
invariant-loop-column l = map string_bytes l.names.items
    ≡ with_names (map string_bytes l.fn.names.items) (column_names (map group_of (take l.column-index l.columns)))
