-- The fields of the first names were added.
use Rattle.std.proofs.Common.{◌≡◌, ◌++◌, map, take, string_bytes}
use Rattle.log_extractor.specs.Fields.{fields_now, group_of}
use Rattle.log_extractor.specs.Several.{field_named}
use Rattle.log_extractor.proofs.names.push_fields.Given as goal

abbrev pub invariant-loop-name : goal.invariant-loop-name
invariant-loop-name l = fields_now l.row.items ≡ fields_now l.fn.row.items
    ++ map (field_named (map group_of l.columns) (fields_now l.fields)) (map string_bytes (take l.name-index l.names))
