-- The first columns have other names.
use Rattle.std.proofs.Common.{◌≡◌, drop, map, string_bytes}
use Rattle.log_extractor.specs.Fields.{fields_now, group_of}
use Rattle.log_extractor.specs.Several.{field_named}
use Rattle.log_extractor.proofs.names.field_named.Given as goal

abbrev pub invariant-loop-number : goal.invariant-loop-number
invariant-loop-number l =
    field_named (map group_of l.columns) (fields_now l.fields) (string_bytes l.name)
    ≡ field_named (drop l.number (map group_of l.columns)) (drop l.number (fields_now l.fields)) (string_bytes l.name)
