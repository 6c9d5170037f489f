-- The first columns have other names.
use Rattle.nfa_paths.proofs.Common.{◌≡◌, drop, map, string_bytes, group_span}
use Rattle.log_extractor.specs.Fields.{cut, group_of}
use Rattle.log_extractor.specs.Several.{field_named}
use Rattle.log_extractor.proofs.parser.cut_named.Given as goal

abbrev pub invariant-loop-column : goal.invariant-loop-column
invariant-loop-column l =
    field_named (map group_of l.columns)
    (map (λ column. cut l.line (group_span l.captures column.group)) l.columns) (string_bytes l.name)
    ≡ field_named (drop l.column-index (map group_of l.columns))
    (drop l.column-index (map (λ column. cut l.line (group_span l.captures column.group)) l.columns))
    (string_bytes l.name)
