-- The fields so far are those of the first columns.
use Rattle.nfa_paths.proofs.Common.{◌≡◌, map, take, group_span}
use Rattle.log_extractor.specs.Fields.{cut, fields_now}
use Rattle.log_extractor.proofs.parser.cut_fields.Given as goal

abbrev pub invariant-loop-column : goal.invariant-loop-column
invariant-loop-column l = fields_now l.fields.items
    ≡ map (λ column. cut l.line (group_span l.captures column.group)) (take l.column-index l.columns)
