-- The column has the name, or another one, or none is left.
use Rattle.nfa_paths.proofs.Common.{◌≡◌, ◌∙◌, false, map, string_bytes, sym, true, bytes_eq, group_span}
use Rattle.log_extractor.specs.Fields.{cut}
use Rattle.log_extractor.specs.declared.pattern.Column.{Column}
use Rattle.log_extractor.proofs.SeveralLemmas.{column-at, field-from}
use Rattle.log_extractor.proofs.parser.cut_named.Goals as goal

pub returns-then-is_name : goal.returns-then-is_name
returns-then-is_name c =
    let columns = c.args.columns.now in
    let name = string_bytes c.args.name.now in
    let column = c.column-item.result in
    let n = c.loop-column.column-index in
    let cuts = λ (column : Column). cut c.args.line.now (group_span c.args.captures.now column.group) in
    let same : bytes_eq (string_bytes column.name) name ≡ true =
    rw (← c.as_str.ensures.value) (sym c.is_name.ensures ∙ c.if-is_name.true) in
    c.cut_field.ensures
    ∙ sym (column-at cuts columns n column c.loop-column-test.true c.column-item.is)
    ∙ sym (c.loop-column.invariant
    ∙ rw same at (field-from columns (map cuts columns) name n column c.loop-column-test.true c.column-item.is))

pub loop-column-preserved : goal.loop-column-preserved
loop-column-preserved c =
    let columns = c.args.columns.now in
    let name = string_bytes c.args.name.now in
    let column = c.column-item.result in
    let cuts = λ (column : Column). cut c.args.line.now (group_span c.args.captures.now column.group) in
    let differs : bytes_eq (string_bytes column.name) name ≡ false =
    rw (← c.as_str.ensures.value) (sym c.is_name.ensures ∙ c.if-is_name.false) in
    c.loop-column.invariant
    ∙ rw differs at (field-from columns (map cuts columns) name c.loop-column.column-index column
    c.loop-column-test.true c.column-item.is)
