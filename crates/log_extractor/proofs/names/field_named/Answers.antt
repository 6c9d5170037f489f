-- The column has the name, or another one, or none is left.
use Rattle.nfa_paths.proofs.Common.{◌≡◌, ◌∙◌, false, string_bytes, sym, true, bytes_eq}
use Rattle.log_extractor.specs.Fields.{fields_now}
use Rattle.log_extractor.proofs.SeveralLemmas.{field-from}
use Rattle.log_extractor.proofs.names.field_named.Goals as goal

pub returns-then-is_name : goal.returns-then-is_name
returns-then-is_name c =
    let same : bytes_eq (string_bytes c.index-columns-number.result.name) (string_bytes c.args.name.now) ≡ true =
    rw (← c.as_str.ensures.value) (sym c.is_name.ensures ∙ c.if-is_name.true) in
    c.field_at.ensures
    ∙ sym (c.loop-number.invariant
    ∙ rw same at (field-from c.args.columns.now (fields_now c.args.fields.now) (string_bytes c.args.name.now)
    c.loop-number.number c.index-columns-number.result c.loop-number-test.true c.index-columns-number.is))

pub loop-number-preserved : goal.loop-number-preserved
loop-number-preserved c =
    let differs : bytes_eq (string_bytes c.index-columns-number.result.name) (string_bytes c.args.name.now) ≡ false =
    rw (← c.as_str.ensures.value) (sym c.is_name.ensures ∙ c.if-is_name.false) in
    c.loop-number.invariant
    ∙ rw differs at (field-from c.args.columns.now (fields_now c.args.fields.now) (string_bytes c.args.name.now)
    c.loop-number.number c.index-columns-number.result c.loop-number-test.true c.index-columns-number.is)
