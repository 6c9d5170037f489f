-- The fields so far were appended.
use Rattle.std.proofs.Common.{◌≡◌, ◌∷◌, ◌++◌, map, take, flat_map}
use Rattle.log_extractor.specs.Fields.{field_text, fields_now}
use Rattle.log_extractor.specs.Printed.{separator, written}
use Rattle.log_extractor.proofs.row.append_more.Given as goal

abbrev pub invariant-loop-field : goal.invariant-loop-field
invariant-loop-field l = l.out.items ≡ l.fn.out.items ++ flat_map (λ text. separator l.form ∷ text)
    (map (written l.form) (map field_text (fields_now (take l.field-index l.fields))))
