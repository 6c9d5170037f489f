-- The row of the line by this pattern.
use Rattle.std.proofs.Common.{ap, refl, Some}
use Rattle.log_extractor.proofs.parsers.row_by.Goals as goal

pub returns-in_default-clause-fields : goal.returns-in_default-clause-fields
returns-in_default-clause-fields c = λ p is.
    let none = rw c.in_default.is at (c.in_ok-fields.ensures.fields p.1 is.1) in rw (← none) refl

pub returns-clause-fields : goal.returns-clause-fields
returns-clause-fields c = λ p is.
    let found = rw c.in-Some.is at (c.in_ok-fields.ensures.fields p.1 is.1) in
    let columns = c.columns.ensures p.1 (rw c.in_ok-fields.ensures.kept is.1) in
    rw (← found, ← is.0, ← columns)
    (ap Some (rw (c.in_ok-push_fields.ensures, c.in_ok-row.ensures, c.deref.ensures.value) refl))
