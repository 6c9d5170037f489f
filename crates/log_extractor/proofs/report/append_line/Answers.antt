-- The row is that of the line.
use Rattle.std.proofs.Common.{◌∙◌, ◌++◌, ap, ap₂, sym, is_some}
use Rattle.log_extractor.specs.Selected.{row_in}
use Rattle.log_extractor.specs.Printed.{shown_as}
use Rattle.regex_syntax.proofs.Written.{is_some-option_map}
use Rattle.log_extractor.proofs.report.append_line.Goals as goal

pub returns-clause-shown : goal.returns-clause-shown
returns-clause-shown c = λ ps is.
    c.in-Ok-append_shown.ensures
    ∙ ap₂ (λ cs r. c.args.out.now.items ++ shown_as c.args.output cs c.args.line.now r)
    (rw c.in-Ok.ensures.kept at (c.names.ensures ps (rw c.in-Ok.ensures.kept is)))
    (c.in-Ok.ensures.fields ps is ∙ ap (row_in c.args.rows.now.selection ps) c.content.ensures)

pub returns-clause-row : goal.returns-clause-row
returns-clause-row c = λ ps is.
    c.is_some.ensures ∙ sym (is_some-option_map _ c.in-Ok.row)
    ∙ ap is_some (c.in-Ok.ensures.fields ps is ∙ ap (row_in c.args.rows.now.selection ps) c.content.ensures)
