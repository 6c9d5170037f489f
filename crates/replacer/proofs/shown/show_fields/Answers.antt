-- The lines are those of the fields that the hits of the text give.
use Rattle.std.proofs.Common.{◌∙◌, ap}
use Rattle.replacer.specs.Printed.{field_lines}
use Rattle.replacer.specs.Separated.{texts}
use Rattle.replacer.proofs.shown.show_fields.Goals as goal

pub returns-clause-meant : goal.returns-clause-meant
returns-clause-meant c = λ pattern re hits of all.
    c.in_ok-lines.ensures
    ∙ ap field_lines (ap texts c.deref.ensures.value ∙ c.in_ok-fields.ensures.meant pattern re hits of all)
