-- The lines of the text are those of its parts.
use Rattle.log_extractor.specs.declared.output.Output.TheVariants as output
use Rattle.log_extractor.proofs.GoingLemmas.{printed-joined}
use Rattle.log_extractor.proofs.report.parts_are_joined.Goals as goal

pub returns-clause-rows : goal.returns-clause-rows
returns-clause-rows c = λ form. printed-joined (output.Rows form)

pub returns-clause-objects : goal.returns-clause-objects
returns-clause-objects c = λ values. printed-joined (output.Objects values)

pub returns-clause-rejects : goal.returns-clause-rejects
returns-clause-rejects c = printed-joined output.Rejects
