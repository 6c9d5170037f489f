-- The position of the start of the text.
use Rattle.std.proofs.Common.{◌∙◌}
use Rattle.lexer.proofs.PositionLemmas.{first-there}
use Rattle.lexer.proofs.report.stuck_at.Goals as goal

pub moved-requires-clause-place : goal.moved-requires-clause-place
moved-requires-clause-place c = c.first.ensures ∙ first-there c.args.text.now
