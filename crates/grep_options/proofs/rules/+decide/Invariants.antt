-- The rules get fewer.
use Rattle.std.proofs.Common.{length}
use Rattle.grep_options.proofs.rules.+decide.Given as goal

abbrev pub decreases-decide : goal.decreases-decide
decreases-decide l = length l.rules.now
