-- The parts, or the characters, get fewer.
use Rattle.std.proofs.Common.{◌+◌, ◌*◌, length}
use Rattle.grep_options.proofs.matching.+parts.Given as goal

abbrev pub decreases-outcome_of : goal.decreases-outcome_of
decreases-outcome_of l = 2 * (length l.tokens.now + length l.text.now)

abbrev pub decreases-outcome_of_rests : goal.decreases-outcome_of_rests
decreases-outcome_of_rests l = 2 * (length l.tokens.now + length l.text.now) + 1
