-- The parts, or the names, get fewer.
use Rattle.std.proofs.Common.{◌+◌, ◌*◌, length}
use Rattle.grep_options.proofs.ignored.+names.Given as goal

abbrev pub decreases-outcome_of_names : goal.decreases-outcome_of_names
decreases-outcome_of_names l = 2 * (length l.parts.now + length l.names.now)

abbrev pub decreases-outcome_of_name : goal.decreases-outcome_of_name
decreases-outcome_of_name l = 2 * (length l.others.now + length l.names.now) + 1

abbrev pub decreases-outcome_of_later_names : goal.decreases-outcome_of_later_names
decreases-outcome_of_later_names l = 2 * (length l.parts.now + length l.names.now) + 1
