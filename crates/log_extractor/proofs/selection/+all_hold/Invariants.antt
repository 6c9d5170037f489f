-- The conditions get fewer.
use Rattle.std.proofs.Common.{length}
use Rattle.log_extractor.proofs.selection.+all_hold.Given as goal

abbrev pub decreases-all_hold : goal.decreases-all_hold
decreases-all_hold l = length l.conditions.now
