-- The characters get fewer.
use Rattle.std.proofs.Common.{length}
use Rattle.grep_options.proofs.glob.+push_letters.Given as goal

abbrev pub decreases-push_letters : goal.decreases-push_letters
decreases-push_letters l = length l.values.now
