-- The characters get fewer.
use Rattle.std.proofs.Common.{length}
use Rattle.grep_options.proofs.glob.+has_open_set.Given as goal

abbrev pub decreases-has_open_set : goal.decreases-has_open_set
decreases-has_open_set l = length l.letters.now
