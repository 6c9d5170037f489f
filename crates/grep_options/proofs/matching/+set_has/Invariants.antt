-- The characters get fewer.
use Rattle.std.proofs.Common.{length}
use Rattle.grep_options.proofs.matching.+set_has.Given as goal

abbrev pub decreases-set_has : goal.decreases-set_has
decreases-set_has l = length l.letters.now
