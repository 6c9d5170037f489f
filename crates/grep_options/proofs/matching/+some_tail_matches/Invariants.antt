-- The characters get fewer.
use Rattle.std.proofs.Common.{length}
use Rattle.grep_options.proofs.matching.+some_tail_matches.Given as goal

abbrev pub decreases-some_tail_matches : goal.decreases-some_tail_matches
decreases-some_tail_matches l = length l.text.now
