-- The characters get fewer.
use Rattle.std.proofs.Common.{length}
use Rattle.grep_options.proofs.glob.+push_tokens.Given as goal

abbrev pub decreases-push_tokens : goal.decreases-push_tokens
decreases-push_tokens l = length l.letters.now
