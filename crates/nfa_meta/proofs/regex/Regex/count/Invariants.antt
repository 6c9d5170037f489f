-- The count is that of the matches so far.
use Rattle.std.proofs.Common.{◌≡◌, length}
use Rattle.nfa_meta.proofs.regex.Regex.count.Given as goal

abbrev pub invariant-loop-found : goal.invariant-loop-found
invariant-loop-found l = l.count ≡ length l.yielded
