-- The count is that of the items so far.
use Rattle.std.proofs.Common.{◌≡◌, length}
use Rattle.nfa_samples.proofs.named_engine.count_piked.Given as goal

abbrev pub invariant-loop-found : goal.invariant-loop-found
invariant-loop-found l = l.count ≡ length l.yielded
