-- What has been pushed is what the iterator gave.
use Rattle.std.proofs.Common.{◌≡◌}
use Rattle.callers.proofs.paths.found_first.Given as goal

abbrev pub invariant-loop-item : goal.invariant-loop-item
invariant-loop-item l = l.found.items ≡ l.yielded
