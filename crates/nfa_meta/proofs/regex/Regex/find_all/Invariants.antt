-- What was given so far is what the vector holds.
use Rattle.std.proofs.Common.{◌≡◌}
use Rattle.nfa_meta.proofs.regex.Regex.find_all.Given as goal

abbrev pub invariant-loop-item : goal.invariant-loop-item
invariant-loop-item l = l.found.items ≡ l.yielded
