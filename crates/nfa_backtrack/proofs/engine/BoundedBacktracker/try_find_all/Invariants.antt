-- What was given so far is what the vector holds.
use Rattle.std.proofs.Common.{◌≡◌, Ok, map}
use Rattle.nfa_backtrack.proofs.engine.BoundedBacktracker.try_find_all.Given as goal

abbrev pub invariant-loop-item : goal.invariant-loop-item
invariant-loop-item l = l.yielded ≡ map Ok l.found.items
