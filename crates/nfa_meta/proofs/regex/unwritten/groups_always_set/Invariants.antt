-- The slots so far are always written.
use Rattle.std.proofs.Common.{ℕ, ◌<◌}
use Rattle.nfa_meta.specs.AlwaysSet.{AlwaysWrites}
use Rattle.nfa_meta.proofs.regex.unwritten.groups_always_set.Given as goal

abbrev pub invariant-loop-slot : goal.invariant-loop-slot
invariant-loop-slot l = (k : ℕ) → k < l.slot → AlwaysWrites l.nfa k
