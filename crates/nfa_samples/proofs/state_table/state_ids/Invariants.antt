-- The numbers so far are those of the list.
use Rattle.std.proofs.Common.{◌≡◌, take}
use Rattle.nfa_samples.proofs.state_table.state_ids.Given as goal

abbrev pub invariant-loop-number : goal.invariant-loop-number
invariant-loop-number l = l.ids.items ≡ take l.number-index l.numbers
