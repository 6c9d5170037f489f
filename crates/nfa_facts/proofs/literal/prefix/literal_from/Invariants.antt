-- The bytes so far, and those of the moves that are left, are the literal.
use Rattle.std.proofs.Common.{◌-◌}
use Rattle.nfa_facts.proofs.OccurrenceLemmas.{IsCollected}
use Rattle.nfa_facts.proofs.literal.prefix.literal_from.Given as goal

abbrev pub invariant-loop : goal.invariant-loop
invariant-loop l = IsCollected l.nfa l.fn.from l.literal.items (l.end - l.counter) l.state
