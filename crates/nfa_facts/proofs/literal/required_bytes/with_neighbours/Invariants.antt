-- Each match has the longest bytes so far.
use Rattle.nfa_facts.specs.RequiredBytes.{IsRequired}
use Rattle.nfa_facts.proofs.literal.required_bytes.with_neighbours.Given as goal

abbrev pub invariant-loop-index : goal.invariant-loop-index
invariant-loop-index l = IsRequired l.nfa l.best
