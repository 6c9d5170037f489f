-- The starts so far are those of the first patterns.
use Rattle.std.proofs.Common.{◌≡◌, take}
use Rattle.nfa_facts.proofs.captures.keep.pattern_starts.Given as goal

abbrev pub invariant-loop-index : goal.invariant-loop-index
invariant-loop-index l = l.starts.items ≡ take l.index l.nfa.patterns
