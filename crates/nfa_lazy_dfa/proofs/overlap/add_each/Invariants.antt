-- The patterns so far were added.
use Rattle.nfa_paths.proofs.Common.{map, take, number_of}
use Rattle.nfa_lazy_dfa.specs.Sets.{AddsEach}
use Rattle.nfa_lazy_dfa.proofs.overlap.add_each.Given as goal

abbrev pub invariant-loop-pattern : goal.invariant-loop-pattern
invariant-loop-pattern l = AddsEach (map number_of (take l.pattern-index l.hits)) l.fn.patterns l.met l.patterns
