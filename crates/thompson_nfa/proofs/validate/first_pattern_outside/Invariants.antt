-- none so far is outside
use Rattle.std.proofs.Common.{take, All}
use Rattle.thompson_nfa.specs.Automaton.{PatternBelow, node_of}
use Rattle.thompson_nfa.proofs.validate.first_pattern_outside.Given as goal

abbrev pub invariant-loop-index : goal.invariant-loop-index
invariant-loop-index l = All (λ s. PatternBelow l.len (node_of s)) (take l.index l.states)
