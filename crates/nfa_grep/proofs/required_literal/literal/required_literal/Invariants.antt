-- The bytes are in each match of the patterns so far.
use Rattle.std.proofs.Common.{All, take}
use Rattle.nfa_compiler.specs.Common.{meaning, Parsed}
use Rattle.nfa_grep.specs.Required.{IsRequired}
use Rattle.nfa_grep.proofs.required_literal.literal.required_literal.Given as goal

abbrev pub invariant-loop-pattern : goal.invariant-loop-pattern
invariant-loop-pattern l =
    All (λ (p : Parsed). IsRequired l.bytes (meaning p.hir)) (take l.pattern-index l.patterns)
