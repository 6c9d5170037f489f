-- none so far may
use Rattle.std.proofs.Common.{take, All}
use Rattle.nfa_compiler.specs.Compiled.{AlwaysReads}
use Rattle.nfa_compiler.proofs.compiler.may_one_be_empty.Given as goal

abbrev pub invariant-loop-pattern : goal.invariant-loop-pattern
invariant-loop-pattern l = All AlwaysReads (take l.pattern-index l.patterns)
