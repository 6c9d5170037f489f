-- a match of one pattern more has a byte
use Rattle.nfa_paths.proofs.Common.{all-take-suc, arith, subst, All, take_all}
use Rattle.nfa_compiler.specs.Common.{AlwaysReads}
use Rattle.nfa_compiler.proofs.compiler.may_one_be_empty.Goals as goal

pub loop-pattern-preserved : goal.loop-pattern-preserved
loop-pattern-preserved c =
    all-take-suc AlwaysReads _ _ _ c.loop-pattern-test.true c.pattern-item.is c.loop-pattern.invariant
    (c.min_len.ensures.reads (omega (arith, c.if-min_len-eq0.false)))

pub returns : goal.returns
returns c = λ none. subst (All AlwaysReads) (take_all _ _ c.loop-pattern-test.false) c.loop-pattern.invariant
