-- the first state number that is outside
use Rattle.std.proofs.Common.{◌<◌, subst, All}
use Rattle.std.proofs.lemmas.List.{take_all}
use Rattle.thompson_nfa.proofs.FlawLemmas.{all-take-suc}
use Rattle.thompson_nfa.proofs.validate.first_outside.Goals as goal

pub loop-index-preserved : goal.loop-index-preserved
loop-index-preserved c =
    all-take-suc (λ s. s < c.args.len) _ _ _ c.loop-index-test.true c.index-ids-index.is c.loop-index.invariant
    (subst (λ s. s < c.args.len) c.as_usize.ensures.value c.if-as_usize-len.false)

pub returns : goal.returns
returns c = subst (All (λ s. s < c.args.len)) (take_all _ _ c.loop-index-test.false) c.loop-index.invariant
