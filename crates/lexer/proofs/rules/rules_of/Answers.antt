-- One more line was left out, or its rule was made; or there are no more.
use Rattle.std.proofs.Common.{◌∙◌, arith, sym}
use Rattle.lexer.proofs.RuleLemmas.{parsed-all, parsed-left-out, parsed-rule}
use Rattle.lexer.proofs.rules.rules_of.Goals as goal

pub loop-index-preserved-then-is_left_out : goal.loop-index-preserved-then-is_left_out
loop-index-preserved-then-is_left_out c =
    parsed-left-out c.args.lines.now c.loop-index.index _ c.loop-index-test.true c.loop-index.rules.items
    c.loop-index.invariant (sym c.is_left_out.ensures ∙ c.if-is_left_out.true)

pub loop-index-preserved : goal.loop-index-preserved
loop-index-preserved c =
    rw c.in_ok-push-in-Some.ensures.items
    (parsed-rule c.args.lines.now c.loop-index.index _ c.loop-index-test.true c.loop-index.rules.items
    c.loop-index.invariant c.in-Some.rule (sym c.is_left_out.ensures ∙ c.if-is_left_out.false)
    (record { rule_is = c.in-Some.ensures.rule; line_is = c.in-Some.ensures.number }))

pub returns-clause-rules : goal.returns-clause-rules
returns-clause-rules c =
    parsed-all c.args.lines.now c.loop-index.index _
    (omega (arith, c.loop-index.auto.index-end, c.loop-index-test.false)) c.loop-index.invariant
