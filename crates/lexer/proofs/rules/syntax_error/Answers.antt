-- the rule is that of the error
use Rattle.std.proofs.Common.{ap}
use Rattle.regex_syntax.specs.declared.Span.{Span}
use Rattle.lexer.proofs.RuleLemmas.{syntax-mistake}
use Rattle.lexer.proofs.rules.syntax_error.Goals as goal

pub returns : goal.returns
returns c =
    syntax-mistake c.args.rules.now c.args.error.now c.pattern.result _ c.saturating_add.result c.char_count.result
    c.span.result.start c.split_at.result.0.now c.text.result.now c.reason.result.now c.pattern.ensures c.requires
    c.saturating_add.ensures c.char_count.ensures.value c.split_at.ensures.front
    (ap (λ (s : Span). s.start) c.span.ensures) c.text.ensures c.reason.ensures
