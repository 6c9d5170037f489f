-- the pattern that is too large is that of a rule
use Rattle.std.proofs.Common.{rules}
use Rattle.lexer.proofs.RuleLemmas.{within-rules}
use Rattle.lexer.proofs.rules.refusal.Goals as goal

pub too_large-requires-clause-within : goal.too_large-requires-clause-within
too_large-requires-clause-within c =
    within-rules 10485760 c.args.rules.now c.in-TooBig.pattern (search rules)
