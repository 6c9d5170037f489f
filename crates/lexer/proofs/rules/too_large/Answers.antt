-- the rule is that of the pattern
use Rattle.lexer.proofs.RuleLemmas.{too-large}
use Rattle.lexer.proofs.rules.too_large.Goals as goal

pub returns : goal.returns
returns c =
    too-large c.args.rules.now c.args.pattern c.args.limit _ c.requires.within c.requires.named.0 c.requires.named.1
