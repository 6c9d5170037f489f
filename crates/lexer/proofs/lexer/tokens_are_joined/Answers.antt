-- Each token starts where the one before it ends.
use Rattle.lexer.proofs.PieceLemmas.{tokens-joined}
use Rattle.lexer.proofs.lexer.tokens_are_joined.Goals as goal

pub returns : goal.returns
returns c = tokens-joined
