-- The longer of two, again and again.
use Rattle.lexer.proofs.PieceLemmas.{longest-token-is}
use Rattle.lexer.proofs.lexer.tokens_are_longest.Goals as goal

pub returns : goal.returns
returns c = longest-token-is
