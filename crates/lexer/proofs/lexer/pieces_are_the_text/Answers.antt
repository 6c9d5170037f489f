-- Each piece starts where the one before it ends.
use Rattle.lexer.proofs.PieceLemmas.{all-pieces, pieces-joined}
use Rattle.lexer.proofs.lexer.pieces_are_the_text.Goals as goal

pub returns : goal.returns
returns c = record { joined = pieces-joined; longest = all-pieces }
