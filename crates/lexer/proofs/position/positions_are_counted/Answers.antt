-- Each byte counts in one of the two.
use Rattle.lexer.proofs.PositionLemmas.{columns-are-counted, lines-are-counted}
use Rattle.lexer.proofs.position.positions_are_counted.Goals as goal

pub returns : goal.returns
returns c = record { lines = lines-are-counted; columns = columns-are-counted }
