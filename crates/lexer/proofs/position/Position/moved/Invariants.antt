-- It is the position of this place.
use Rattle.std.proofs.Common.{◌≡◌}
use Rattle.lexer.specs.Positions.{position_at}
use Rattle.lexer.proofs.position.Position.moved.Given as goal

abbrev pub invariant-loop-at : goal.invariant-loop-at
invariant-loop-at l = l.position ≡ position_at l.text l.at
