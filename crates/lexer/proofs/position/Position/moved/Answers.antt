-- The position moves by a byte, and is no greater than the place.
use Rattle.std.proofs.Common.{◌∙◌, ap, arith, get_or}
use Rattle.lexer.specs.Positions.{position_past}
use Rattle.lexer.specs.declared.position.Position.{Position}
use Rattle.lexer.proofs.PositionLemmas.{position-below, position-next}
use Rattle.lexer.proofs.position.Position.moved.Goals as goal

pub loop-at-preserved : goal.loop-at-preserved
loop-at-preserved c =
    c.past-position.ensures
    ∙ ap (λ (p : Position). position_past p (get_or c.args.text.now c.loop-at.at 0)) c.loop-at.invariant
    ∙ position-next c.args.text.now c.loop-at.at (omega (arith, c.loop-at-test.true, c.requires.within))

pub past-position-requires-clause-line : goal.past-position-requires-clause-line
past-position-requires-clause-line c =
    let below = position-below c.args.text.now c.loop-at.at (omega (arith, c.loop-at-test.true, c.requires.within)) in
    rw c.loop-at.invariant
    (omega (arith, below.line, c.loop-at-test.true, c.requires.within, c.requires.fits))

pub past-position-requires-clause-column : goal.past-position-requires-clause-column
past-position-requires-clause-column c =
    let below = position-below c.args.text.now c.loop-at.at (omega (arith, c.loop-at-test.true, c.requires.within)) in
    rw c.loop-at.invariant
    (omega (arith, below.column, c.loop-at-test.true, c.requires.within, c.requires.fits))
