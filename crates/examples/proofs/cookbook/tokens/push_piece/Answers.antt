-- The piece is one more token.
use Rattle.examples.proofs.TileLemmas.{tile_more}
use Rattle.examples.proofs.cookbook.tokens.push_piece.Goals as goal

pub returns-in_ok-push : goal.returns-in_ok-push
returns-in_ok-push c = λ from h. let is = c.in_ok-push.ensures.items in
    rw is (tile_more c.args.tokens.now.items _ from h c.if-start-end.true)
