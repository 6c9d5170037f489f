-- The tokens so far tile the text up to the end of the last match.
use Rattle.std.proofs.Common.{◌≤◌, length}
use Rattle.examples.specs.Tiles.{Tile}
use Rattle.examples.proofs.cookbook.tokens.Tokenizer.tokens.Given as goal

abbrev pub invariant-loop-found : goal.invariant-loop-found
invariant-loop-found l = record {
  tile : Tile 0 l.at l.tokens.items;
  within : l.at ≤ length l.text;
}
