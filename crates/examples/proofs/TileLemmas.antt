-- One more token at the end.
use Rattle.std.proofs.Common.{◌<◌, ℕ, List, [], ◌∷◌, ◌++◌, refl, sym}
use Rattle.examples.specs.Tiles.{Tile}
use Rattle.examples.specs.declared.cookbook.tokens.Token.{Token}

pub tile_more : (ts : List Token) (t : Token) (from : ℕ) → Tile from t.start ts → t.start < t.end
    → Tile from t.end (ts ++ t ∷ [])
tile_more [] t from e less = (sym e, less, refl)
tile_more (u ∷ ts) t from h less = (h.0, h.1, tile_more ts t u.end h.2 less)
