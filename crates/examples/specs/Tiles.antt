-- What it means that tokens tile a text.
use Rattle.std.specs.Prelude.{◌≡◌, ◌<◌, ℕ, List, [], ◌∷◌}
use Rattle.examples.specs.declared.cookbook.tokens.Token.{Token}

-- The tokens begin at the first position, each other one begins where the one before it ends, and the last one ends at
-- the second position. None is empty.
abbrev pub Tile : ℕ → ℕ → List Token → Type 0
Tile start end [] = start ≡ end
Tile start end (t ∷ ts) = (t.start ≡ start) × (t.start < t.end) × Tile t.end end ts
