-- The line and the column of a place in a text.
use Rattle.std.specs.Prelude.{◌≡◌, ℕ, ◌+◌, ◌==◌, ◌&&◌, Bool, false, not, List, [], ◌∷◌, All, length, take, if◌then◌else◌, nat_lt}
use Rattle.std.specs.List.{filter}
use Rattle.lexer.specs.declared.position.Position.{Position}

-- whether the byte is a line feed
abbrev pub is_feed : ℕ → Bool
is_feed byte = byte == 10

-- whether the byte continues a character of UTF-8
abbrev pub continues_character : ℕ → Bool
continues_character byte = not (nat_lt byte 128) && nat_lt byte 192

-- the position of the start of a text
abbrev pub first_position : Position
first_position = record { line = 1; column = 1 }

-- the position after a byte: the next line, the same column, or the next one
abbrev pub position_past : Position → ℕ → Position
position_past position byte =
    if is_feed byte then record { line = position.line + 1; column = 1 }
    else if continues_character byte then position
    else record { line = position.line; column = position.column + 1 }

-- the position after these bytes
unfoldable pub position_past_all : Position → List ℕ → Position
position_past_all position [] = position
position_past_all position (byte ∷ bytes) = position_past_all (position_past position byte) bytes

-- the position of this place in a text
abbrev pub position_at : List ℕ → ℕ → Position
position_at text at = position_past_all first_position (take at text)

-- the line is one more than the line feeds before the place
abbrev pub LinesAreCounted : Type 0
LinesAreCounted =
    (text : List ℕ) (at : ℕ) → (position_at text at).line ≡ 1 + length (filter is_feed (take at text))

-- in a line the column is one more than the bytes before the place that do not continue a character
abbrev pub ColumnsAreCounted : Type 0
ColumnsAreCounted =
    (position : Position) (line : List ℕ) → All (λ byte. is_feed byte ≡ false) line
    → (position_past_all position line).column
    ≡ position.column + length (filter (λ byte. not (continues_character byte)) line)
