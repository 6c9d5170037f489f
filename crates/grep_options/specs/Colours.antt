-- The colours that a text names, as that of the environment variable `GREP_COLORS`.
use Rattle.std.specs.Prelude.{◌≡◌, ℕ, Bool, true, false, List, [], ◌∷◌, None, Option, Some, codes, if◌then◌else◌, nat_le, ◌==◌, ◌&&◌, ◌||◌}
use Rattle.std.specs.List.{list_all, slice_split}
pub use Rattle.grep_options.specs.declared.colours.Colours.{Colours}
pub use Rattle.grep_options.specs.declared.colours.Change.{Change}
use Rattle.grep_options.specs.declared.colours.Change.TheVariants as change

-- the codes of colours
pub record Palette : Type 0 where
  pub selected_match : List ℕ
  pub near_match : List ℕ
  pub selected_line : List ℕ
  pub near_line : List ℕ
  pub name : List ℕ
  pub number : List ℕ
  pub offset : List ℕ
  pub separator : List ℕ
  pub reversed : Bool
  pub clears : Bool

-- the codes of these colours
abbrev pub palette_of : Colours → Palette
palette_of colours = record {
  selected_match = colours.selected_match.now;
  near_match = colours.near_match.now;
  selected_line = colours.selected_line.now;
  near_line = colours.near_line.now;
  name = colours.name.now;
  number = colours.number.now;
  offset = colours.offset.now;
  separator = colours.separator.now;
  reversed = colours.reversed;
  clears = colours.clears;
}

-- the codes if none is chosen: matches are bold red, names magenta, numbers and offsets green, separators cyan
abbrev pub usual : Palette
usual = record {
  selected_match = codes "01;31";
  near_match = codes "01;31";
  selected_line = [];
  near_line = [];
  name = codes "35";
  number = codes "32";
  offset = codes "32";
  separator = codes "36";
  reversed = false;
  clears = true;
}

-- what is between these bytes of a text
abbrev pub split_at : ℕ → List ℕ → List (List ℕ)
split_at byte text = slice_split (λ b. b == byte) text

-- a digit or a semicolon
abbrev pub is_code_byte : ℕ → Bool
is_code_byte byte = (byte == 59) || (nat_le 48 byte && nat_le byte 57)

abbrev pub is_code : List ℕ → Bool
is_code text = list_all is_code_byte text

-- each colour is a code
abbrev pub AreCodes : Palette → Type 0
AreCodes palette =
    list_all is_code (palette.selected_match ∷ palette.near_match ∷ palette.selected_line ∷ palette.near_line
    ∷ palette.name ∷ palette.number ∷ palette.offset ∷ palette.separator ∷ []) ≡ true

-- what a capability is for whose name has these two letters
abbrev pub change_of_letters : ℕ → ℕ → Change
change_of_letters a b =
    if (a == 109) && (b == 116) then change.Matches
    else (if (a == 109) && (b == 115) then change.SelectedMatch
    else (if (a == 109) && (b == 99) then change.NearMatch
    else (if (a == 115) && (b == 108) then change.SelectedLine
    else (if (a == 99) && (b == 120) then change.NearLine
    else (if (a == 102) && (b == 110) then change.Name
    else (if (a == 108) && (b == 110) then change.Number
    else (if (a == 98) && (b == 110) then change.Offset
    else (if (a == 115) && (b == 101) then change.Separator
    else (if (a == 114) && (b == 118) then change.Reverse
    else (if (a == 110) && (b == 101) then change.Keep
    else change.Nothing))))))))))

-- what a capability of this name is for
abbrev pub change_of : List ℕ → Change
change_of (a ∷ b ∷ []) = change_of_letters a b
change_of _ = change.Nothing

-- the palette with a capability that has this code
abbrev pub with_code : Palette → Change → List ℕ → Palette
with_code palette change.Matches code = record palette { selected_match = code; near_match = code }
with_code palette change.SelectedMatch code = record palette { selected_match = code }
with_code palette change.NearMatch code = record palette { near_match = code }
with_code palette change.SelectedLine code = record palette { selected_line = code }
with_code palette change.NearLine code = record palette { near_line = code }
with_code palette change.Name code = record palette { name = code }
with_code palette change.Number code = record palette { number = code }
with_code palette change.Offset code = record palette { offset = code }
with_code palette change.Separator code = record palette { separator = code }
with_code palette change.Reverse code = record palette { reversed = true }
with_code palette change.Keep code = record palette { clears = false }
with_code palette change.Nothing code = palette

-- The palette with a capability that has no code. `mt` gives matches in other lines the colour of those in selected
-- ones.
abbrev pub with_flag : Palette → Change → Palette
with_flag palette change.Matches = record palette { near_match = palette.selected_match }
with_flag palette change.Reverse = record palette { reversed = true }
with_flag palette change.Keep = record palette { clears = false }
with_flag palette _ = palette

-- the palette with a capability of these parts, which equals signs separate: none if they are malformed
abbrev pub with_parts : Palette → List (List ℕ) → Option Palette
with_parts palette (name ∷ []) = Some (with_flag palette (change_of name))
with_parts palette ((first ∷ name) ∷ code ∷ []) =
    if is_code code then Some (with_code palette (change_of (first ∷ name)) code) else None
with_parts palette _ = None

-- this palette if there is no next one, and else what is made of the next one
abbrev pub made_of_next : Palette → Option Palette → (Palette → Palette) → Palette
made_of_next palette None make = palette
made_of_next palette (Some next) make = make next

-- the palette with these capabilities, up to the first one that is malformed
abbrev pub with_all : Palette → List (List ℕ) → Palette
with_all palette [] = palette
with_all palette (capability ∷ others) =
    made_of_next palette (with_parts palette (split_at 61 capability)) (λ next. with_all next others)

-- the palette that a text names: its capabilities are between colons
abbrev pub palette_in : List ℕ → Palette
palette_in text = with_all usual (split_at 58 text)
