-- What is printed in colours: texts between two escape sequences of a terminal. Without these it is the text.
use Rattle.std.specs.Prelude.{◌≡◌, ℕ, ◌-◌, ◌≤◌, All, Bool, false, true, not, ◌||◌, List, [], ◌∷◌, ◌++◌, IfSome, None, Option, Some, codes, drop, if◌then◌else◌, length, map, replicate, slice_range, flat_map, ◌==◌}
pub use Rattle.grep_options.specs.declared.colours.Colours.{Colours}
use Rattle.grep_options.specs.Colours.{AreCodes, palette_of}
use Rattle.nfa_search_base.specs.Common.{Found, found_of, whole, Match, AreDisjoint}
use Rattle.nfa_grep.specs.declared.paint.Colour.{Colour}
use Rattle.nfa_grep.specs.declared.paint.Colour.TheVariants as paint

-- the byte at the start of an escape sequence
abbrev pub escape : ℕ
escape = 27

-- what comes after a change of colour: the escape sequence that clears the rest of the line, unless it is kept
abbrev pub clear : Colours → List ℕ
clear colours = if colours.clears then escape ∷ codes "[K" else []

-- what begins a text in the colour of this code: nothing if it is empty
abbrev pub start_of : Colours → List ℕ → List ℕ
start_of colours [] = []
start_of colours (byte ∷ code) = (escape ∷ codes "[") ++ ((byte ∷ code) ++ (codes "m" ++ clear colours))

-- what ends a text in the colour of this code: nothing if it is empty
abbrev pub end_of : Colours → List ℕ → List ℕ
end_of colours [] = []
end_of colours (byte ∷ code) = (escape ∷ codes "[m") ++ clear colours

-- the code of what has a colour
abbrev pub code_of : Colours → Colour → List ℕ
code_of colours paint.Match = colours.selected_match.now
code_of colours paint.NearMatch = colours.near_match.now
code_of colours paint.Line = colours.selected_line.now
code_of colours paint.NearLine = colours.near_line.now
code_of colours paint.Name = colours.name.now
code_of colours paint.Number = colours.number.now
code_of colours paint.Offset = colours.offset.now
code_of colours paint.Separator = colours.separator.now

-- the text in this colour, if colours are wanted
abbrev pub painted : Option Colours → Colour → List ℕ → List ℕ
painted None colour text = text
painted (Some colours) colour text =
    start_of colours (code_of colours colour) ++ (text ++ end_of colours (code_of colours colour))

-- the text, with blanks before it if it has fewer bytes than this
abbrev pub aligned : ℕ → List ℕ → List ℕ
aligned width text = replicate (width - length text) 32 ++ text

-- a label, and this byte after it
abbrev pub label : Option Colours → Colour → ℕ → List ℕ → List ℕ
label colours colour end text = painted colours colour text ++ painted colours paint.Separator (end ∷ [])

-- a part of a line: its text, and the escape sequences before and after that
pub record Part : Type 0 where
  pub before : List ℕ
  pub text : List ℕ
  pub after : List ℕ

-- the text of these parts, with colours
abbrev pub in_colours : List Part → List ℕ
in_colours parts = flat_map (λ part. part.before ++ (part.text ++ part.after)) parts

-- the text before a match, in the colour of the line, which that of the match ends
abbrev pub gap_part : Colours → Colour → List ℕ → Part
gap_part colours line text = record { before = start_of colours (code_of colours line); text = text; after = [] }

-- a text in this colour
abbrev pub part_in : Colours → Colour → List ℕ → Part
part_in colours colour text = record {
  before = start_of colours (code_of colours colour);
  text = text;
  after = end_of colours (code_of colours colour);
}

-- the text after the last match, in the colour of the line unless it is empty
abbrev pub last_part : Colours → Colour → List ℕ → Part
last_part colours own [] = record { before = []; text = []; after = [] }
last_part colours own (byte ∷ text) = part_in colours own (byte ∷ text)

-- The parts of a text from an offset on: these matches, and what is before, between and after them. A match that is
-- empty is no part.
abbrev pub parts_from : Colours → Colour → Colour → List ℕ → ℕ → List Found → List Part
parts_from colours line hit text from [] = last_part colours line (drop from text) ∷ []
parts_from colours line hit text from (m ∷ ms) =
    if m.start == m.end then parts_from colours line hit text from ms
    else (gap_part colours line (slice_range text from m.start)
    ∷ (part_in colours hit (slice_range text m.start m.end) ∷ parts_from colours line hit text m.end ms))

-- the text in the colour of its line, with these matches in theirs
abbrev pub painted_text : Colours → Colour → Colour → List ℕ → List Found → List ℕ
painted_text colours line hit text ms = in_colours (parts_from colours line hit text 0 ms)

-- the text from an offset to the end of this match, both in their colours: nothing if the match is empty
abbrev pub matched_from : Colours → Colour → Colour → List ℕ → ℕ → Found → List ℕ
matched_from colours line hit text from m =
    if m.start == m.end then [] else in_colours (gap_part colours line (slice_range text from m.start)
    ∷ part_in colours hit (slice_range text m.start m.end) ∷ [])

-- up to where the text was printed with this match, if it was printed up to an offset before it
abbrev pub printed_to : ℕ → Found → ℕ
printed_to from m = if m.start == m.end then from else m.end

-- The first i matches were printed, up to the offset: what was printed, and the other parts, are what was printed
-- before, and all parts. The last one of them that is not empty ends at the offset, so the others start after it.
pub record HasPainted (colours : Colours) (line hit : Colour) (text : List ℕ) (matches : List Match) (i from : ℕ)
    (before out : List ℕ) : Type 0 where
  pub out_is : out ++ in_colours (parts_from colours line hit text from (map found_of (drop i matches)))
      ≡ before ++ painted_text colours line hit text (map found_of matches)
  pub within : from ≤ length text
  pub last : Option ℕ
  pub after_last : IfSome last (λ end. from ≤ end)
  pub first : last ≡ None → from ≡ 0
  pub apart : AreDisjoint (whole text) last (map found_of (drop i matches))

-- the text of these parts, without colours
abbrev pub uncoloured : List Part → List ℕ
uncoloured parts = flat_map (λ part. part.text) parts

-- The bytes that are in no escape sequence. `within` says that the first one is in a sequence, which ends with an `m`
-- or a `K`.
unfoldable pub outside : Bool → List ℕ → List ℕ
outside within [] = []
outside true (byte ∷ bytes) = outside (not ((byte == 109) || (byte == 75))) bytes
outside false (byte ∷ bytes) =
    if byte == escape then outside true bytes else (byte ∷ outside false bytes)

-- no byte starts an escape sequence
abbrev pub HasNoSequence : List ℕ → Type 0
HasNoSequence bytes = All (λ byte. (byte == escape) ≡ false) bytes

-- the parts of a text, which are its matches and what is around them, are the text
abbrev pub PartsAreTheText : Type 0
PartsAreTheText = (colours : Colours) (line hit : Colour) (text : List ℕ) (ms : List Found)
    → AreDisjoint (whole text) None ms → uncoloured (parts_from colours line hit text 0 ms) ≡ text

-- a text without escape sequences is what is printed of it in colours, the escape sequences left out, if each colour is
-- a code
abbrev pub ColoursCanBeLeftOut : Type 0
ColoursCanBeLeftOut = (colours : Colours) (line hit : Colour) (text : List ℕ) (ms : List Found)
    → AreCodes (palette_of colours) → AreDisjoint (whole text) None ms → HasNoSequence text
    → outside false (painted_text colours line hit text ms) ≡ text
