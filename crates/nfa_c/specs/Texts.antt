-- Texts one after the other in one, each up to its end.
use Rattle.std.specs.Prelude.{IsUtf8, List, [], ◌∷◌, ◌++◌, ℕ, length, slice_range, ⊤, ◌≤◌, ◌≡◌}

-- the parts of the text from an offset on, up to each of these ends
abbrev pub parts_from : List ℕ → ℕ → List ℕ → List (List ℕ)
parts_from text from [] = []
parts_from text from (end ∷ ends) = slice_range text from end ∷ parts_from text end ends

-- the texts
abbrev pub texts_in : List ℕ → List ℕ → List (List ℕ)
texts_in text ends = parts_from text 0 ends

-- each end is in the text, and not before the offset or the end before it
abbrev pub AreEndsFrom : List ℕ → ℕ → List ℕ → Type 0
AreEndsFrom text from [] = ⊤
AreEndsFrom text from (end ∷ ends) = (from ≤ end) × (end ≤ length text) × AreEndsFrom text end ends

-- the ends rise, and are in the text
abbrev pub AreEnds : List ℕ → List ℕ → Type 0
AreEnds text ends = AreEndsFrom text 0 ends

-- each text is UTF-8
abbrev pub AreUtf8 : List (List ℕ) → Type 0
AreUtf8 [] = ⊤
AreUtf8 (text ∷ texts) = IsUtf8 text × AreUtf8 texts

-- the ends rise and are in the text, and each text is UTF-8
abbrev pub AreTexts : List ℕ → List ℕ → Type 0
AreTexts text ends = AreEnds text ends × AreUtf8 (texts_in text ends)

-- These ends are left from an offset on.
module _ (text ends left : List ℕ) (from : ℕ) where
  -- they are right exactly if all are
  pub record HasSeen : Type 0 where
    pub ends_left : AreEnds text ends → AreEndsFrom text from left
    pub ends_all : AreEndsFrom text from left → AreEnds text ends
    pub within : from ≤ length text

  -- they are right, and their texts are UTF-8 exactly if all are
  pub record HasChecked : Type 0 where
    pub ends_left : AreEndsFrom text from left
    pub utf8_left : AreUtf8 (texts_in text ends) → AreUtf8 (parts_from text from left)
    pub utf8_all : AreUtf8 (parts_from text from left) → AreUtf8 (texts_in text ends)
    pub within : from ≤ length text

  -- they and their texts are right, and with those that were read their texts are all
  pub record HasRead (read : List (List ℕ)) : Type 0 where
    pub goes_on : read ++ parts_from text from left ≡ texts_in text ends
    pub ends_left : AreEndsFrom text from left
    pub utf8_left : AreUtf8 (parts_from text from left)
    pub within : from ≤ length text
