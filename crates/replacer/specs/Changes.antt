-- The lines of a text that change, and how they are printed.
use Rattle.std.specs.Prelude.{ℕ, ◌+◌, ◌≡◌, Bool, List, [], ◌∷◌, ◌++◌, Option, Some, IfSome, decimal, if◌then◌else◌}
use Rattle.std.specs.Str.{bytes_eq}
use Rattle.std.specs.Io.KnownBytes.{Appends}
use Rattle.program_text.specs.Lines.{lines_of}
use Rattle.replacer.specs.Printed.{Prints, without_feed}
use Rattle.replacer.specs.declared.changes.Side.{Side}
use Rattle.replacer.specs.declared.changes.Side.TheVariants.{Before, After}
use Rattle.replacer.specs.declared.changes.Style.{Style}
use Rattle.replacer.specs.declared.command.Request.{Request}

-- what the program prints of a text that is this line alone
abbrev pub Becomes : Request → List ℕ → List ℕ → Type 0
Becomes request line made = Prints request (Some line) (Some []) (Some made)

-- the colours of `diff --color`: red, and green
abbrev pub colour : Side → List ℕ
colour Before = 27 ∷ 91 ∷ 51 ∷ 49 ∷ 109 ∷ []
colour After = 27 ∷ 91 ∷ 51 ∷ 50 ∷ 109 ∷ []

-- a hyphen before what goes, a plus before what comes
abbrev pub mark : Side → List ℕ
mark Before = 45 ∷ []
mark After = 43 ∷ []

-- the end of the colour, if there is one, and a line feed
abbrev pub line_end : Bool → List ℕ
line_end coloured = if coloured then 27 ∷ 91 ∷ 48 ∷ 109 ∷ 10 ∷ [] else 10 ∷ []

-- The line of this number, or what it becomes: the colour, if there is one, the prefix, the number, the mark, and the
-- text without the line feed at its end.
abbrev pub marked : Style → ℕ → Side → List ℕ → List ℕ
marked style number side line =
    (if style.coloured then colour side else [])
    ++ (style.prefix.now ++ decimal number) ++ mark side ++ without_feed line ++ line_end style.coloured

-- what is printed of a line that becomes another, and nothing of one that stays
abbrev pub change : Style → ℕ → List ℕ → List ℕ → List ℕ
change style number line made =
    if bytes_eq line made then [] else marked style number Before line ++ marked style number After made

-- 1 for a line that changes
abbrev pub changed_count : List ℕ → List ℕ → ℕ
changed_count line made = if bytes_eq line made then 0 else 1

module _ (request : Request) (style : Style) where
  -- These bytes are the changes of these lines, the first of which has this number, and this many of them change.
  unfoldable pub AreChanges : ℕ → List (List ℕ) → List ℕ → ℕ → Type 0
  AreChanges number [] written count = (written ≡ []) × (count ≡ 0)
  AreChanges number (line ∷ lines) written count =
      (made : List ℕ) × (more : List ℕ) × (others : ℕ) × Becomes request line made
      × (written ≡ change style number line made ++ more) × (count ≡ changed_count line made + others)
      × AreChanges (number + 1) lines more others

  -- A reader of known bytes had these left, and a writer of known bytes has taken the changes of their lines, and
  -- nothing else.
  abbrev pub HasChanges : Option (List ℕ) → Option (List ℕ) → Option (List ℕ) → ℕ → Type 0
  HasChanges input old new count =
      IfSome input (λ text. (written : List ℕ) × Appends old new written
      × AreChanges 1 (lines_of text) written count)

  -- The reader has these bytes left, which begin with the line of this number. With the changes of their lines, what
  -- was written is the changes of the text.
  pub record IsChanging (text : List ℕ) (input old out : Option (List ℕ)) (number count : ℕ) : Type 0 where
    pub rest : List ℕ
    pub rest_is : input ≡ Some rest
    pub written : List ℕ
    pub writes : Appends old out written
    pub goes_on : (more : List ℕ) (others : ℕ) → AreChanges number (lines_of rest) more others
        → AreChanges 1 (lines_of text) (written ++ more) (count + others)

  -- the same, if the bytes of the reader were known at first
  abbrev pub HasChanged :
      Option (List ℕ) → Option (List ℕ) → Option (List ℕ) → Option (List ℕ) → ℕ → ℕ → Type 0
  HasChanged input-before input old out number count =
      IfSome input-before (λ text. IsChanging text input old out number count)
