-- The lines of a text: how a reader gives them, which of them are passed, and why an input was not read to its end.
use Rattle.std.specs.Prelude.{◌≡◌, ◌⊎◌, ℕ, ◌<◌, All, Bool, true, false, List, [], ◌∷◌, ◌++◌, length, Option, Some, IfSome, if◌then◌else◌, ◌==◌, ⊤}
use Rattle.std.specs.List.{concat}
use Rattle.std.specs.Io.BufRead.{ends_with_byte, strip_last}
use Rattle.bstr.specs.Records.{records}
use Rattle.memchr.specs.Find.{OccursAt}
use Rattle.program_text.specs.declared.failure.Failure.{Failure}
use Rattle.program_text.specs.declared.failure.Failure.TheVariants.{Read, Write, Line, Memory}
use Rattle.program_text.specs.declared.passed.Passed.{Passed}

abbrev pub line_feed : ℕ
line_feed = 10

abbrev pub carriage_return : ℕ
carriage_return = 13

-- the lines of a text: its records that end at a line feed, each with it; the last one may have none
abbrev pub lines_of : List ℕ → List (List ℕ)
lines_of text = records line_feed text

-- a line without its end: all but the line feed at its end and a carriage return before that line feed
abbrev pub content : List ℕ → List ℕ
content line =
    if ends_with_byte line_feed line then strip_last carriage_return (strip_last line_feed line) else line

-- a record without its end; records that end at a line feed are lines
abbrev pub record_content : ℕ → List ℕ → List ℕ
record_content end line = if end == line_feed then content line else strip_last end line

-- the record, with the byte at its end
abbrev pub with_end : ℕ → List ℕ → List ℕ
with_end end line = if ends_with_byte end line then line else (line ++ end ∷ [])

-- these are the first records of the text, and the reader has the other records left
pub record AreFirstRecords (end : ℕ) (text : List ℕ) (left : Option (List ℕ)) (lines : List (List ℕ)) : Type 0 where
  pub rest : List ℕ
  pub left_is : left ≡ Some rest
  pub lines_are : records end text ≡ lines ++ records end rest

-- these bytes are one record, whatever comes after them
abbrev pub IsRecord : ℕ → List ℕ → Type 0
IsRecord end line = (rest : List ℕ) → records end (line ++ rest) ≡ line ∷ records end rest

-- if the bytes of the reader are known, this record was taken from it
abbrev pub TakesRecord : ℕ → Option (List ℕ) → Option (List ℕ) → List ℕ → Type 0
TakesRecord end before left line = IfSome before (λ text. AreFirstRecords end text left (line ∷ []))

-- if the bytes of the reader are known, it has no record
abbrev pub HasNoRecord : ℕ → Option (List ℕ) → Type 0
HasNoRecord end before = IfSome before (λ text. records end text ≡ [])

-- the bytes occur nowhere in the text
abbrev pub Lacks : List ℕ → List ℕ → Type 0
Lacks text bytes = (k : ℕ) → ¬ OccursAt text bytes k

-- the text has bytes as numbers below 256
abbrev pub HasBytes : List ℕ → Type 0
HasBytes text = All (λ b. b < 256) text

-- the text ends where a record ends, or is empty
abbrev pub EndsRecord : ℕ → List ℕ → Type 0
EndsRecord end text = (text ≡ []) ⊎ ((front : List ℕ) × (text ≡ front ++ end ∷ []))

-- the text is this many whole records of bytes, whatever comes after it, and these bytes occur in none of them
pub record HasWhole (end : ℕ) (bytes text : List ℕ) (count : ℕ) : Type 0 where
  pub whole : (rest : List ℕ) → records end (text ++ rest) ≡ records end text ++ records end rest
  pub count_is : count ≡ length (records end text)
  pub bytes_are : HasBytes text
  pub without : All (λ line. Lacks line bytes) (records end text)

-- These are the first records of the text, and the bytes occur in none of them. The reader has the other records left.
pub record ArePassed (end : ℕ) (bytes text : List ℕ) (left : Option (List ℕ)) (passed : Passed) : Type 0 where
  pub lines : List (List ℕ)
  pub first : AreFirstRecords end text left lines
  pub count_is : passed.count ≡ length lines
  pub len_is : passed.len ≡ length (concat lines)
  pub bytes_are : All HasBytes lines
  pub without : All (λ line. Lacks line bytes) lines

-- the same, if the bytes of the reader are known
abbrev pub PassesRecords : ℕ → List ℕ → Option (List ℕ) → Option (List ℕ) → Passed → Type 0
PassesRecords end bytes before left passed = IfSome before (λ text. ArePassed end bytes text left passed)

-- the input could not be read, or there was no memory for the line of this number
abbrev pub IsOfReading : ℕ → Failure → Type 0
IsOfReading number (Read error) = ⊤
IsOfReading number (Line line) = line ≡ number
IsOfReading number _ = ⊥

-- the fault is the input's, and not that of the output or of the memory for all inputs
abbrev pub is_of_input : Failure → Bool
is_of_input (Write error) = false
is_of_input Memory = false
is_of_input _ = true
