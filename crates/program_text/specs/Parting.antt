-- Options of a command line, and the words among which they stand.
use Rattle.std.specs.Prelude.{ℕ, Bool, ◌==◌, ◌&&◌, if◌then◌else◌, List, [], ◌∷◌, ◌++◌, length, codes, nat_lt, slice_index_or}
use Rattle.std.specs.Borrow.{Bor}
use Rattle.std.specs.List.{list_any}
use Rattle.std.specs.Str.{bytes_eq}
use Rattle.program_text.specs.Splitting.{hyphen}
use Rattle.program_text.specs.declared.split.Mode.{Mode}
use Rattle.program_text.specs.declared.split.Mode.TheVariants.{Options, Value, Rest}
use Rattle.program_text.specs.declared.words.Word.{Word}

-- whether the word ends the options
abbrev pub is_end : List ℕ → Bool
is_end word = bytes_eq word (codes "--")

-- whether the word begins with a hyphen, and has more bytes
abbrev pub is_option : List ℕ → Bool
is_option word = nat_lt 1 (length word) && (slice_index_or word 0 0 == hyphen)

-- whether the word is one of these names
abbrev pub is_one_of : List (Bor (List ℕ)) → List ℕ → Bool
is_one_of names word = list_any (λ name. bytes_eq name.now word) names

-- the word, if it is an option or the value of one
abbrev pub as_option : Mode → Word → List Word
as_option Options word = if is_end word.bytes.now then [] else (if is_option word.bytes.now then word ∷ [] else [])
as_option Value word = word ∷ []
as_option Rest word = []

-- the word, if it is neither, and does not end the options
abbrev pub as_operand : Mode → Word → List Word
as_operand Options word = if is_end word.bytes.now then [] else (if is_option word.bytes.now then [] else word ∷ [])
as_operand Value word = []
as_operand Rest word = word ∷ []

module _ (valued : List (Bor (List ℕ))) where
  -- what the word after this option may be
  abbrev pub mode_after_option : List ℕ → Mode
  mode_after_option word = if is_one_of valued word then Value else Options

  -- what the word after it may be
  abbrev pub mode_next : Mode → Word → Mode
  mode_next Options word =
      if is_end word.bytes.now then Rest
      else (if is_option word.bytes.now && is_one_of valued word.bytes.now then Value else Options)
  mode_next Value word = Options
  mode_next Rest word = Rest

  -- what these words give, one by one, if this is what the first may be
  unfoldable pub gathered : (Mode → Word → List Word) → Mode → List Word → List Word
  gathered part mode [] = []
  gathered part mode (word ∷ words) = part mode word ++ gathered part (mode_next mode word) words

  -- the options of a command line, with their values
  abbrev pub options_in : List Word → List Word
  options_in words = gathered as_option Options words

  -- the other words, but for the one that ends the options
  abbrev pub operands_in : List Word → List Word
  operands_in words = gathered as_operand Options words
