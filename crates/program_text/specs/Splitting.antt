-- Words of a command line in which the value of an option is a word of its own.
use Rattle.std.specs.Prelude.{ℕ, Bool, not, ◌==◌, ◌&&◌, if◌then◌else◌, List, [], ◌∷◌, ◌++◌, length, codes, slice_index}
use Rattle.std.specs.List.{after_first, before_first, position_or_len}
use Rattle.std.specs.Str.{bytes_eq}
use Rattle.program_text.specs.declared.split.Mode.{Mode}
use Rattle.program_text.specs.declared.split.Mode.TheVariants.{Options, Value, Rest}

-- the byte of a hyphen
abbrev pub hyphen : ℕ
hyphen = 45

-- whether the word is letters after one hyphen
abbrev pub is_cluster : List ℕ → Bool
is_cluster word = (slice_index word 0 == hyphen) && not (slice_index word 1 == hyphen)

-- what comes after a word that is not letters after one hyphen
abbrev pub mode_after_whole : List ℕ → List ℕ → Mode
mode_after_whole long word =
    if bytes_eq word (codes "--") then Rest else (if bytes_eq word long then Value else Options)

-- the letters before the option, if there are any
abbrev pub flag_words : List ℕ → List (List ℕ)
flag_words flags = if bytes_eq flags (codes "-") then [] else flags ∷ []

-- the value, if it is attached
abbrev pub value_words : List ℕ → List (List ℕ)
value_words value = if length value == 0 then [] else value ∷ []

-- what comes after the option, with its value if that is attached
abbrev pub mode_after_value : List ℕ → Mode
mode_after_value value = if length value == 0 then Value else Options

module _ (letter : ℕ) where
  -- whether the letter is not in the word
  abbrev pub lacks_letter : List ℕ → Bool
  lacks_letter word = position_or_len (λ byte. byte == letter) word == length word

  -- the parts of the word before its first such letter and after it
  abbrev pub before : List ℕ → List ℕ
  before word = before_first (λ byte. byte == letter) word

  abbrev pub after : List ℕ → List ℕ
  after word = after_first (λ byte. byte == letter) word

  -- letters after one hyphen, in which the option and its value are words of their own
  abbrev pub cluster_words : List ℕ → List ℕ → List (List ℕ)
  cluster_words short word =
      if lacks_letter word then word ∷ []
      else (flag_words (before word) ++ (short ∷ []) ++ value_words (after word))

  -- what comes after them
  abbrev pub mode_after_cluster : List ℕ → Mode
  mode_after_cluster word =
      if lacks_letter word then Options else mode_after_value (after word)

  -- the words that come of one word
  abbrev pub words_of : List ℕ → Mode → List ℕ → List (List ℕ)
  words_of short Options word = if is_cluster word then cluster_words short word else word ∷ []
  words_of short Value word = word ∷ []
  words_of short Rest word = word ∷ []

  -- what the word after it may be
  abbrev pub mode_after : List ℕ → Mode → List ℕ → Mode
  mode_after long Options word = if is_cluster word then mode_after_cluster word else mode_after_whole long word
  mode_after long Value word = Options
  mode_after long Rest word = Rest

  -- the words that come of these words
  unfoldable pub split_from : List ℕ → List ℕ → Mode → List (List ℕ) → List (List ℕ)
  split_from short long mode [] = []
  split_from short long mode (word ∷ words) =
      words_of short mode word ++ split_from short long (mode_after long mode word) words

  -- the same of a whole command line, which begins with the name of the program
  abbrev pub split_words : List ℕ → List ℕ → List (List ℕ) → List (List ℕ)
  split_words short long words = split_from short long Value words
