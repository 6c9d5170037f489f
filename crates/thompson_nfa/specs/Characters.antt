-- the characters of UTF-8 next to a position (RFC 3629), and which of them are word characters
use Rattle.std.specs.Prelude.{ℕ, ◌+◌, ◌-◌, Bool, false, ◌||◌, ◌==◌, nat_le, List, [], ◌∷◌, length, Option, Some, None, if◌then◌else◌, slice_range, chars}
use Rattle.std.specs.Option.{option_or}
use Rattle.std.specs.Str.{is_utf8}
use Rattle.unicode.specs.Binary.{is_alphabetic}
use Rattle.unicode.specs.GeneralCategory.{general_category}
use Rattle.unicode.specs.Perl.{is_word_category}

-- the element of a list of one element
abbrev pub only : {X : Type 0} → List X → Option X
only (x ∷ []) = Some x
only _ = None

-- the character whose UTF-8 these bytes are
unfoldable pub char_of : List ℕ → Option ℕ
char_of bytes = if is_utf8 bytes then only (chars bytes) else None

-- the character whose UTF-8 is the n bytes just before the position
abbrev pub char_of_len_before : List ℕ → ℕ → ℕ → Option ℕ
char_of_len_before haystack at n = if nat_le n at then char_of (slice_range haystack (at - n) at) else None

-- the character whose UTF-8, of two to four bytes, ends at the position
abbrev pub long_char_before : List ℕ → ℕ → Option ℕ
long_char_before haystack at =
    option_or (char_of_len_before haystack at 2)
    (option_or (char_of_len_before haystack at 3) (char_of_len_before haystack at 4))

-- the character whose UTF-8, of one to four bytes, ends at the position
unfoldable pub char_before : List ℕ → ℕ → Option ℕ
char_before haystack at = option_or (char_of_len_before haystack at 1) (long_char_before haystack at)

-- the character whose UTF-8 is the n bytes from the position on
abbrev pub char_of_len_after : List ℕ → ℕ → ℕ → Option ℕ
char_of_len_after haystack at n =
    if nat_le (at + n) (length haystack) then char_of (slice_range haystack at (at + n)) else None

-- the character whose UTF-8, of two to four bytes, begins at the position
abbrev pub long_char_after : List ℕ → ℕ → Option ℕ
long_char_after haystack at =
    option_or (char_of_len_after haystack at 2)
    (option_or (char_of_len_after haystack at 3) (char_of_len_after haystack at 4))

-- the character whose UTF-8, of one to four bytes, begins at the position
unfoldable pub char_after : List ℕ → ℕ → Option ℕ
char_after haystack at = option_or (char_of_len_after haystack at 1) (long_char_after haystack at)

-- Alphabetic; a Mark, a Decimal_Number or Connector_Punctuation; U+200C or U+200D
unfoldable pub is_word_char : ℕ → Bool
is_word_char c = is_alphabetic c || is_word_category (general_category c) || (c == 0x200C || c == 0x200D)

-- there is a character, and it is a word character
abbrev pub is_some_word : Option ℕ → Bool
is_some_word None = false
is_some_word (Some c) = is_word_char c
