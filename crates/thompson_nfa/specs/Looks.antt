-- the positions at which each assertion holds
use Rattle.std.specs.Prelude.{ℕ, ◌-◌, Bool, not, ◌&&◌, ◌||◌, ◌==◌, nat_lt, nat_le, List, length, slice_index, slice_get, if◌then◌else◌, is_some, Option, None}
use Rattle.thompson_nfa.specs.Characters.{char_before, char_after, is_some_word}
use Rattle.thompson_nfa.specs.declared.look.Look.{Look}
use Rattle.thompson_nfa.specs.declared.look.Look.TheVariants.{Start, End, StartLF, EndLF, StartLine, EndLine, StartCRLF, EndCRLF, WordAscii, WordAsciiNegate, WordUnicode, WordUnicodeNegate, WordStartAscii, WordEndAscii, WordStartUnicode, WordEndUnicode, WordStartHalfAscii, WordEndHalfAscii, WordStartHalfUnicode, WordEndHalfUnicode}

-- the byte is 0-9, A-Z, `_` or a-z
abbrev pub is_word_byte : ℕ → Bool
is_word_byte b =
    (nat_le 48 b && nat_le b 57) || (nat_le 65 b && nat_le b 90) || (nat_le 97 b && nat_le b 122) || b == 95

-- the byte just before the position, if there is one
abbrev pub byte_before : List ℕ → ℕ → Option ℕ
byte_before haystack at = if nat_lt 0 at then slice_get haystack (at - 1) else None

-- this byte is just before the position
abbrev pub is_byte_before : List ℕ → ℕ → ℕ → Bool
is_byte_before haystack at b = nat_lt 0 at && slice_index haystack (at - 1) == b

-- this byte is at the position
abbrev pub is_byte_at : List ℕ → ℕ → ℕ → Bool
is_byte_at haystack at b = nat_lt at (length haystack) && slice_index haystack at == b

-- a word byte is just before the position
abbrev pub is_word_before : List ℕ → ℕ → Bool
is_word_before haystack at = nat_lt 0 at && is_word_byte (slice_index haystack (at - 1))

-- a word byte is at the position
abbrev pub is_word_after : List ℕ → ℕ → Bool
is_word_after haystack at = nat_lt at (length haystack) && is_word_byte (slice_index haystack at)

-- the haystack starts at the position, or a whole character ends there
abbrev pub is_whole_before : List ℕ → ℕ → Bool
is_whole_before haystack at = at == 0 || is_some (char_before haystack at)

-- the haystack ends at the position, or a whole character begins there
abbrev pub is_whole_after : List ℕ → ℕ → Bool
is_whole_after haystack at = at == length haystack || is_some (char_after haystack at)

-- a word character ends at the position
abbrev pub is_word_char_before : List ℕ → ℕ → Bool
is_word_char_before haystack at = is_some_word (char_before haystack at)

-- a word character begins at the position
abbrev pub is_word_char_after : List ℕ → ℕ → Bool
is_word_char_after haystack at = is_some_word (char_after haystack at)

-- the two differ
abbrev pub differ : Bool → Bool → Bool
differ a b = if a then not b else b

-- a line starts at the position; carriage return (13), line feed (10) and the two in this order end a line
abbrev pub is_crlf_start : List ℕ → ℕ → Bool
is_crlf_start haystack at =
    at == 0 || is_byte_before haystack at 10 || (is_byte_before haystack at 13 && not (is_byte_at haystack at 10))

-- a line ends at the position
abbrev pub is_crlf_end : List ℕ → ℕ → Bool
is_crlf_end haystack at =
    at == length haystack || is_byte_at haystack at 13
    || (is_byte_at haystack at 10 && not (is_byte_before haystack at 13))

-- no word starts or ends at the position, and on each side there is a whole character or the end of the haystack
abbrev pub is_not_word_boundary : List ℕ → ℕ → Bool
is_not_word_boundary haystack at =
    is_whole_before haystack at && is_whole_after haystack at
    && not (differ (is_word_char_before haystack at) (is_word_char_after haystack at))

-- the assertion holds at this position of the haystack
abbrev pub look_holds : Look → List ℕ → ℕ → Bool
look_holds Start haystack at = at == 0
look_holds End haystack at = at == length haystack
look_holds StartLF haystack at = at == 0 || is_byte_before haystack at 10
look_holds EndLF haystack at = at == length haystack || is_byte_at haystack at 10
look_holds (StartLine terminator) haystack at = at == 0 || is_byte_before haystack at terminator
look_holds (EndLine terminator) haystack at = at == length haystack || is_byte_at haystack at terminator
look_holds StartCRLF haystack at = is_crlf_start haystack at
look_holds EndCRLF haystack at = is_crlf_end haystack at
look_holds WordAscii haystack at = differ (is_word_before haystack at) (is_word_after haystack at)
look_holds WordAsciiNegate haystack at = not (differ (is_word_before haystack at) (is_word_after haystack at))
look_holds WordUnicode haystack at = differ (is_word_char_before haystack at) (is_word_char_after haystack at)
look_holds WordUnicodeNegate haystack at = is_not_word_boundary haystack at
look_holds WordStartAscii haystack at = not (is_word_before haystack at) && is_word_after haystack at
look_holds WordEndAscii haystack at = is_word_before haystack at && not (is_word_after haystack at)
look_holds WordStartUnicode haystack at = not (is_word_char_before haystack at) && is_word_char_after haystack at
look_holds WordEndUnicode haystack at = is_word_char_before haystack at && not (is_word_char_after haystack at)
look_holds WordStartHalfAscii haystack at = not (is_word_before haystack at)
look_holds WordEndHalfAscii haystack at = not (is_word_after haystack at)
look_holds WordStartHalfUnicode haystack at = is_whole_before haystack at && not (is_word_char_before haystack at)
look_holds WordEndHalfUnicode haystack at = is_whole_after haystack at && not (is_word_char_after haystack at)

-- the assertion, if this byte ends a line in place of a line feed
abbrev pub with_terminator : ℕ → Look → Look
with_terminator terminator StartLF = StartLine terminator
with_terminator terminator EndLF = EndLine terminator
with_terminator terminator look = look
