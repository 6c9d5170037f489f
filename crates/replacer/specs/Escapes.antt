-- The escapes of a template, as sed and shells have them, and what they stand for.
use Rattle.std.specs.Prelude.{ℕ, ◌+◌, ◌*◌, ◌-◌, ◌≡◌, ◌⊎◌, ◌<◌, ◌&&◌, List, [], ◌∷◌, Option, Some, None, encode_utf8, flat_map, fold, if◌then◌else◌, length, nat_eq, nat_lt, reverse, slice_index, slice_range, ⊤}
use Rattle.std.specs.Char.{IsScalar, digit_value}
use Rattle.std.specs.List.{AllWithin}
use Rattle.replacer.specs.declared.case.CaseEscape.{CaseEscape}
use Rattle.replacer.specs.declared.case.CaseEscape.TheVariants as escape
use Rattle.replacer.specs.declared.escapes.EscapeError.{EscapeError}
use Rattle.replacer.specs.declared.escapes.EscapeError.TheVariants as error
use Rattle.replacer.specs.declared.escapes.Sign.{Sign}
use Rattle.replacer.specs.declared.escapes.Sign.TheVariants.{AsItIs, Byte, Case, Character}

-- the bytes `$` and `\`
abbrev pub dollar : ℕ
dollar = 36

abbrev pub backslash : ℕ
backslash = 92

-- the byte is a hexadecimal digit
abbrev pub IsHex : ℕ → Type 0
IsHex byte = digit_value byte < 16

-- The number so far and a digit more. There is none after something that is no digit, or above the numbers of
-- characters.
abbrev pub hex_step : Option ℕ → ℕ → Option ℕ
hex_step None digit = None
hex_step (Some number) digit =
    if nat_lt (digit_value digit) 16 && nat_lt number 1114112 then Some (16 * number + digit_value digit) else None

-- the number that these hexadecimal digits write
abbrev pub hex_number : List ℕ → Option ℕ
hex_number digits = fold hex_step (Some 0) digits

module _ (text : List ℕ) where
  -- the text has this byte there
  abbrev pub Has : ℕ → ℕ → Type 0
  Has at byte = (at < length text) × (slice_index text at ≡ byte)

  -- a backslash and this byte after it
  abbrev pub Escapes : ℕ → ℕ → Type 0
  Escapes at byte = Has at backslash × Has (at + 1) byte

  -- a backslash and an `n`, a `t`, an `r` or a backslash, which is a line feed, a tab, a carriage return or a backslash
  abbrev pub IsLetter : ℕ → ℕ → Type 0
  IsLetter at byte =
      (Escapes at 110 × (byte ≡ 10)) ⊎ (Escapes at 116 × (byte ≡ 9)) ⊎ (Escapes at 114 × (byte ≡ 13))
      ⊎ (Escapes at backslash × (byte ≡ backslash))

  -- there are two hexadecimal digits
  abbrev pub HasTwoDigits : ℕ → Type 0
  HasTwoDigits at =
      (at + 1 < length text) × IsHex (slice_index text at) × IsHex (slice_index text (at + 1))

  -- `\x` and two digits, which write this byte
  pub record IsHexByte (at byte : ℕ) : Type 0 where
    pub begins : Escapes at 120
    pub digits : HasTwoDigits (at + 2)
    pub number : byte ≡ 16 * digit_value (slice_index text (at + 2)) + digit_value (slice_index text (at + 3))

  -- these bytes are hexadecimal digits, and the next one is none
  pub record AreDigits (start end : ℕ) : Type 0 where
    pub within : AllWithin IsHex text start end
    pub longest : end < length text → ¬ IsHex (slice_index text end)

  -- `\u{`, digits that write the number of a character, and a brace, up to this offset
  pub record IsInBraces (start end c : ℕ) : Type 0 where
    pub begins : Escapes start 117
    pub opening : Has (start + 2) 123
    pub some : start + 4 < end
    pub digits : AreDigits (start + 3) (end - 1)
    pub closing : Has (end - 1) 125
    pub number : hex_number (slice_range text (start + 3) (end - 1)) ≡ Some c
    pub scalar : IsScalar c

  -- `\u{` at this offset with no digit after it, or digits with no brace after them, or that write no number of a
  -- character
  pub record IsNoCharacter (start : ℕ) : Type 0 where
    pub begins : Escapes start 117
    pub opening : Has (start + 2) 123
    pub end : ℕ
    pub digits : AreDigits (start + 3) end
    pub wrong : (end ≡ start + 3) ⊎ (¬ Has end 125)
        ⊎ ((c : ℕ) → hex_number (slice_range text (start + 3) end) ≡ Some c → ¬ IsScalar c)

  -- a backslash and an `E`, a `U`, an `L`, a `u` that is no `\u{`, or an `l`, which says this case
  abbrev pub IsCaseEscape : ℕ → CaseEscape → Type 0
  IsCaseEscape at escape.End = Escapes at 69
  IsCaseEscape at escape.Upper = Escapes at 85
  IsCaseEscape at escape.Lower = Escapes at 76
  IsCaseEscape at escape.FirstUpper = Escapes at 117 × ¬ Has (at + 2) 123
  IsCaseEscape at escape.FirstLower = Escapes at 108

  -- there is a backslash that begins an escape
  abbrev pub BeginsEscape : ℕ → Type 0
  BeginsEscape at =
      Escapes at 110 ⊎ Escapes at 116 ⊎ Escapes at 114 ⊎ Escapes at backslash ⊎ Escapes at 120 ⊎ Escapes at 117
      ⊎ Escapes at 69 ⊎ Escapes at 85 ⊎ Escapes at 76 ⊎ Escapes at 108

  -- the text between these offsets is this sign
  abbrev pub IsSign : ℕ → ℕ → Sign → Type 0
  IsSign start end (AsItIs byte) = (end ≡ start + 1) × (slice_index text start ≡ byte) × ¬ BeginsEscape start
  IsSign start end (Byte byte) = ((end ≡ start + 2) × IsLetter start byte) ⊎ ((end ≡ start + 4) × IsHexByte start byte)
  IsSign start end (Character c) = IsInBraces start end c
  IsSign start end (Case escape after) = (end ≡ start + 2) × IsCaseEscape start escape × (after ≡ end)

  -- signs from the last to the first: the last ends at this offset, each starts where the one before it in the text
  -- ends, and the first starts at 0
  abbrev pub EndAt : ℕ → List Sign → Type 0
  EndAt end [] = end ≡ 0
  EndAt end (sign ∷ before) = (start : ℕ) × (start < end) × IsSign start end sign × EndAt start before

  -- the text up to this offset is these signs, with no gap and no overlap
  abbrev pub AreSigns : List Sign → ℕ → Type 0
  AreSigns signs end = EndAt end (reverse signs)

  -- Allocation failed, or `\x` at this offset has no two digits, or `\u{` at this offset no number of a character and
  -- a brace after it.
  abbrev pub IsBadEscape : EscapeError → Type 0
  IsBadEscape error.Memory = ⊤
  IsBadEscape (error.Byte at) = Escapes at 120 × ¬ HasTwoDigits (at + 2)
  IsBadEscape (error.Character at) = IsNoCharacter at

-- a dollar is written as two in a template
abbrev pub quoted_byte : ℕ → List ℕ
quoted_byte byte = if nat_eq byte dollar then dollar ∷ dollar ∷ [] else byte ∷ []

-- The template that means a sign: a byte as it is may begin the name of a group, and what an escape stands for does
-- not. An escape of the case stands for nothing.
abbrev pub sign_text : Sign → List ℕ
sign_text (AsItIs byte) = byte ∷ []
sign_text (Byte byte) = quoted_byte byte
sign_text (Character c) = flat_map quoted_byte (encode_utf8 c)
sign_text (Case escape after) = []
