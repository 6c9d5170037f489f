-- An assertion that reads the byte on each side of a position holds as these two say, also those of Unicode's words.
use Rattle.std.proofs.Common.{◌≡◌, ℕ, ◌+◌, ◌-◌, ◌<◌, ◌≤◌, true, List, length, Some, None, slice_index, slice_range, refl, sym, ◌∙◌, arith, rules, inl, inr, le-leb, lt-ltb, le-ltb, ◌==◌, ◌&&◌, ◌||◌, Bool, false, not, ap, nat_lt, Option, is_none, slice_get}
use Rattle.std.specs.Bool.{beq}
use Rattle.std.proofs.lemmas.Bool.{cases_lt, eq-eqb, ne_eqb, lt-leb}
use Rattle.std.proofs.lemmas.List.{places}
use Rattle.unicode.specs.Perl as perl
use Rattle.unicode.proofs.Facts.{Stepped-below, same_from_beq}
use Rattle.unicode.proofs.PerlLemmas.{is_word_char_stepped}
use Rattle.unicode.proofs.TableComputing.{tables}
use Rattle.thompson_nfa.specs.Characters.{char_before, char_after, is_word_char}
use Rattle.thompson_nfa.specs.Looks.{is_word_byte, is_word_before, is_word_after, is_whole_before, is_whole_after, is_word_char_before, is_word_char_after, look_holds, byte_before, differ}
use Rattle.thompson_nfa.specs.declared.look.Look.{Look}
use Rattle.thompson_nfa.specs.declared.look.Look.TheVariants.{WordAscii, WordAsciiNegate, WordUnicode, WordUnicodeNegate, WordStartAscii, WordEndAscii, WordStartUnicode, WordEndUnicode, WordStartHalfAscii, WordEndHalfAscii, WordStartHalfUnicode, WordEndHalfUnicode, Start, End, StartLF, EndLF, StartLine, EndLine, StartCRLF, EndCRLF}
use Rattle.thompson_nfa.proofs.CharacterLemmas.{char_of_ascii, is_word_char_as_classed}
use Rattle.std.specs.Option.{option_map_or}
use Rattle.std.proofs.lemmas.Option.{slice_get-get_or, slice_get_past}

-- an ASCII byte is of a word by Unicode exactly if it is one of ASCII's words
pub is_word_char-ascii : (c : ℕ) → c < 128 → is_word_char c ≡ is_word_byte c
unfolding tables is_word_char_stepped
is_word_char-ascii c small =
    sym (is_word_char_as_classed c)
    ∙ same_from_beq _ _
    (Stepped-below perl.is_word_char is_word_char_stepped (λ x v. beq v (is_word_byte x)) 128 refl c small)

-- an ASCII byte before a position is the character that ends there
pub char_before-ascii : (h : List ℕ) (at : ℕ) → 0 < at → at ≤ length h → slice_index h (at - 1) < 128
    → char_before h at ≡ Some (slice_index h (at - 1))
unfolding char_before
char_before-ascii h at past within small =
    let size : length (slice_range h (at - 1) at) ≡ 1 = search (rules, places) in
    let same : slice_index (slice_range h (at - 1) at) 0 ≡ slice_index h (at - 1) = search (rules, places) in
    let one = char_of_ascii (slice_range h (at - 1) at) size (rw same small) in
    rw (le-leb 1 at past, one, same) refl

-- no character ends at the start
pub char_before-start : (h : List ℕ) (at : ℕ) → at ≤ 0 → char_before h at ≡ None
unfolding char_before
char_before-start h at none =
    rw (lt-leb 1 at (omega arith), lt-leb 2 at (omega arith), lt-leb 3 at (omega arith), lt-leb 4 at (omega arith)) refl

-- an ASCII byte at a position is the character that begins there
pub char_after-ascii : (h : List ℕ) (at : ℕ) → at < length h → slice_index h at < 128
    → char_after h at ≡ Some (slice_index h at)
unfolding char_after
char_after-ascii h at less small =
    let size : length (slice_range h at (at + 1)) ≡ 1 = search (rules, places) in
    let same : slice_index (slice_range h at (at + 1)) 0 ≡ slice_index h at = search (rules, places) in
    let one = char_of_ascii (slice_range h at (at + 1)) size (rw same small) in
    rw (le-leb (at + 1) (length h) (omega arith), one, same) refl

-- no character begins at the end
pub char_after-end : (h : List ℕ) (at : ℕ) → length h ≤ at → char_after h at ≡ None
unfolding char_after
char_after-end h at past =
    rw (
      lt-leb (at + 1) (length h) (omega arith),
      lt-leb (at + 2) (length h) (omega arith),
      lt-leb (at + 3) (length h) (omega arith),
      lt-leb (at + 4) (length h) (omega arith),
    ) refl

-- the assertion of ASCII's words for one of Unicode's
abbrev pub ascii_look : Look → Look
ascii_look WordUnicode = WordAscii
ascii_look WordUnicodeNegate = WordAsciiNegate
ascii_look WordStartUnicode = WordStartAscii
ascii_look WordEndUnicode = WordEndAscii
ascii_look WordStartHalfUnicode = WordStartHalfAscii
ascii_look WordEndHalfUnicode = WordEndHalfAscii
ascii_look look = look

-- a position whose bytes on both sides are ASCII, or missing
module _ (h : List ℕ) (at : ℕ) (within : at ≤ length h) (before : 0 < at → slice_index h (at - 1) < 128)
    (after : at < length h → slice_index h at < 128) where
  word_before : is_word_char_before h at ≡ is_word_before h at
  word_before =
      elim (cases_lt 0 at) [
        | inl past ↦
            rw (lt-ltb 0 at past, char_before-ascii h at past within (before past))
            (is_word_char-ascii (slice_index h (at - 1)) (before past))
        | inr none ↦ rw (le-ltb 0 at none, char_before-start h at none) refl
      ]

  word_after : is_word_char_after h at ≡ is_word_after h at
  word_after =
      elim (cases_lt at (length h)) [
        | inl less ↦
            rw (lt-ltb at (length h) less, char_after-ascii h at less (after less))
            (is_word_char-ascii (slice_index h at) (after less))
        | inr past ↦ rw (le-ltb at (length h) past, char_after-end h at past) refl
      ]

  whole_before : is_whole_before h at ≡ true
  whole_before =
      elim (cases_lt 0 at) [
        | inl past ↦
            rw (ne_eqb at 0 (λ (e : at ≡ 0). omega arith), char_before-ascii h at past within (before past)) refl
        | inr none ↦ rw (eq-eqb at 0 (omega arith)) refl
      ]

  whole_after : is_whole_after h at ≡ true
  whole_after =
      elim (cases_lt at (length h)) [
        | inl less ↦
            rw (ne_eqb at (length h) (λ (e : at ≡ length h). omega arith), char_after-ascii h at less (after less))
            refl
        | inr past ↦ rw (eq-eqb at (length h) (omega arith)) refl
      ]

  -- there each assertion of Unicode's words holds exactly if that of ASCII's words does
  pub look_holds-ascii : (look : Look) → look_holds look h at ≡ look_holds (ascii_look look) h at
  look_holds-ascii WordUnicode = rw (word_before, word_after) refl
  look_holds-ascii WordUnicodeNegate = rw (whole_before, whole_after, word_before, word_after) refl
  look_holds-ascii WordStartUnicode = rw (word_before, word_after) refl
  look_holds-ascii WordEndUnicode = rw (word_before, word_after) refl
  look_holds-ascii WordStartHalfUnicode = rw (whole_before, word_before) refl
  look_holds-ascii WordEndHalfUnicode = rw (whole_after, word_after) refl
  look_holds-ascii _ = refl

-- there is such a byte, and it is this one
abbrev is : ℕ → Option ℕ → Bool
is c byte = option_map_or (λ b. b == c) byte false

-- there is such a byte, and it is one of a word
abbrev is_word : Option ℕ → Bool
is_word byte = option_map_or is_word_byte byte false

-- whether the assertion, one of ASCII's words for one of Unicode's, holds between two bytes
abbrev pub holds_between : Look → Option ℕ → Option ℕ → Bool
holds_between Start before after = is_none before
holds_between End before after = is_none after
holds_between StartLF before after = is_none before || is 10 before
holds_between EndLF before after = is_none after || is 10 after
holds_between (StartLine terminator) before after = is_none before || is terminator before
holds_between (EndLine terminator) before after = is_none after || is terminator after
holds_between StartCRLF before after = is_none before || is 10 before || (is 13 before && not (is 10 after))
holds_between EndCRLF before after = is_none after || is 13 after || (is 10 after && not (is 13 before))
holds_between WordAscii before after = differ (is_word before) (is_word after)
holds_between WordAsciiNegate before after = not (differ (is_word before) (is_word after))
holds_between WordUnicode before after = differ (is_word before) (is_word after)
holds_between WordUnicodeNegate before after = not (differ (is_word before) (is_word after))
holds_between WordStartAscii before after = not (is_word before) && is_word after
holds_between WordEndAscii before after = is_word before && not (is_word after)
holds_between WordStartUnicode before after = not (is_word before) && is_word after
holds_between WordEndUnicode before after = is_word before && not (is_word after)
holds_between WordStartHalfAscii before after = not (is_word before)
holds_between WordEndHalfAscii before after = not (is_word after)
holds_between WordStartHalfUnicode before after = not (is_word before)
holds_between WordEndHalfUnicode before after = not (is_word after)

module _ (h : List ℕ) (at : ℕ) where
  -- the byte before a position that is not the first
  pub before-some : 0 < at → at ≤ length h → byte_before h at ≡ Some (slice_index h (at - 1))
  before-some past within =
      let inside : at - 1 < length h = omega arith in
      rw (lt-ltb 0 at past) (slice_get-get_or h (at - 1) 0 inside)

  -- no byte is before the first one
  pub before-none : at ≤ 0 → byte_before h at ≡ None
  before-none none = rw (le-ltb 0 at none) refl

module _ (h : List ℕ) (at : ℕ) (within : at ≤ length h) where
  start-between : (at == 0) ≡ is_none (byte_before h at)
  start-between =
      elim (cases_lt 0 at) [
        | inl past ↦ ne_eqb at 0 (λ (e : at ≡ 0). omega arith) ∙ sym (ap is_none (before-some h at past within))
        | inr none ↦ eq-eqb at 0 (omega arith) ∙ sym (ap is_none (before-none h at none))
      ]

  end-between : (at == length h) ≡ is_none (slice_get h at)
  end-between =
      elim (cases_lt at (length h)) [
        | inl less ↦
            ne_eqb at (length h) (λ (e : at ≡ length h). omega arith)
            ∙ sym (ap is_none (slice_get-get_or h at 0 less))
        | inr past ↦ eq-eqb at (length h) (omega arith) ∙ sym (ap is_none (slice_get_past h at past))
      ]

  -- a test of the byte before
  before-between : (test : ℕ → Bool)
      → (nat_lt 0 at && test (slice_index h (at - 1))) ≡ option_map_or test (byte_before h at) false
  before-between test =
      elim (cases_lt 0 at) [
        | inl past ↦
            let inside : at - 1 < length h = omega arith in
            rw (lt-ltb 0 at past) (sym (ap (λ o. option_map_or test o false) (slice_get-get_or h (at - 1) 0 inside)))
        | inr none ↦ rw (le-ltb 0 at none) refl
      ]

  -- and of the byte after
  after-between : (test : ℕ → Bool)
      → (nat_lt at (length h) && test (slice_index h at)) ≡ option_map_or test (slice_get h at) false
  after-between test =
      elim (cases_lt at (length h)) [
        | inl less ↦
            rw (lt-ltb at (length h) less) (sym (ap (λ o. option_map_or test o false) (slice_get-get_or h at 0 less)))
        | inr past ↦
            rw (le-ltb at (length h) past) (sym (ap (λ o. option_map_or test o false) (slice_get_past h at past)))
      ]

  -- the assertion holds exactly if it holds between the bytes on both sides
  pub holds-between : (look : Look)
      → look_holds (ascii_look look) h at ≡ holds_between look (byte_before h at) (slice_get h at)
  holds-between Start = start-between
  holds-between End = end-between
  holds-between StartLF = rw (start-between, before-between (λ b. b == 10)) refl
  holds-between EndLF = rw (end-between, after-between (λ b. b == 10)) refl
  holds-between (StartLine terminator) = rw (start-between, before-between (λ b. b == terminator)) refl
  holds-between (EndLine terminator) = rw (end-between, after-between (λ b. b == terminator)) refl
  holds-between StartCRLF =
      rw (
        start-between,
        before-between (λ b. b == 10),
        before-between (λ b. b == 13),
        after-between (λ b. b == 10),
      ) refl
  holds-between EndCRLF =
      rw (
        end-between,
        after-between (λ b. b == 13),
        after-between (λ b. b == 10),
        before-between (λ b. b == 13),
      ) refl
  holds-between _ = simp (before-between is_word_byte, after-between is_word_byte)
