-- Strings of one character, and the characters of words.
use Rattle.std.proofs.Common.{◌≡◌, ℕ, zero, suc, ◌<◌, List, [], ◌∷◌, ◌++◌, length, slice_index, Bool, true, false, Some, None, chars, encode_utf8, refl, ap, ◌∙◌, arith, ◌||◌, ◌==◌}
use Rattle.std.specs.Str.{IsUtf8, is_utf8, encode_utf8_all}
use Rattle.std.proofs.lemmas.List.{length-append}
use Rattle.std.proofs.lemmas.Str.{chars-nil, encodes-chars, encode_same, length-encode, length-le-encodes, len_utf8_bounds, encode_ascii, IsUtf8-from_ascii, is_utf8-from_IsUtf8, IsUtf8-from_is_utf8}
use Rattle.thompson_nfa.specs.Characters.{only, char_of, is_word_char}
use Rattle.std.proofs.lemmas.Bool.Decides.{nat_tests}
use Rattle.unicode.specs.Binary.{is_join_control}
use Rattle.unicode.specs.Perl as perl
use Rattle.unicode.proofs.BinaryLemmas.{is_join_control_stepped}
use Rattle.unicode.proofs.TableComputing.{tables}

-- the first of these characters is the one whose UTF-8 begins theirs
pub encodes_first : (cs : List ℕ) (c : ℕ) (rest : List ℕ) → encode_utf8_all cs ≡ encode_utf8 c ++ rest
    → (ds : List ℕ) × (cs ≡ c ∷ ds) × (encode_utf8_all ds ≡ rest)
encodes_first [] c rest e =
    absurd (omega (arith, ap length e, length-append (encode_utf8 c) rest, length-encode c, len_utf8_bounds c))
encodes_first (x ∷ xs) c rest e =
    let same = encode_same x c (encode_utf8_all xs) rest e in
    (xs, ap (λ y. y ∷ xs) same.0, same.1)

-- an empty list of bytes holds no character
pub only_none : (bs : List ℕ) → length bs ≡ 0 → only (chars bs) ≡ None
only_none [] e = rw chars-nil refl
only_none (b ∷ bs) e = absurd (omega arith)

-- a character and nothing after it
pub only_one : (bs rest : List ℕ) (c : ℕ) → IsUtf8 bs → bs ≡ encode_utf8 c ++ rest → length rest ≡ 0
    → only (chars bs) ≡ Some c
only_one bs rest c text e last =
    let first = encodes_first (chars bs) c rest (encodes-chars bs text ∙ e) in
    let none : first.0 ≡ [] = nil_of first.0 (omega (arith, length-le-encodes first.0, ap length first.2)) in
    rw (first.1, none) refl
  where
    nil_of : (ds : List ℕ) → length ds ≡ 0 → ds ≡ []
    nil_of [] h = refl
    nil_of (d ∷ ds) h = absurd (omega arith)

-- a character and another after it
pub only_more : (bs rest more : List ℕ) (c d : ℕ) → IsUtf8 bs → bs ≡ encode_utf8 c ++ rest
    → rest ≡ encode_utf8 d ++ more → only (chars bs) ≡ None
only_more bs rest more c d text e f =
    let first = encodes_first (chars bs) c rest (encodes-chars bs text ∙ e) in
    let second = encodes_first first.0 d more (first.2 ∙ f) in
    rw (first.1, second.1) refl

-- bytes that are a string
pub char_of_text : (bs : List ℕ) → IsUtf8 bs → char_of bs ≡ only (chars bs)
unfolding char_of
char_of_text bs text = rw (is_utf8-from_IsUtf8 bs text) refl

-- bytes that are not
pub char_of_ill_formed : (bs : List ℕ) → ¬ IsUtf8 bs → char_of bs ≡ None
unfolding char_of
char_of_ill_formed bs bad = by_test (is_utf8 bs) refl
  where
    by_test : (b : Bool) → is_utf8 bs ≡ b → char_of bs ≡ None
    by_test true e = absurd (bad (IsUtf8-from_is_utf8 bs e))
    by_test false e = rw e refl

-- an ASCII byte is the UTF-8 of the character of its number
pub char_of_ascii : (bs : List ℕ) → length bs ≡ 1 → slice_index bs 0 < 128 → char_of bs ≡ Some (slice_index bs 0)
char_of_ascii [] e h = absurd (omega arith)
char_of_ascii (b ∷ []) e h =
    let text : IsUtf8 (b ∷ []) = IsUtf8-from_ascii (b ∷ []) ascii in
    char_of_text (b ∷ []) text ∙ only_one (b ∷ []) [] b text (rw (encode_ascii b h) refl) refl
  where
    ascii : (i : ℕ) → slice_index (b ∷ []) i < 128
    ascii zero = h
    ascii (suc i) = omega arith
char_of_ascii (b ∷ c ∷ bs) e h = absurd (omega arith)

-- the character whose UTF-8 some bytes are
pub ruleset chars_of = (char_of_ascii, char_of_text, char_of_ill_formed)

-- the character of a string of one character
pub ruleset only_chars = (only_none, only_one, only_more)

-- Join_Control has two characters
pub is_join_control_is : (c : ℕ) → is_join_control c ≡ (c == 0x200C || c == 0x200D)
unfolding tables is_join_control_stepped
is_join_control_is c = is_join_control_stepped.gives c ∙ grind (arith, nat_tests)

-- the table's property is this one
pub is_word_char_as_classed : (c : ℕ) → perl.is_word_char c ≡ is_word_char c
unfolding is_word_char perl.is_word_char
is_word_char_as_classed c = rw (is_join_control_is c) refl
