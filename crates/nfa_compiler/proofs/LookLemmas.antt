-- An assertion holds exactly if its counterpart does: `regex_hir` sees the same codepoints next to a position.
use Rattle.nfa_paths.proofs.Common.{IsScalar, len_utf8, IsUtf8, is_utf8, encode_utf8_all, encodes-chars, scalars-chars, IsUtf8-encode, IsUtf8-from_is_utf8, length-encode, len_utf8_bounds, ◌≡◌, ℕ, ◌+◌, ◌-◌, ◌≤◌, Bool, true, false, cond, ◌==◌, List, [], ◌∷◌, ◌++◌, length, take, take_at, drop, refl, sym, ap, ap₂, ◌∙◌, arith, chars, encode_utf8, append-nil, length-drop, eq-eqb, Option, None, Some, slice_range, option_or, and_parts, nat_tests, take-append-drop, length-take-le, only, char_of, char_of_len_before, char_before, char_of_len_after, char_after, is_some_word, not, slice_index, ◌&&◌, ◌||◌, nat_lt, is_some, slice_get, slice_get_past, slice_get-get_or, look_holds, is_word_byte, is_byte_before, is_byte_at, is_word_before, is_word_after, is_whole_before, is_whole_after, is_word_char_before, is_word_char_after}
use lib.Utf8.{scalars}
use Rattle.unicode.specs.Perl as perl
use Rattle.nfa_compiler.specs.Common.{is_some_and, char_at, byte_before, holds, holds_between, is_whole, side_before, side_after, look_of}
use Rattle.regex_hir.proofs.TextLemmas.{char_at_parts, char_at_from, char_at_fits}
use Rattle.thompson_nfa.proofs.CharacterLemmas.{char_of_text, only_one, is_word_char_as_classed}
use Rattle.regex_hir.specs.Text as their_text
use Rattle.regex_hir.specs.declared.look.Look as theirs

-- one codepoint, given by some bytes

only-some : (cs : List ℕ) (c : ℕ) → only cs ≡ Some c → cs ≡ c ∷ []
only-some [] c e = cc
only-some (d ∷ []) c e = let same : d ≡ c = cc in ap (λ x. x ∷ []) same
only-some (d ∷ (f ∷ cs)) c e = cc

char_of-some : (bs : List ℕ) (c : ℕ) → char_of bs ≡ Some c → IsScalar c × (bs ≡ encode_utf8 c)
unfolding char_of
char_of-some bs c e = by_test (is_utf8 bs) refl
  where
    by_test : (b : Bool) → is_utf8 bs ≡ b → IsScalar c × (bs ≡ encode_utf8 c)
    by_test false bad = let never : None ≡ Some c = rw bad at e in absurd (cc)
    by_test true good =
        let one : only (chars bs) ≡ Some c = rw good at e in
        let text : IsUtf8 bs = IsUtf8-from_is_utf8 bs good in
        let whole : bs ≡ encode_utf8 c ++ [] = sym (encodes-chars bs text)
        ∙ ap encode_utf8_all (only-some (chars bs) c one) in
        let scalar : scalars (c ∷ []) ≡ true = rw (only-some (chars bs) c one) at (scalars-chars bs text) in
        ((and_parts _ _ scalar).0, whole ∙ append-nil (encode_utf8 c))

char_of-from : (c : ℕ) → IsScalar c → char_of (encode_utf8 c) ≡ Some c
char_of-from c s =
    char_of_text (encode_utf8 c) (IsUtf8-encode c s)
    ∙ only_one (encode_utf8 c) [] c (IsUtf8-encode c s) (sym (append-nil (encode_utf8 c))) refl

-- the bytes between two positions

module _ (hay : List ℕ) where
  slice-is : (j n : ℕ) → slice_range hay j (j + n) ≡ take n (drop j hay)
  slice-is j n = let count : j + n - j ≡ n = omega arith in ap (λ k. take k (drop j hay)) count

  slice-some : (j n c : ℕ) → j + n ≤ length hay → char_of (slice_range hay j (j + n)) ≡ Some c
      → (char_at hay j ≡ Some c) × (len_utf8 c ≡ n)
  slice-some j n c fits e =
      let is = char_of-some (slice_range hay j (j + n)) c e in
      let room : n ≤ length (drop j hay) = omega (arith, length-drop j hay) in
      let bytes : take n (drop j hay) ≡ encode_utf8 c = sym (slice-is j n) ∙ is.1 in
      let all : drop j hay ≡ encode_utf8 c ++ drop n (drop j hay) =
      sym (take-append-drop n (drop j hay)) ∙ ap (λ bs. bs ++ drop n (drop j hay)) bytes in (
        char_at_from hay j c (drop n (drop j hay)) is.0 all,
        omega (arith, ap length bytes, length-take-le n (drop j hay) room, length-drop j hay, length-encode c),
      )

  slice-from : (j n c : ℕ) → char_at hay j ≡ Some c → len_utf8 c ≡ n → char_of (slice_range hay j (j + n)) ≡ Some c
  slice-from j n c e len =
      let parts = char_at_parts hay j c e in
      let bytes : take n (drop j hay) ≡ encode_utf8 c =
      ap (take n) parts.1 ∙ take_at (encode_utf8 c) (drop (j + len_utf8 c) hay) n (length-encode c ∙ len) in
      ap char_of (slice-is j n ∙ bytes) ∙ char_of-from c parts.0

  -- a codepoint of n bytes, both ways
  slice-same : (j n : ℕ) → j + n ≤ length hay → char_of (slice_range hay j (j + n))
      ≡ cond (is_some_and (char_at hay j) (λ c. len_utf8 c == n)) (char_at hay j) None
  slice-same j n fits = by_slice (char_of (slice_range hay j (j + n))) refl
    where
      by_char : (o : Option ℕ) → char_at hay j ≡ o → char_of (slice_range hay j (j + n)) ≡ None
          → None ≡ cond (is_some_and o (λ c. len_utf8 c == n)) o None
      by_char o e none = grind (arith, nat_tests, slice-from j n)

      by_slice : (o : Option ℕ) → char_of (slice_range hay j (j + n)) ≡ o → char_of (slice_range hay j (j + n))
          ≡ cond (is_some_and (char_at hay j) (λ c. len_utf8 c == n)) (char_at hay j) None
      by_slice None e = e ∙ by_char (char_at hay j) refl e
      by_slice (Some c) e =
          let is = slice-some j n c fits e in
          e ∙ sym (rw (is.0, eq-eqb (len_utf8 c) n is.1) refl)

  before-len-same : (i n : ℕ) → i ≤ length hay → char_of_len_before hay i n ≡ their_text.char_of_len_before hay n i
  before-len-same i n within =
      grind (arith, nat_tests, slice-same (i - n) n)

  pub char-before-same : (i : ℕ) → i ≤ length hay → char_before hay i ≡ their_text.char_before hay i
  unfolding char_before their_text.char_before
  char-before-same i within = grind (arith, nat_tests, before-len-same)

  -- a codepoint of n bytes after the position
  after-len-same : (i n : ℕ) → char_of_len_after hay i n
      ≡ cond (is_some_and (char_at hay i) (λ c. len_utf8 c == n)) (char_at hay i) None
  after-len-same i n = grind (arith, nat_tests, slice-same i n, char_at_fits hay i)

  -- one of the four lengths is that of the codepoint
  one-of-four : (o : Option ℕ)
      → option_or (cond (is_some_and o (λ c. len_utf8 c == 1)) o None)
      (option_or (cond (is_some_and o (λ c. len_utf8 c == 2)) o None)
      (option_or (cond (is_some_and o (λ c. len_utf8 c == 3)) o None)
      (cond (is_some_and o (λ c. len_utf8 c == 4)) o None))) ≡ o
  one-of-four None = refl
  one-of-four (Some c) = grind (arith, nat_tests, len_utf8_bounds)

  pub char-after-same : (i : ℕ) → char_after hay i ≡ char_at hay i
  unfolding char_after
  char-after-same i =
      ap₂ option_or (after-len-same i 1) (ap₂ option_or (after-len-same i 2)
      (ap₂ option_or (after-len-same i 3) (after-len-same i 4))) ∙ one-of-four (char_at hay i)

-- the two agree on which codepoints are word characters
pub word-same : (o : Option ℕ) → is_some_word o ≡ is_some_and o perl.is_word_char
word-same None = refl
word-same (Some c) = sym (is_word_char_as_classed c)

-- the two agree on which bytes are of words
word-byte : (b : ℕ) → is_word_byte b ≡ perl.is_word_byte b
word-byte b = grind (arith, nat_tests)

-- on a test of the byte before a position
before-same : (test : ℕ → Bool) (hay : List ℕ) (i : ℕ) → i ≤ length hay
    → (nat_lt 0 i && test (slice_index hay (i - 1))) ≡ is_some_and (byte_before hay i) test
unfolding byte_before
before-same test hay i h = grind (arith, nat_tests, slice_get-get_or hay (i - 1) 0)

-- and at it
after-same : (test : ℕ → Bool) (hay : List ℕ) (i : ℕ)
    → (nat_lt i (length hay) && test (slice_index hay i)) ≡ is_some_and (slice_get hay i) test
after-same test hay i = grind (arith, nat_tests, slice_get-get_or hay i 0, slice_get_past hay i)

-- on the word byte before a position
word-before : (hay : List ℕ) (i : ℕ) → i ≤ length hay
    → is_word_before hay i ≡ is_some_and (byte_before hay i) perl.is_word_byte
word-before hay i h = before-same is_word_byte hay i h ∙ ap (is_some_and (byte_before hay i)) (λ k b. word-byte b k)

-- and at it
word-after : (hay : List ℕ) (i : ℕ) → is_word_after hay i ≡ is_some_and (slice_get hay i) perl.is_word_byte
word-after hay i = after-same is_word_byte hay i ∙ ap (is_some_and (slice_get hay i)) (λ k b. word-byte b k)

-- the start
start-same : (hay : List ℕ) (i : ℕ) → i ≤ length hay → (i == 0) ≡ not (is_some (byte_before hay i))
unfolding byte_before
start-same hay i h = grind (arith, nat_tests, slice_get-get_or hay (i - 1) 0)

-- the end
end-same : (hay : List ℕ) (i : ℕ) → i ≤ length hay → (i == length hay) ≡ not (is_some (slice_get hay i))
end-same hay i h = grind (arith, nat_tests, slice_get-get_or hay i 0, slice_get_past hay i)

-- on a word character before a position
char-before : (hay : List ℕ) (i : ℕ) → i ≤ length hay
    → is_word_char_before hay i ≡ is_some_and (their_text.char_before hay i) perl.is_word_char
char-before hay i h = ap is_some_word (char-before-same hay i h) ∙ word-same (their_text.char_before hay i)

-- and at it
char-after : (hay : List ℕ) (i : ℕ) → is_word_char_after hay i ≡ is_some_and (char_at hay i) perl.is_word_char
char-after hay i = ap is_some_word (char-after-same hay i) ∙ word-same (char_at hay i)

-- on whether the side before a position is whole
whole-before : (hay : List ℕ) (i : ℕ) → i ≤ length hay → is_whole_before hay i ≡ is_whole (side_before hay i)
whole-before hay i h = ap₂ (λ a b. a || b) (start-same hay i h) (ap is_some (char-before-same hay i h))

-- and the side after it
whole-after : (hay : List ℕ) (i : ℕ) → i ≤ length hay → is_whole_after hay i ≡ is_whole (side_after hay i)
whole-after hay i h = ap₂ (λ a b. a || b) (end-same hay i h) (ap is_some (char-after-same hay i))

-- on a byte before a position, and at it
byte-before : (b : ℕ) (hay : List ℕ) (i : ℕ) → i ≤ length hay
    → is_byte_before hay i b ≡ is_some_and (byte_before hay i) (λ x. x == b)
byte-before b = before-same (λ x. x == b)

byte-at : (b : ℕ) (hay : List ℕ) (i : ℕ) → is_byte_at hay i b ≡ is_some_and (slice_get hay i) (λ x. x == b)
byte-at b = after-same (λ x. x == b)

pub look-same : (l : theirs.Look) (hay : List ℕ) (i : ℕ) → i ≤ length hay → look_holds (look_of l) hay i ≡ holds l hay i
unfolding holds holds_between
look-same l hay i h = grind (
  arith,
  start-same hay i h,
  end-same hay i h,
  byte-before 10 hay i h,
  byte-before 13 hay i h,
  byte-at 10 hay i,
  byte-at 13 hay i,
  word-before hay i h,
  word-after hay i,
  char-before hay i h,
  char-after hay i,
  whole-before hay i h,
  whole-after hay i h,
)
