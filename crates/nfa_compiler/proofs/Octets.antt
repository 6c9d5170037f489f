-- The numbers below 256 in decimal, as `25[0-5]|2[0-4][0-9]|1[0-9]{2}|[1-9]?[0-9]`.
use Rattle.std.proofs.lemmas.Fmt.{decimal_digit, decimal_step}
use Rattle.nfa_paths.proofs.Common.{is_ascii_digit, is_in_range, ◌≡◌, ◌∙◌, ℕ, zero, suc, ◌+◌, ◌-◌, ◌*◌, ◌/◌, ◌%◌, ◌<◌, ◌≤◌, Bool, true, List, [], ◌∷◌, ◌++◌, codes, refl, sym, ap, ap₂, subst, arith, inl, inr, ◌↔◌, decimal, cases_lt, nat_tests, All-cons, All-head, All-nil, All-tail}
use Rattle.nfa_compiler.specs.Common.{Re, alt, byte_in, cat, empty, literal}
use Rattle.nfa_compiler.specs.Texts.{Bytes, DecimalBelow, Exactly, ◌followed_by◌, ◌or_else◌}
use Rattle.nfa_compiler.proofs.Denotes.{Denotes, IsClass, branch, class, class_of, digit, in_words, last, maybe, one, range, run, text, ◌and_then◌, ◌or◌}

-- decimal forms

one-more : (n d : ℕ) → 0 < n → n < 100 → d < 10 → decimal (10 * n + d) ≡ decimal n ++ (48 + d) ∷ []
one-more n d some less small =
    let q : (10 * n + d) / 10 ≡ n = omega arith in
    let r : (10 * n + d) % 10 ≡ d = omega arith in
    decimal_step (10 * n + d) (omega arith) (omega arith)
    ∙ ap₂ (λ (m e : ℕ). decimal m ++ (48 + e) ∷ []) q r

two-digits : (x y : ℕ) → 0 < x → x < 10 → y < 10 → decimal (10 * x + y) ≡ (48 + x) ∷ (48 + y) ∷ []
two-digits x y some less small =
    one-more x y some (omega arith) small ∙ ap (λ ds. ds ++ (48 + y) ∷ []) (decimal_digit x less)

three-digits : (x y z : ℕ) → 0 < x → x < 10 → y < 10 → z < 10
    → decimal (100 * x + 10 * y + z) ≡ (48 + x) ∷ (48 + y) ∷ (48 + z) ∷ []
three-digits x y z some less small last_small =
    let e : 100 * x + 10 * y + z ≡ 10 * (10 * x + y) + z = omega arith in
    ap decimal e ∙ one-more (10 * x + y) z (omega arith) (omega arith) last_small
    ∙ ap (λ ds. ds ++ (48 + z) ∷ []) (two-digits x y some less small)

three-below : (x y z : ℕ) (t : List ℕ) → t ≡ (48 + x) ∷ (48 + y) ∷ (48 + z) ∷ [] → 0 < x → x < 10 → y < 10 → z < 10
    → 100 * x + 10 * y + z < 256 → DecimalBelow 256 t
three-below x y z t is some one two three less = record {
  number = 100 * x + 10 * y + z;
  below = less;
  text_is = is ∙ sym (three-digits x y z some one two three);
}

-- one or two digits that pass a test

module _ (test : ℕ → Bool) where
  a-byte : (b : ℕ) → test b ≡ true → Bytes test 1 1 (b ∷ [])
  a-byte b passes = record {
    at_least = omega arith;
    at_most = omega arith;
    each = All-cons (λ x. test x ≡ true) b [] passes (All-nil (λ x. test x ≡ true));
  }

  two-bytes : (b c : ℕ) → test b ≡ true → test c ≡ true → Bytes test 2 2 (b ∷ c ∷ [])
  two-bytes b c first second = record {
    at_least = omega arith;
    at_most = omega arith;
    each = All-cons (λ x. test x ≡ true) b (c ∷ []) first (a-byte c second).each;
  }

  module _ (low high : ℕ) (within : (b : ℕ) → test b ≡ true → (48 + low ≤ b) × (b ≤ 48 + high)) where
    the-digit : (t : List ℕ) → Bytes test 1 1 t → (x : ℕ) × (t ≡ (48 + x) ∷ []) × (low ≤ x) × (x ≤ high)
    the-digit [] is = absurd (omega (arith, is.at_least))
    the-digit (b ∷ []) is =
        let h = within b (All-head (λ x. test x ≡ true) b [] is.each) in
        let e : b ≡ 48 + (b - 48) = omega (arith, h.0) in
        (b - 48, ap (λ c. c ∷ []) e, omega (arith, h.0), omega (arith, h.1))
    the-digit (b ∷ (c ∷ t)) is = absurd (omega (arith, is.at_most))

    the-digits : (t : List ℕ) → Bytes test 2 2 t
        → (x : ℕ) × (y : ℕ) × (t ≡ (48 + x) ∷ (48 + y) ∷ []) × (x ≤ high) × (y ≤ high)
    the-digits [] is = absurd (omega (arith, is.at_least))
    the-digits (b ∷ []) is = absurd (omega (arith, is.at_least))
    the-digits (b ∷ (c ∷ [])) is =
        let rest = All-tail (λ x. test x ≡ true) b (c ∷ []) is.each in
        let x = the-digit (b ∷ []) (a-byte b (All-head (λ x. test x ≡ true) b (c ∷ []) is.each)) in
        let y = the-digit (c ∷ []) (a-byte c (All-head (λ x. test x ≡ true) c [] rest)) in
        (x.0, y.0, ap₂ ◌++◌ x.1 y.1, x.3, y.3)
    the-digits (b ∷ (c ∷ (d ∷ t))) is = absurd (omega (arith, is.at_most))

in-range : (low high b : ℕ) → is_in_range low high b ≡ true → (low ≤ b) × (b ≤ high)
in-range low high b h = grind (arith, nat_tests)

range-in : (low high b : ℕ) → low ≤ b → b ≤ high → is_in_range low high b ≡ true
range-in low high b from to = grind (arith, nat_tests)

digit-is : (b : ℕ) → is_ascii_digit b ≡ true → (48 ≤ b) × (b ≤ 57)
digit-is b h = grind (arith, nat_tests)

-- the four alternatives in words of the text

abbrev TopFive : List ℕ → Type 0
TopFive = Exactly (codes "2") followed_by Exactly (codes "5") followed_by Bytes (is_in_range 48 53) 1 1

abbrev TwoHundreds : List ℕ → Type 0
TwoHundreds = Exactly (codes "2") followed_by Bytes (is_in_range 48 52) 1 1 followed_by Bytes is_ascii_digit 1 1

abbrev Hundreds : List ℕ → Type 0
Hundreds = Exactly (codes "1") followed_by Bytes is_ascii_digit 2 2

abbrev Small : List ℕ → Type 0
Small = (Bytes (is_in_range 49 57) 1 1 or_else Exactly []) followed_by Bytes is_ascii_digit 1 1

abbrev Written : List ℕ → Type 0
Written = TopFive or_else TwoHundreds or_else Hundreds or_else Small

top-five : (t : List ℕ) → TopFive t → DecimalBelow 256 t
top-five t is =
    let rest = is.second_is in
    let z = the-digit (is_in_range 48 53) 0 5 (in-range 48 53) rest.second rest.second_is in
    three-below 2 5 z.0 t
    (is.text_is ∙ ap₂ ◌++◌ is.first_is.text_is (rest.text_is ∙ ap₂ ◌++◌ rest.first_is.text_is z.1))
    (omega arith) (omega arith) (omega arith) (omega (arith, z.3)) (omega (arith, z.3))

two-hundreds : (t : List ℕ) → TwoHundreds t → DecimalBelow 256 t
two-hundreds t is =
    let rest = is.second_is in
    let y = the-digit (is_in_range 48 52) 0 4 (in-range 48 52) rest.first rest.first_is in
    let z = the-digit is_ascii_digit 0 9 digit-is rest.second rest.second_is in
    three-below 2 y.0 z.0 t (is.text_is ∙ ap₂ ◌++◌ is.first_is.text_is (rest.text_is ∙ ap₂ ◌++◌ y.1 z.1))
    (omega arith) (omega arith) (omega (arith, y.3)) (omega (arith, z.3)) (omega (arith, y.3, z.3))

hundreds : (t : List ℕ) → Hundreds t → DecimalBelow 256 t
hundreds t is =
    let yz = the-digits is_ascii_digit 0 9 digit-is is.second is.second_is in
    three-below 1 yz.0 yz.1 t (is.text_is ∙ ap₂ ◌++◌ is.first_is.text_is yz.2) (omega arith) (omega arith)
    (omega (arith, yz.3)) (omega (arith, yz.4)) (omega (arith, yz.3, yz.4))

small : (t : List ℕ) → Small t → DecimalBelow 256 t
small t is =
    let y = the-digit is_ascii_digit 0 9 digit-is is.second is.second_is in
    let last : y.0 < 10 = omega (arith, y.3) in
    elim is.first_is.either [
      | inl ten ↦
          let x = the-digit (is_in_range 49 57) 1 9 (in-range 49 57) is.first ten in
          record {
            number = 10 * x.0 + y.0;
            below = omega (arith, x.3, y.3);
            text_is = is.text_is ∙ ap₂ ◌++◌ x.1 y.1
                ∙ sym (two-digits x.0 y.0 (omega (arith, x.2)) (omega (arith, x.3)) last);
          }
      | inr none ↦ record {
        number = y.0;
        below = omega arith;
        text_is = is.text_is ∙ ap₂ ◌++◌ none.text_is y.1 ∙ sym (decimal_digit y.0 last);
      }
    ]

-- a text in these words

module _ {P Q : List ℕ → Type 0} where
  left : {t : List ℕ} → P t → (P or_else Q) t
  left is = record { either = inl is }

  right : {t : List ℕ} → Q t → (P or_else Q) t
  right is = record { either = inr is }

  joined : (a b : List ℕ) → P a → Q b → (P followed_by Q) (a ++ b)
  joined a b p q = record { first = a; second = b; text_is = refl; first_is = p; second_is = q }

exact : (t : List ℕ) → Exactly t t
exact t = record { text_is = refl }

byte-in : (low high b : ℕ) → low ≤ b → b ≤ high → Bytes (is_in_range low high) 1 1 (b ∷ [])
byte-in low high b from to = a-byte (is_in_range low high) b (range-in low high b from to)

is-digit : (x : ℕ) → x < 10 → is_ascii_digit (48 + x) ≡ true
is-digit x less = grind (arith, nat_tests)

digit-byte : (x : ℕ) → x < 10 → Bytes is_ascii_digit 1 1 ((48 + x) ∷ [])
digit-byte x less = a-byte is_ascii_digit (48 + x) (is-digit x less)

written-from : (n : ℕ) → n < 256 → Written (decimal n)
written-from n less = elim (cases_lt n 10) [
  | inl one_digit ↦
      subst Written (sym (decimal_digit n one_digit))
      (right (right (right (joined [] ((48 + n) ∷ []) (right (exact [])) (digit-byte n one_digit)))))
  | inr more ↦ elim (cases_lt n 100) [
    | inl two ↦
        let x = n / 10 in
        let y = n % 10 in
        let e : n ≡ 10 * x + y = omega arith in
        subst Written (sym (ap decimal e ∙ two-digits x y (omega arith) (omega arith) (omega arith)))
        (right (right (right (joined ((48 + x) ∷ []) ((48 + y) ∷ [])
        (left (byte-in 49 57 (48 + x) (omega arith) (omega arith))) (digit-byte y (omega arith))))))
    | inr three ↦
        let x = n / 10 / 10 in
        let y = (n / 10) % 10 in
        let z = n % 10 in
        let e : n ≡ 100 * x + 10 * y + z = omega arith in
        subst Written (sym (ap decimal e ∙ three-digits x y z (omega arith) (omega arith) (omega arith) (omega arith)))
        (of-three x y z (omega arith) (omega arith) (omega arith) (omega arith))
  ]
]
  where
    of-three : (x y z : ℕ) → 0 < x → y < 10 → z < 10 → 100 * x + 10 * y + z < 256
        → Written ((48 + x) ∷ (48 + y) ∷ (48 + z) ∷ [])
    of-three zero y z some two three below = absurd (omega arith)
    of-three (suc zero) y z some two three below =
        right (right (left (joined (codes "1") ((48 + y) ∷ (48 + z) ∷ []) (exact (codes "1"))
        (two-bytes is_ascii_digit (48 + y) (48 + z) (is-digit y two) (is-digit z three)))))
    of-three (suc (suc zero)) y z some two three below = elim (cases_lt y 5) [
      | inl low ↦
          right (left (joined (codes "2") ((48 + y) ∷ (48 + z) ∷ []) (exact (codes "2"))
          (joined ((48 + y) ∷ []) ((48 + z) ∷ []) (byte-in 48 52 (48 + y) (omega arith) (omega arith))
          (digit-byte z three))))
      | inr high ↦
          let five : 48 + y ≡ 53 = omega arith in
          subst (λ d. Written (50 ∷ d ∷ (48 + z) ∷ [])) (sym five)
          (left (joined (codes "2") (53 ∷ (48 + z) ∷ []) (exact (codes "2"))
          (joined (codes "5") ((48 + z) ∷ []) (exact (codes "5"))
          (byte-in 48 53 (48 + z) (omega arith) (omega arith)))))
    ]
    of-three (suc (suc (suc x))) y z some two three below = absurd (omega arith)

octet-words : (t : List ℕ) → Written t ↔ DecimalBelow 256 t
octet-words t = (
  λ is. elim is.either [
    | inl a ↦ top-five t a
    | inr more ↦ elim more.either [
      | inl b ↦ two-hundreds t b
      | inr others ↦ elim others.either [ inl c ↦ hundreds t c | inr d ↦ small t d ]
    ]
  ],
  λ is. subst Written (sym is.text_is) (written-from is.number is.below),
)

-- classes of digits

between : (low high : ℕ) → high ≤ 127 → IsClass (class_of (range low high ∷ [])) (is_in_range low high)
between low high ascii =
    class (range low high ∷ []) (is_in_range low high) (λ c. grind (arith, nat_tests)) (λ c h. grind (arith, nat_tests))

pub positive : IsClass (class_of (range 49 57 ∷ [])) (is_in_range 49 57)
positive = between 49 57 (omega arith)

-- what the grammar reads in `25[0-5]|2[0-4][0-9]|1[0-9]{2}|[1-9]?[0-9]`
abbrev pub octet_read : Re
octet_read =
    let digits = class_of (range 48 57 ∷ []) in
    alt (cat (literal (codes "2")) (cat (literal (codes "5")) (cat (class_of (range 48 53 ∷ [])) empty)))
    (alt (cat (literal (codes "2")) (cat (class_of (range 48 52 ∷ [])) (cat digits empty)))
    (alt (cat (literal (codes "1")) (cat (cat digits (cat digits empty)) empty))
    (alt (cat (alt (cat (class_of (range 49 57 ∷ [])) empty) empty) (cat digits empty)) (byte_in []))))

pub octet : Denotes octet_read (DecimalBelow 256)
octet = in_words octet-words (
    text and_then text and_then last (one (between 48 53 (omega arith)))
    or text and_then one (between 48 52 (omega arith)) and_then last (one digit)
    or text and_then last (run 2 0 digit)
    or branch (maybe_one and_then last (one digit)))
  where
    maybe_one : Denotes (alt (cat (class_of (range 49 57 ∷ [])) empty) empty)
        (Bytes (is_in_range 49 57) 1 1 or_else Exactly [])
    maybe_one = maybe (one positive)
