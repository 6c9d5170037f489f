-- What a whole text is, in its own words: bytes, runs of bytes, parts one after another, and alternatives.
use Rattle.std.specs.Prelude.{◌≡◌, ◌⊎◌, ℕ, zero, suc, ◌<◌, ◌≤◌, Bool, true, List, [], ◌++◌, All, decimal, length}

-- exactly these bytes
pub record Exactly (bytes text : List ℕ) : Type 0 where
  pub text_is : text ≡ bytes

-- at least `least` bytes and at most `most`, each of which passes the test
pub record Bytes (test : ℕ → Bool) (least most : ℕ) (text : List ℕ) : Type 0 where
  pub at_least : least ≤ length text
  pub at_most : length text ≤ most
  pub each : All (λ b. test b ≡ true) text

-- at least `least` bytes, each of which passes the test
pub record BytesOrMore (test : ℕ → Bool) (least : ℕ) (text : List ℕ) : Type 0 where
  pub at_least : least ≤ length text
  pub each : All (λ b. test b ≡ true) text

-- one part, and then another
infixr 30 ◌followed_by◌
pub record ◌followed_by◌ (P Q : List ℕ → Type 0) (text : List ℕ) : Type 0 where
  pub first : List ℕ
  pub second : List ℕ
  pub text_is : text ≡ first ++ second
  pub first_is : P first
  pub second_is : Q second

-- one or the other
infixr 20 ◌or_else◌
pub record ◌or_else◌ (P Q : List ℕ → Type 0) (text : List ℕ) : Type 0 where
  pub either : P text ⊎ Q text

-- n parts of one kind, one after another
abbrev pub Times : ℕ → (List ℕ → Type 0) → List ℕ → Type 0
Times zero P = Exactly []
Times (suc n) P = P followed_by Times n P

-- the decimal form of a number below the limit, without a zero in front
pub record DecimalBelow (limit : ℕ) (text : List ℕ) : Type 0 where
  pub number : ℕ
  pub below : number < limit
  pub text_is : text ≡ decimal number
