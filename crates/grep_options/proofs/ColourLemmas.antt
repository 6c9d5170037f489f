-- Each colour of a palette that a text names is a code.
use Rattle.std.proofs.Common.{◌≡◌, List, [], ◌∷◌, None, Option, Some, arith, inl, inr, refl, subst, true, ℕ}
use Rattle.std.proofs.lemmas.Bool.{cases_Bool}
use Rattle.grep_options.specs.Colours.{AreCodes, Change, Palette, change_of, is_code, made_of_next, split_at, usual, with_all, with_code, with_flag, with_parts}
use Rattle.grep_options.specs.declared.colours.Change.TheVariants as change

-- a capability without a value sets no colour that is not a code
flag-codes : (palette : Palette) (for : Change) → AreCodes palette → AreCodes (with_flag palette for)
flag-codes palette change.Matches are = grind (arith, are)
flag-codes palette change.SelectedMatch are = are
flag-codes palette change.NearMatch are = are
flag-codes palette change.SelectedLine are = are
flag-codes palette change.NearLine are = are
flag-codes palette change.Name are = are
flag-codes palette change.Number are = are
flag-codes palette change.Offset are = are
flag-codes palette change.Separator are = are
flag-codes palette change.Reverse are = are
flag-codes palette change.Keep are = are
flag-codes palette change.Nothing are = are

-- nor does one whose value is a code
code-codes : (palette : Palette) (for : Change) (code : List ℕ) → is_code code ≡ true → AreCodes palette
    → AreCodes (with_code palette for code)
code-codes palette change.Matches code is are = grind (arith, are, is)
code-codes palette change.SelectedMatch code is are = grind (arith, are, is)
code-codes palette change.NearMatch code is are = grind (arith, are, is)
code-codes palette change.SelectedLine code is are = grind (arith, are, is)
code-codes palette change.NearLine code is are = grind (arith, are, is)
code-codes palette change.Name code is are = grind (arith, are, is)
code-codes palette change.Number code is are = grind (arith, are, is)
code-codes palette change.Offset code is are = grind (arith, are, is)
code-codes palette change.Separator code is are = grind (arith, are, is)
code-codes palette change.Reverse code is are = are
code-codes palette change.Keep code is are = are
code-codes palette change.Nothing code is are = are

-- nor does one of these parts, if it is well formed
parts-codes : (palette : Palette) (parts : List (List ℕ)) (next : Palette) → AreCodes palette
    → with_parts palette parts ≡ Some next → AreCodes next
parts-codes palette [] next are e = absurd (cc)
parts-codes palette (name ∷ []) next are e =
    let same : with_flag palette (change_of name) ≡ next = cc in
    subst AreCodes same (flag-codes palette (change_of name) are)
parts-codes palette ([] ∷ code ∷ []) next are e = absurd (cc)
parts-codes palette ((first ∷ name) ∷ code ∷ []) next are e = elim (cases_Bool (is_code code)) [
  | inl holds ↦
      let made = with_code palette (change_of (first ∷ name)) code in
      let same : made ≡ next = grind (arith, e, holds) in
      subst AreCodes same (code-codes palette (change_of (first ∷ name)) code holds are)
  | inr fails ↦ absurd (grind (arith, e, fails))
]
parts-codes palette ([] ∷ code ∷ other ∷ others) next are e = absurd (cc)
parts-codes palette ((first ∷ name) ∷ code ∷ other ∷ others) next are e = absurd (cc)

-- nor do several
pub all-codes : (capabilities : List (List ℕ)) (palette : Palette) → AreCodes palette
    → AreCodes (with_all palette capabilities)
all-codes [] palette are = are
all-codes (capability ∷ others) palette are =
    next-codes (λ p codes. all-codes others p codes) (with_parts palette (split_at 61 capability)) refl
  where
    next-codes : ((p : Palette) → AreCodes p → AreCodes (with_all p others)) → (next : Option Palette)
        → with_parts palette (split_at 61 capability) ≡ next
        → AreCodes (made_of_next palette next (λ p. with_all p others))
    next-codes later None is = are
    next-codes later (Some next) is = later next (parts-codes palette (split_at 61 capability) next are is)

-- the usual colours are codes
pub usual-codes : AreCodes usual
usual-codes = refl
