-- What a set has, by its first characters and the others.
use Rattle.std.proofs.Common.{◌≡◌, ◌∙◌, ℕ, ◌-◌, ◌≤◌, true, false, ◌&&◌, ◌==◌, List, [], ◌∷◌, length, drop, take, get_or, refl, ap, arith, nat_le, take_all, length-drop}
use Rattle.grep_options.specs.Globs.{Letter, means, set_has}

-- the other characters, as a slice has them
rest_is : (letters : List Letter) (n : ℕ) → take (length letters - n) (drop n letters) ≡ drop n letters
rest_is letters n = take_all (length letters - n) (drop n letters) (omega (arith, length-drop n letters))

-- a character that is not in the range with which the set begins
pub set_has-range : (letters : List Letter) (c : ℕ) (x y z : Letter) → 3 ≤ length letters
    → means (get_or letters 1 y) 45 ≡ true
    → (nat_le (get_or letters 0 x).value c && nat_le c (get_or letters 2 z).value) ≡ false
    → set_has (take (length letters - 3) (drop 3 letters)) c ≡ set_has letters c
set_has-range [] c x y z long range out = absurd (omega arith)
set_has-range (a ∷ []) c x y z long range out = absurd (omega arith)
set_has-range (a ∷ b ∷ []) c x y z long range out = absurd (omega arith)
set_has-range (a ∷ b ∷ d ∷ letters) c x y z long range out =
    ap (λ l. set_has l c) (rest_is (a ∷ b ∷ d ∷ letters) 3) ∙ rw (range, out) refl

-- a character that is not the first one of the set, with which no range begins
pub set_has-first : (letters : List Letter) (c : ℕ) (x y : Letter) → 3 ≤ length letters
    → means (get_or letters 1 y) 45 ≡ false → (c == (get_or letters 0 x).value) ≡ false
    → set_has (take (length letters - 1) (drop 1 letters)) c ≡ set_has letters c
set_has-first [] c x y long range out = absurd (omega arith)
set_has-first (a ∷ []) c x y long range out = absurd (omega arith)
set_has-first (a ∷ b ∷ []) c x y long range out = absurd (omega arith)
set_has-first (a ∷ b ∷ d ∷ letters) c x y long range out =
    ap (λ l. set_has l c) (rest_is (a ∷ b ∷ d ∷ letters) 1) ∙ rw (range, out) refl
