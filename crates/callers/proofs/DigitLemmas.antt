-- The class of the ASCII digits.
use Rattle.std.proofs.Common.{◌≡◌, ℕ, ◌≤◌, true, List, [], ◌∷◌, codes, arith, subst, sym, IsSomeAnd, ◌↔◌}
use Rattle.std.proofs.lemmas.Bool.Decides.{nat_tests}
use Rattle.std.specs.Char.{is_ascii_digit}
use Rattle.nfa_compiler.specs.Common.{Re, byte_in, cat, empty, literal, copies, default_config, IsReadAs, MatchesIn, MatchesInStr, byte_syntax}
use Rattle.nfa_compiler.proofs.Literals.{Range, in_ranges, on_literals, alone, alt-fail, ascii-class, cat-empty, cat_cong, from-boundaries, same-copies, same_refl, ◌then◌}

abbrev pub digits : List Range
digits = (48, 57) ∷ []

pub is-digit : (b : ℕ) → in_ranges digits b ≡ is_ascii_digit b
unfolding on_literals
is-digit b = grind (arith, nat_tests)

low : (b : ℕ) → in_ranges digits b ≡ true → b ≤ 127
unfolding on_literals
low b h = grind (arith, nat_tests)

pub digit-read-in-str : IsReadAs default_config (codes "[0-9]") (byte_in digits)
unfolding on_literals
digit-read-in-str = alone (ascii-class _ digits (λ c le. grind (arith, nat_tests)) (λ c h. grind (arith, nat_tests)))

-- a digit is ASCII, so it starts on a boundary
pub digit-starts : (line : List ℕ) → MatchesInStr line (byte_in digits) ↔ MatchesIn line (byte_in digits)
digit-starts line = from-boundaries line (byte_in digits) (λ i j m.
    subst (λ o. IsSomeAnd o (λ b. b ≤ 127)) (sym m.1) (low m.0 m.2))

pub digit-read : IsReadAs byte_syntax (codes "[0-9]") (byte_in digits)
unfolding on_literals
digit-read = alone (ascii-class _ digits (λ c le. grind (arith, nat_tests)) (λ c h. grind (arith, nat_tests)))

-- four digits, a dash and two digits
abbrev pub month : Re
month = cat (copies 4 (byte_in digits) empty) (cat (literal (codes "-")) (copies 2 (byte_in digits) empty))

pub month-read : IsReadAs byte_syntax (codes "[0-9]{4}-[0-9]{2}") month
unfolding on_literals
month-read =
    let one = ascii-class _ digits (λ c le. grind (arith, nat_tests)) (λ c h. grind (arith, nat_tests)) in
    alt-fail _ then cat_cong (same-copies 4 empty one)
    (cat_cong (same_refl _) (cat-empty _ then same-copies 2 empty one))
