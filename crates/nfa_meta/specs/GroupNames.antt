-- The groups that names in a template mean.
use Rattle.std.specs.Prelude.{ℕ, ◌≡◌, ◌⊎◌, ◌<◌, ◌≤◌, ◌^◌, List, Option, None, option_map, IsUtf8}
use Rattle.std.specs.Str.Parse.{IsNumeral, digits_value, without_leading_plus}
use Rattle.nfa_paths.specs.Common.{group_named, slot_at}

-- a letter, a digit or an underscore
abbrev pub IsWord : ℕ → Type 0
IsWord byte =
    (byte ≡ 95) ⊎ (((48 ≤ byte) × (byte ≤ 57)) ⊎ (((65 ≤ byte) × (byte ≤ 90)) ⊎ ((97 ≤ byte) × (byte ≤ 122))))

-- the number that the digits of the name write
abbrev pub number_in : List ℕ → ℕ
number_in name = digits_value 10 (without_leading_plus name)

-- the name is a number of 64 bits, as `parse` reads it
abbrev pub IsNumber : List ℕ → Type 0
IsNumber name = IsNumeral 10 (without_leading_plus name) × (number_in name < 2 ^ 64)

module _ (groups : List (List (Option (List ℕ)))) (pattern : ℕ) (name : List ℕ) where
  -- The name means this group of the pattern: that of its number if it is one, else that of its name. It means none if
  -- the pattern has no such group, or if the name is not UTF-8.
  pub record Means (group : Option ℕ) : Type 0 where
    pub no_text : ¬ IsUtf8 name → group ≡ None
    pub by_number : IsUtf8 name → IsNumber name
        → group ≡ option_map (λ _. number_in name) (slot_at groups pattern (number_in name))
    pub by_name : IsUtf8 name → ¬ IsNumber name → group ≡ group_named groups pattern name
