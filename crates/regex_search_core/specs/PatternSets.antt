-- Patterns as numbers, and sets of patterns as lists that say for each pattern whether it is in the set.
use Rattle.std.specs.Prelude.{◌≡◌, ℕ, ◌+◌, ◌≤◌, Bool, true, false, List, [], ◌∷◌, length, count_by, if◌then◌else◌, nat_lt, slice_set, slice_index_or}
use Rattle.regex_search_core.specs.declared.primitives.PatternID.{PatternID}

-- the number of patterns in the set
abbrev pub size_of_set : List Bool → ℕ
size_of_set which = count_by (λ b. b) which

-- the set with the pattern added, if the pattern is below the capacity
abbrev pub with_pattern : List Bool → ℕ → List Bool
with_pattern which pattern = if nat_lt pattern (length which) then slice_set which pattern true else which

-- the set with the pattern removed
abbrev pub without_pattern : List Bool → ℕ → List Bool
without_pattern which pattern = if nat_lt pattern (length which) then slice_set which pattern false else which

-- the indices that hold true, in ascending order, where the first element has index n
abbrev pub places_from : ℕ → List Bool → List ℕ
places_from n [] = []
places_from n (b ∷ bs) = if b then n ∷ places_from (n + 1) bs else places_from (n + 1) bs

-- the patterns in the set, in ascending order
abbrev pub patterns_of : List Bool → List ℕ
patterns_of which = places_from 0 which

-- each index that holds true is the number of a pattern
abbrev pub AreNumbers : List Bool → Type 0
AreNumbers which = (i : ℕ) → slice_index_or which i false ≡ true → i ≤ 2147483646

-- what every set keeps: its size is counted, and its patterns have valid numbers
pub record IsPatternSet (len : ℕ) (which : List Bool) : Type 0 where
  pub counted : len ≡ size_of_set which
  pub numbered : AreNumbers which

-- the pattern's number
abbrev pub number_of : PatternID → ℕ
number_of pattern = pattern.index
