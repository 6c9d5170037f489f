-- the places of a set that hold true
use Rattle.std.proofs.Common.{◌≡◌, ℕ, zero, suc, ◌+◌, ◌-◌, ◌<◌, ◌≤◌, ◌↔◌, Bool, true, false, List, [], ◌∷◌, All, Contains, slice_index_or, refl, subst, arith, zero-add}
use Rattle.std.specs.List.Sorted.{IsStrictlyIncreasing}
use Rattle.std.proofs.lemmas.List.Elements.{All-nil, All-cons, All-weaker, All-contains}
use Rattle.regex_search_core.specs.PatternSets.{places_from, patterns_of}

-- a place from n on that holds true
abbrev pub HoldsFrom : ℕ → List Bool → ℕ → Type 0
HoldsFrom n bs p = (n ≤ p) × (slice_index_or bs (p - n) false ≡ true)

-- a place after the first
one_later : (n : ℕ) (b : Bool) (bs : List Bool) (p : ℕ) → HoldsFrom (n + 1) bs p → HoldsFrom n (b ∷ bs) p
one_later n b bs p h =
    let at : p - n ≡ suc (p - (n + 1)) = omega (arith, h.0) in
    (omega (arith, h.0), rw at h.1)

-- each of the places holds true
pub places_from_hold : (n : ℕ) (bs : List Bool) → All (HoldsFrom n bs) (places_from n bs)
places_from_hold n [] = All-nil (HoldsFrom n [])
places_from_hold n (true ∷ bs) =
    All-cons (HoldsFrom n (true ∷ bs)) n (places_from (n + 1) bs) (omega arith, here)
    (All-weaker (HoldsFrom (n + 1) bs) (HoldsFrom n (true ∷ bs)) (one_later n true bs) (places_from (n + 1) bs)
    (places_from_hold (n + 1) bs))
  where
    here : slice_index_or (true ∷ bs) (n - n) false ≡ true
    here = let at : n - n ≡ 0 = omega arith in rw at refl
places_from_hold n (false ∷ bs) =
    All-weaker (HoldsFrom (n + 1) bs) (HoldsFrom n (false ∷ bs)) (one_later n false bs) (places_from (n + 1) bs)
    (places_from_hold (n + 1) bs)

-- a number after the first
later : (x : ℕ) (xs : List ℕ) (p q : ℕ) → p ≡ q → Contains xs p → Contains (x ∷ xs) q
later x xs p q e h =
    let at : Contains xs q = subst (Contains xs) e h in
    (suc at.0, omega (arith, at.1), at.2)

-- each place that holds true is among them
pub places_from_contain : (n : ℕ) (bs : List Bool) (i : ℕ) → slice_index_or bs i false ≡ true
    → Contains (places_from n bs) (n + i)
places_from_contain n [] i h = absurd cc
places_from_contain n (true ∷ bs) zero h = (0, omega arith, omega arith)
places_from_contain n (false ∷ bs) zero h = absurd cc
places_from_contain n (true ∷ bs) (suc i) h =
    later n (places_from (n + 1) bs) (n + 1 + i) (n + suc i) (omega arith) (places_from_contain (n + 1) bs i h)
places_from_contain n (false ∷ bs) (suc i) h =
    let same : n + 1 + i ≡ n + suc i = omega arith in
    subst (Contains (places_from (n + 1) bs)) same (places_from_contain (n + 1) bs i h)

-- a number is one of the patterns exactly if its index holds true
pub patterns_of_contain : (which : List Bool) (p : ℕ)
    → Contains (patterns_of which) p ↔ (slice_index_or which p false ≡ true)
patterns_of_contain which p = (
  λ among. let held = All-contains (HoldsFrom 0 which) (patterns_of which) p (places_from_hold 0 which) among in
      let same : p - 0 ≡ p = omega arith in rw same at held.1,
  λ holds. let at : Contains (patterns_of which) (0 + p) = places_from_contain 0 which p holds in rw (zero-add p) at at,
)

-- a number below rising ones, and then these, rise
rise_later : (x : ℕ) (xs : List ℕ) → All (λ p. x < p) xs → IsStrictlyIncreasing xs → IsStrictlyIncreasing (x ∷ xs)
rise_later x xs below rest zero h = below 0 0 (omega arith)
rise_later x xs below rest (suc k) h =
    let same : suc k + 1 ≡ suc (k + 1) = omega arith in rw same (rest k (omega arith))

-- they rise
pub places_from_rise : (n : ℕ) (bs : List Bool) → IsStrictlyIncreasing (places_from n bs)
places_from_rise n [] = λ k h. absurd (omega arith)
places_from_rise n (true ∷ bs) =
    rise_later n (places_from (n + 1) bs)
    (All-weaker (HoldsFrom (n + 1) bs) (λ p. n < p) (λ p h. omega (arith, h.0)) (places_from (n + 1) bs)
    (places_from_hold (n + 1) bs))
    (places_from_rise (n + 1) bs)
places_from_rise n (false ∷ bs) = places_from_rise (n + 1) bs

pub patterns_of_rise : (which : List Bool) → IsStrictlyIncreasing (patterns_of which)
patterns_of_rise which = places_from_rise 0 which

-- the patterns of a set ascend, and are exactly those that the set holds
pub ruleset patterns_in_set = (patterns_of_rise, patterns_of_contain)
