-- What a set of patterns holds, full sets, and the patterns of the match pairs that are reached.
use Rattle.regex_search_core.specs.declared.search.MatchKind.TheVariants.{All}
use Rattle.nfa_paths.proofs.KindsLemmas.{IsFrontier-pairs}
use Rattle.nfa_paths.proofs.ScanLemmas.{NoneBefore-start}
use Rattle.nfa_paths.proofs.Common.{◌≡◌, ℕ, zero, suc, ◌+◌, ◌<◌, ◌⊎◌, ◌↔◌, Bool, true, false, List, [], ◌∷◌, length, refl, arith, set, rules, cond, sum_by-cons, count_by-le-length, with_pattern, size_of_set, Search, Automaton, HoldsPattern, IsOverlapResult, LeftmostFirst, ◌≤◌, inl, inr, Option, cases_lt, Pair, Space, In, WantedAt, Slots, Passes, IsReached, ReachedBefore, HoldsMatch, Scanned, IsFrontier}

size-cons : (b : Bool) (bs : List Bool) → size_of_set (b ∷ bs) ≡ cond b 1 0 + size_of_set bs
size-cons b bs = sum_by-cons (λ (c : Bool). cond c 1 0) b bs

-- a full set holds each pattern below its capacity
pub full-holds : (set : List Bool) → size_of_set set ≡ length set → (k : ℕ) → k < length set → HoldsPattern set k
full-holds [] full k lt = absurd (omega (arith, lt))
full-holds (false ∷ bs) full k lt = grind (arith, count_by-le-length)
full-holds (true ∷ bs) full zero lt = refl
full-holds (true ∷ bs) full (suc k) lt =
    let e : size_of_set (true ∷ bs) ≡ 1 + size_of_set bs = size-cons true bs in
    full-holds bs (omega (arith, e, full)) k (omega (arith, lt))

-- a full set gains none
pub full-gains : (nfa : Automaton) (x : Search) (earliest : Bool) (set : List Bool) → size_of_set set ≡ length set
    → IsOverlapResult nfa x All earliest set set
full-gains nfa x earliest set full = grind (arith, full-holds)

-- with room for none the first match gains none
pub first-gains : (nfa : Automaton) (x : Search) (earliest : Bool) (set : List Bool) → size_of_set set ≡ length set
    → size_of_set set ≡ 0
    → IsOverlapResult nfa x LeftmostFirst earliest set set
first-gains nfa x earliest set full empty = grind arith

-- a set of no pattern holds none
pub size-none : (set : List Bool) → size_of_set set ≡ 0 → (k : ℕ) → HoldsPattern set k → ⊥
size-none [] e k h = cc
size-none (true ∷ bs) e k h = absurd (omega (arith, size-cons true bs))
size-none (false ∷ bs) e zero h = cc
size-none (false ∷ bs) e (suc k) h = grind (arith, size-none bs)

-- and a set that holds none is of no pattern
pub size-empty : (set : List Bool) → ((k : ℕ) → HoldsPattern set k → ⊥) → size_of_set set ≡ 0
size-empty [] none = refl
size-empty (true ∷ bs) none = absurd (none zero refl)
size-empty (false ∷ bs) none = let r = size-empty bs (λ k h. none (suc k) h) in grind (arith, r)

-- what a set holds is below its capacity
pub holds-below : (set : List Bool) (k : ℕ) → HoldsPattern set k → k < length set
holds-below [] k h = cc
holds-below (b ∷ bs) k h = grind (arith, holds-below bs)

-- one more pattern keeps the capacity
pub length-with : (set : List Bool) (p : ℕ) → length (with_pattern set p) ≡ length set
length-with set p = search rules

-- what the set holds with one more pattern
pub holds-with : (set : List Bool) (p k : ℕ)
    → HoldsPattern (with_pattern set p) k ↔ (HoldsPattern set k ⊎ ((k < length set) × (p ≡ k)))
holds-with set p k = search rules

-- the patterns that are reached by the pairs of another set
pub IsReached-along : {edges : Pair → List Pair} {starts : List Pair} {P Q : Pair → Type 0}
    {pattern : Pair → Option ℕ} {k : ℕ}
    → ((v : Pair) → P v → Q v) → IsReached edges starts P pattern k → IsReached edges starts Q pattern k
IsReached-along to r = grind arith

module _ (space : Space) (resting is_match : Pair → Bool) (slots : Slots) (shape : Scanned space resting is_match) where
  module _ (pattern : Pair → Option ℕ) (k : ℕ) where
    -- at one position: those of the match pairs of its front
    pub IsReached-at : {turns e : ℕ} {front : List (Pair × Slots)}
        → IsFrontier space resting is_match slots turns front e
        → IsReached space.edges space.starts (WantedAt (Passes is_match) e) pattern k
        ↔ HoldsMatch is_match pattern k front
    IsReached-at {turns} {e} f = (
      λ r.
          let a = (IsFrontier-pairs space resting is_match slots turns shape f r.end r.wanted).0 (r.along, r.path) in
          record { item = a.0; among = a.1; matches = rw a.2 r.wanted.wanted; pattern_is = rw a.2 r.pattern_is },
      λ a.
          let h : WantedAt (Passes is_match) e a.item.0 =
          record { wanted = a.matches; at = (f.rest a.item a.among).1 } in
          let w = (IsFrontier-pairs space resting is_match slots turns shape f a.item.0 h).1 (a.item, a.among, refl) in
          record { end = a.item.0; along = w.0; path = w.1; wanted = h; pattern_is = a.pattern_is },
    )

    -- before the first start none
    pub ReachedBefore-start : (e : ℕ) → ((s : Pair) → In s space.starts → e ≤ s.1)
        → ReachedBefore space is_match pattern e k → ⊥
    ReachedBefore-start e from r =
        NoneBefore-start space resting is_match slots shape e from r.end r.along r.path r.wanted

    -- before the next position: what was reached before, and the match pairs of the front
    pub ReachedBefore-step : {turns e : ℕ} {front : List (Pair × Slots)}
        → IsFrontier space resting is_match slots turns front e
        → ReachedBefore space is_match pattern (e + 1) k
        ↔ (ReachedBefore space is_match pattern e k ⊎ HoldsMatch is_match pattern k front)
    ReachedBefore-step {e = e} f = (
      λ r.
          elim (cases_lt r.end.1 e) [
            | inl less ↦ grind arith
            | inr more ↦
                let b : r.end.1 < e + 1 = r.wanted.before in
                inr ((IsReached-at f).0 (grind arith))
          ],
      λ s.
          elim s [
            | inl r ↦ grind arith
            | inr a ↦
                let r = (IsReached-at f).1 a in
                grind arith
          ],
    )
