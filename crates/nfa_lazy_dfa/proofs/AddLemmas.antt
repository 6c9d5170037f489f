-- Patterns that are added to a set, one after the other.
use Rattle.nfa_paths.proofs.Common.{◌≡◌, ℕ, ◌<◌, ◌⊎◌, ◌↔◌, inl, inr, Bool, true, false, List, [], ◌∷◌, ◌++◌, length, refl, sym, ◌∙◌, Option, None, Some, if◌then◌else◌, is_some, nat_lt, cases_lt, le-ltb, lt-ltb, with_pattern, In, HoldsPattern}
use Rattle.nfa_paths.proofs.MemberLemmas.{In-append, In-append_left, In-append_right}
use Rattle.nfa_paths.proofs.SetLemmas.{holds-with, length-with}
use Rattle.nfa_lazy_dfa.specs.Sets.{AddsEach}

-- the answer of an insertion says whether the pattern is below the capacity
pub below-of : (k n : ℕ) (r : Option Bool) (v : Bool) → r ≡ (if nat_lt k n then Some v else None) → is_some r ≡ true
    → k < n
below-of k n r v is some =
    elim (cases_lt k n) [
      | inl less ↦ less
      | inr more ↦
          let none : r ≡ None = rw (le-ltb k n more) at is in
          let never : false ≡ true = rw none at some in
          absurd (cc never)
    ]

pub not-below : (k n : ℕ) (r : Option Bool) (v : Bool) → r ≡ (if nat_lt k n then Some v else None) → is_some r ≡ false
    → k < n → ⊥
not-below k n r v is none less =
    let some : r ≡ Some v = rw (lt-ltb k n less) at is in
    let never : true ≡ false = rw some at none in
    absurd (cc never)

module _ (hits : List ℕ) (old mid : List Bool) (met : Bool) (k : ℕ) (e : AddsEach hits old met mid) where
  gained : (j : ℕ) → HoldsPattern (with_pattern mid k) j
      ↔ (HoldsPattern old j ⊎ ((j < length old) × In j (hits ++ k ∷ [])))
  gained j = (
    λ h. elim ((holds-with mid k j).0 h) [
      | inl m ↦ elim ((e.gained j).0 m) [
        | inl o ↦ inl o
        | inr w ↦ inr (w.0, In-append_left j hits (k ∷ []) w.1)
      ]
      | inr w ↦ inr (rw (← e.capacity) w.0, In-append_right j hits (k ∷ []) (inl (sym w.1)))
    ],
    λ s. elim s [
      | inl o ↦ (holds-with mid k j).1 (inl ((e.gained j).1 (inl o)))
      | inr w ↦ elim (In-append j hits (k ∷ []) w.1) [
        | inl i ↦ (holds-with mid k j).1 (inl ((e.gained j).1 (inr (w.0, i))))
        | inr i ↦ elim i [
          | inl same ↦ (holds-with mid k j).1 (inr (rw e.capacity w.0, sym same))
          | inr never ↦ absurd never
        ]
      ]
    ],
  )

  pub AddsEach-in : k < length mid → AddsEach (hits ++ k ∷ []) old true (with_pattern mid k)
  AddsEach-in less = record {
    capacity = length-with mid k ∙ e.capacity;
    gained = gained;
    some = λ is. (k, rw (← e.capacity) less, In-append_right k hits (k ∷ []) (inl refl));
    none = λ never. absurd (cc never);
  }

  pub AddsEach-out : (k < length mid → ⊥) → AddsEach (hits ++ k ∷ []) old met (with_pattern mid k)
  AddsEach-out out = record {
    capacity = length-with mid k ∙ e.capacity;
    gained = gained;
    some = λ is. let s = e.some is in (s.0, s.1, In-append_left s.0 hits (k ∷ []) s.2);
    none = λ is j less i.
        elim (In-append j hits (k ∷ []) i) [
          | inl before ↦ e.none is j less before
          | inr now ↦ elim now [
            | inl same ↦ out (rw e.capacity (rw same at less))
            | inr never ↦ never
          ]
        ];
  }
