-- The rows that a cache remembers, as rows are added and one is remembered.
use Rattle.nfa_paths.proofs.Common.{ℕ_discrete, ◌≡◌, ℕ, ◌<◌, ◌≢◌, Bool, true, false, List, [], ◌∷◌, ◌++◌, length, get_or, set, refl, ap, sym, ◌∙◌, arith, get_or-set_same, get_or-set_other, length-set, get_or-replicate, length-replicate, replicate, Option, Some, slice_get}
use Rattle.nfa_lazy_dfa.specs.Firsts.{AreFirsts, IsFirstPlace, before_in, first_place}
use Rattle.nfa_lazy_dfa.specs.Stances.{Stance, first_stance}
use Rattle.nfa_lazy_dfa.proofs.RowLemmas.{get-left}

first-below : (kind : ℕ) (more : Bool) → kind < 5 → first_place kind more < 10
first-below kind true low = omega arith
first-below kind false low = omega arith

-- two searches of one place are of one kind
first-kind : (k j : ℕ) (m n : Bool) → k < 5 → j < 5 → first_place k m ≡ first_place j n → k ≡ j
first-kind k j true true low less e = omega arith
first-kind k j true false low less e = omega arith
first-kind k j false true low less e = omega arith
first-kind k j false false low less e = omega arith

first-more : (k j : ℕ) (m n : Bool) → k < 5 → j < 5 → first_place k m ≡ first_place j n → m ≡ n
first-more k j true true low less e = refl
first-more k j true false low less e = absurd (omega arith)
first-more k j false true low less e = absurd (omega arith)
first-more k j false false low less e = refl

-- nothing is remembered
pub AreFirsts-none : (start : ℕ) (stances : List Stance) → AreFirsts start stances (replicate 10 0xFFFF_FFFF)
AreFirsts-none start stances = record {
  count = let row : ℕ = 0xFFFF_FFFF in length-replicate 10 row;
  are = λ kind more low known.
      let row : ℕ = 0xFFFF_FFFF in
      absurd (known (get_or-replicate 10 (first_place kind more) row 0 (first-below kind more low)));
}

module _ (start : ℕ) (stances : List Stance) (firsts : List ℕ) (are : AreFirsts start stances firsts) where
  -- the row of such a search
  pub first-is : (before : Option ℕ) (more : Bool) (place : ℕ) → IsFirstPlace before more place
      → get_or firsts place 0 ≢ 0xFFFF_FFFF
      → slice_get stances (get_or firsts place 0) ≡ Some (first_stance start before more)
  first-is before more place is known =
      let same : get_or firsts (first_place is.kind more) 0 ≡ get_or firsts place 0 =
      ap (λ (k : ℕ). get_or firsts k 0) (sym is.place_is) in
      ap (slice_get stances) (sym same) ∙ are.are is.kind more is.low (λ e. known (sym same ∙ e))
      ∙ ap (λ (b : Option ℕ). Some (first_stance start b more)) is.before_is

  -- with a row more
  pub AreFirsts-add : (t : Stance) → AreFirsts start (stances ++ t ∷ []) firsts
  AreFirsts-add t = record {
    count = are.count;
    are = λ kind more low known.
        get-left stances (t ∷ []) (get_or firsts (first_place kind more) 0) (first_stance start (before_in kind) more)
        (are.are kind more low known);
  }

  -- a row is remembered
  pub AreFirsts-set : (before : Option ℕ) (more : Bool) (place row : ℕ) → IsFirstPlace before more place
      → slice_get stances row ≡ Some (first_stance start before more) → AreFirsts start stances (set firsts place row)
  AreFirsts-set before more place row is known = record {
    count = simp length-set are.count;
    are = λ kind m low found.
        elim (ℕ_discrete (first_place kind m) place) [
          | yes e ↦
              let inside : place < length firsts =
              let below : first_place kind m < 10 = first-below kind m low in omega (arith, are.count) in
              let wrote : get_or (set firsts place row) (first_place kind m) 0 ≡ row =
              ap (λ (k : ℕ). get_or (set firsts place row) k 0) e ∙ get_or-set_same firsts place row 0 inside in
              let both : first_place kind m ≡ first_place is.kind more = e ∙ is.place_is in
              let same_kind = first-kind kind is.kind m more low is.low both in
              let same_more = first-more kind is.kind m more low is.low both in
              ap (slice_get stances) wrote ∙ known
              ∙ ap (λ (b : Option ℕ). Some (first_stance start b more)) (sym is.before_is)
              ∙ ap (λ (k : ℕ). Some (first_stance start (before_in k) more)) (sym same_kind)
              ∙ ap (λ (n : Bool). Some (first_stance start (before_in kind) n)) (sym same_more)
          | no n ↦
              let kept : get_or (set firsts place row) (first_place kind m) 0 ≡ get_or firsts (first_place kind m) 0 =
              get_or-set_other firsts place (first_place kind m) row 0 n in
              ap (slice_get stances) kept ∙ are.are kind m low (λ e. found (kept ∙ e))
        ];
  }
