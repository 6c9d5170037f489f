-- A list that has each state of another one.
use Rattle.nfa_paths.proofs.Common.{◌≡◌, ℕ, ◌+◌, ◌<◌, ◌≤◌, inl, inr, List, [], ◌∷◌, ◌++◌, length, get_or, take, ap, sym, ◌∙◌, subst, take_all, take_more, In}
use Rattle.nfa_paths.proofs.MemberLemmas.{In-append, In-append_left, In-append_right}

-- the first i states of the list are in the other one
pub record IsHeld (states : List ℕ) (i : ℕ) (once : List ℕ) : Type 0 where
  pub held : (q : ℕ) → In q (take i states) → In q once

pub IsHeld-begin : (states : List ℕ) → IsHeld states 0 []
IsHeld-begin states = record { held = λ q i. i }

module _ (states : List ℕ) (i : ℕ) (once : List ℕ) (s : ℕ) (within : i < length states) (at : s ≡ get_or states i s)
  where
    one-more : take (i + 1) states ≡ take i states ++ s ∷ []
    one-more = take_more states i s within ∙ ap (λ t. take i states ++ t ∷ []) (sym at)

    pub IsHeld-again : In s once → IsHeld states i once → IsHeld states (i + 1) once
    IsHeld-again there is = record {
      held = λ q j.
          elim (In-append q (take i states) (s ∷ []) (rw one-more at j)) [
            | inl old ↦ is.held q old
            | inr new ↦ elim new [ inl e ↦ subst (λ (t : ℕ). In t once) (sym e) there | inr k ↦ absurd k ]
          ];
    }

    pub IsHeld-push : IsHeld states i once → IsHeld states (i + 1) (once ++ s ∷ [])
    IsHeld-push is = record {
      held = λ q j.
          elim (In-append q (take i states) (s ∷ []) (rw one-more at j)) [
            | inl old ↦ In-append_left q once (s ∷ []) (is.held q old)
            | inr new ↦ In-append_right q once (s ∷ []) new
          ];
    }

pub IsHeld-end : (states once : List ℕ) (i : ℕ) → length states ≤ i → IsHeld states i once → (q : ℕ) → In q states
    → In q once
IsHeld-end states once i all is q j = is.held q (rw (take_all i states all) j)
