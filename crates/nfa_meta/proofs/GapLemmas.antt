-- The first matches of an input that is a whole text, in the words of texts.
use Rattle.nfa_paths.proofs.Common.{◌≡◌, ◌∙◌, ◌⊎◌, ◌<◌, ◌+◌, ◌-◌, ℕ, List, arith, inl, inr, length, map, subst, length-map, found_of, Search, whole, Match}
use Rattle.nfa_search_base.specs.Common.{AreFirstMatches, AreMatches}
use Rattle.nfa_choice.specs.ChoiceState.{ChoiceState, kind_in}
use Rattle.nfa_meta.specs.Gaps.{AreAllOf, AreFirstOf}

module _ (r : ChoiceState) (text : List ℕ) {x : Search} (is : x ≡ whole text) (ms : List Match) where
  -- they are the first ones of the text
  pub first-of : AreFirstMatches r.nfa (kind_in r) x.earliest x (map found_of ms) → AreFirstOf r text (map found_of ms)
  first-of h = subst (λ (y : Search). AreFirstMatches r.nfa (kind_in r) y.earliest y (map found_of ms)) is h

  -- they are all of the text
  pub all-of : AreMatches r.nfa (kind_in r) x.earliest x (map found_of ms) → AreAllOf r text (map found_of ms)
  all-of h = subst (λ (y : Search). AreMatches r.nfa (kind_in r) y.earliest y (map found_of ms)) is h

  -- they are as many as n, or all
  pub as-many : (n : ℕ) → (length ms ≡ n) ⊎ AreMatches r.nfa (kind_in r) x.earliest x (map found_of ms)
      → (length (map found_of ms) ≡ n) ⊎ AreAllOf r text (map found_of ms)
  as-many n (inl e) = inl (length-map ms found_of ∙ e)
  as-many n (inr h) = inr (all-of h)

  -- they are the first ones, and one fewer than n, or all
  pub first-fewer : (n : ℕ) → 0 < n → AreFirstMatches r.nfa (kind_in r) x.earliest x (map found_of ms)
      → (length ms ≡ n - 1) ⊎ AreMatches r.nfa (kind_in r) x.earliest x (map found_of ms)
      → AreFirstOf r text (map found_of ms)
      × ((length (map found_of ms) + 1 ≡ n) ⊎ AreAllOf r text (map found_of ms))
  first-fewer n some first (inl e) = (first-of first, inl (omega (arith, some, e, length-map ms found_of)))
  first-fewer n some first (inr h) = (first-of first, inr (all-of h))
