-- The first and the last match pair of a front.
use Rattle.nfa_paths.proofs.Common.{◌≡◌, ◌⊎◌, inl, inr, Bool, true, List, [], ◌∷◌, ◌++◌, refl, ap, sym, arith, None, Some, cases_Bool, Pair, In, Slots, Hit, NoMatch, first_match, before_match, last_match}

module _ (is_match : Pair → Bool) where
  -- a match pair of the list, with none before it
  pub record FirstMatch (front : List (Pair × Slots)) (a : Pair × Slots) : Type 0 where
    pub before : List (Pair × Slots)
    pub after : List (Pair × Slots)
    pub split : front ≡ before ++ a ∷ after
    pub plain : (b : Pair × Slots) → In b before → is_match b.0 ≡ true → ⊥
    pub matches : is_match a.0 ≡ true

  -- the same with none after it
  pub record LastMatch (front : List (Pair × Slots)) (a : Pair × Slots) : Type 0 where
    pub before : List (Pair × Slots)
    pub after : List (Pair × Slots)
    pub split : front ≡ before ++ a ∷ after
    pub plain : (b : Pair × Slots) → In b after → is_match b.0 ≡ true → ⊥
    pub matches : is_match a.0 ≡ true

  -- a front's last match pair, or that there is none
  pub last_match-is : (g : Hit) (front : List (Pair × Slots))
      → ((last_match is_match g front ≡ g) × NoMatch is_match front)
      ⊎ ((a : Pair × Slots) × (last_match is_match g front ≡ Some a) × LastMatch front a)
  last_match-is g [] = inl (refl, λ b i. absurd i)
  last_match-is g (a ∷ front) =
      elim (cases_Bool (is_match a.0)) [
        | inl t ↦
            elim (last_match-is (Some a) front) [
              | inl none ↦ inr (
                a,
                rw t none.0,
                record
                    { before = []; after = front; split = refl; plain = none.1; matches = t },
              )
              | inr some ↦ inr (some.0, rw t some.1, later some.2)
            ]
        | inr f ↦ grind (arith, later, last_match-is g front)
      ]
    where
      later : {b : Pair × Slots} → LastMatch front b → LastMatch (a ∷ front) b
      later h = record {
        before = a ∷ h.before;
        after = h.after;
        split = ap (λ x. a ∷ x) h.split;
        plain = h.plain;
        matches = h.matches;
      }

  -- no match pair comes before the first
  pub before_match-plain : (front : List (Pair × Slots)) → NoMatch is_match (before_match is_match front)
  before_match-plain [] = λ b i t. i
  before_match-plain (a ∷ front) = grind (arith, before_match-plain front)

  -- what comes before it is in the front
  pub before_match-among : (front : List (Pair × Slots)) (b : Pair × Slots) → In b (before_match is_match front)
      → In b front
  before_match-among [] b = λ i. i
  before_match-among (a ∷ front) b = grind (arith, before_match-among front b)

  -- the items before the first match pair, that pair, and the items after it
  pub record FirstCut (front : List (Pair × Slots)) (a : Pair × Slots) : Type 0 where
    pub after : List (Pair × Slots)
    pub split : front ≡ before_match is_match front ++ a ∷ after
    pub among : In a front
    pub matches : is_match a.0 ≡ true

  pub first_match-cut : (front : List (Pair × Slots)) (a : Pair × Slots) → first_match is_match front ≡ Some a
      → FirstCut front a
  first_match-cut [] a e = cc
  first_match-cut (b ∷ front) a e =
      elim (cases_Bool (is_match b.0)) [
        | inl t ↦
            let first : Some b ≡ Some a = rw t at e in
            let same : b ≡ a = cc in
            record {
              after = front;
              split = rw t (ap (λ (c : Pair × Slots). c ∷ front) same);
              among = inl (sym same);
              matches = rw (← same) t;
            }
        | inr f ↦ grind (arith, first_match-cut front a (rw f at e))
      ]

  -- if there is no match pair, all items come before the first
  pub before_match-all : (front : List (Pair × Slots)) → first_match is_match front ≡ None
      → before_match is_match front ≡ front
  before_match-all [] e = refl
  before_match-all (a ∷ front) e = grind (arith, before_match-all front)

  -- what is found first is the first match pair
  pub FirstMatch-found : (front : List (Pair × Slots)) (a : Pair × Slots) → first_match is_match front ≡ Some a
      → FirstMatch front a
  FirstMatch-found front a e =
      let cut = first_match-cut front a e in
      record {
        before = before_match is_match front;
        after = cut.after;
        split = cut.split;
        plain = before_match-plain front;
        matches = cut.matches;
      }

  -- a front's first match pair, or that there is none
  pub first_match-is : (front : List (Pair × Slots))
      → ((first_match is_match front ≡ None) × NoMatch is_match front)
      ⊎ ((a : Pair × Slots) × (first_match is_match front ≡ Some a) × FirstMatch front a)
  first_match-is front = of (first_match is_match front) refl
    where
      of : (g : Hit) → first_match is_match front ≡ g → ((first_match is_match front ≡ None) × NoMatch is_match front)
          ⊎ ((a : Pair × Slots) × (first_match is_match front ≡ Some a) × FirstMatch front a)
      of None e = inl (e, rw (before_match-all front e) at (before_match-plain front))
      of (Some a) e = inr (a, e, FirstMatch-found front a e)
