-- The first accepting path, and what marks change of it.
use Rattle.nfa_paths.proofs.Common.{◌≡◌, ◌<◌, ◌⊎◌, inl, inr, ◌↔◌, Bool, true, false, List, [], ◌∷◌, refl, arith, Option, None, Some, option_map, Pair, In, Earlier, BeforeAfter, Before, Path, Accepts, IsFirst, FirstAmong, IsFirstOfAll, Increasing, HeadIs, NoRepeats, Linked, StopsAtTarget, stop, go}

-- two pairs are one, or they differ
pub same : (a b : Pair) → (a ≡ b) ⊎ ¬ (a ≡ b)
same a b = grind arith

-- the order

-- no pair comes before itself
pub Earlier-irreflexive : (es : List Pair) (a : Pair) → Earlier es a a → ⊥
Earlier-irreflexive [] a h = h
Earlier-irreflexive (e ∷ es) a h = elim h.1 [ inl here ↦ h.0 here | inr later ↦ Earlier-irreflexive es a later ]

-- of two pairs, only one comes before the other
Earlier-asymmetric : (es : List Pair) (a b : Pair) → Earlier es a b → Earlier es b a → ⊥
Earlier-asymmetric [] a b h k = h
Earlier-asymmetric (e ∷ es) a b h k = grind (arith, Earlier-asymmetric es a b)

-- of two different pairs of a list, one comes before the other
pub Earlier-total : (es : List Pair) (a b : Pair) → ¬ (a ≡ b) → In a es → In b es → Earlier es a b ⊎ Earlier es b a
Earlier-total [] a b apart i j = absurd i
Earlier-total (e ∷ es) a b apart i j = grind (arith, Earlier-total es a b apart)

-- what comes earlier in an ascending list is at a smaller position
pub Earlier-increasing : (es : List Pair) (a b : Pair) → Increasing es → Earlier es a b → In b es → a.1 < b.1
Earlier-increasing [] a b rise h i = absurd i
Earlier-increasing (e ∷ es) a b rise h i = grind (arith, Earlier-increasing es a b)

module _ (edges : Pair → List Pair) where
  -- of two lists that follow a pair, only one comes before the other
  BeforeAfter-asymmetric : (v : Pair) (p q : List Pair) → BeforeAfter edges v p q → BeforeAfter edges v q p → ⊥
  BeforeAfter-asymmetric v [] q h k = h
  BeforeAfter-asymmetric v (a ∷ p) [] h k = h
  BeforeAfter-asymmetric v (a ∷ p) (b ∷ q) h k = grind (arith, Earlier-asymmetric, BeforeAfter-asymmetric a p q)

  -- of two lists, only one comes before the other
  pub Before-asymmetric : (p q : List Pair) → Before edges p q → Before edges q p → ⊥
  Before-asymmetric = grind (arith, BeforeAfter-asymmetric)

module _ (edges : Pair → List Pair) (target : Pair → Bool) where
  -- paths

  -- a path holds its first pair
  pub Path-head : {v : Pair} {p : List Pair} → Path edges target v p → In v p
  Path-head = grind arith

  -- each pair of a path has a path of its own in it
  Path-suffix : {u v : Pair} {p : List Pair} → Path edges target v p → In u p
      → (q : List Pair) × Path edges target u q × ((x : Pair) → In x q → In x p)
  Path-suffix {u} (stop {v = v} t) i = (v ∷ [], elim i [ inl e ↦ rw e (stop t) | inr never ↦ absurd never ], λ x h. h)
  Path-suffix {u} (go {v = v} {p = p} t e n h) i =
      elim i [
        | inl here ↦ (v ∷ p, rw here (go t e n h), λ x h. h)
        | inr later ↦ let r = Path-suffix h later in (r.0, r.1, λ x j. inr (r.2 x j))
      ]

  -- a path in plain words
  Path-words : {v : Pair} {p : List Pair} → Path edges target v p → HeadIs v p × NoRepeats p × Linked edges p
      × StopsAtTarget target p
  Path-words (stop t) = grind arith
  Path-words (go t e n h) = let r = Path-words h in grind arith

  -- a list that the plain words describe is a path
  Path-from_words : (v : Pair) (p : List Pair) → HeadIs v p → NoRepeats p → Linked edges p → StopsAtTarget target p
      → Path edges target v p
  Path-from_words v [] h n l s = absurd h
  Path-from_words v (x ∷ []) h n l s = rw (← h) (stop s)
  Path-from_words v (x ∷ (y ∷ p)) h n l s = rw (← h) (go s.0 l.0 n.0 (Path-from_words y (y ∷ p) refl n.1 l.1 s.1))

  -- a path, and the plain words for it
  pub Path-plain : (v : Pair) (p : List Pair)
      → Path edges target v p ↔ (HeadIs v p × NoRepeats p × Linked edges p × StopsAtTarget target p)
  Path-plain v p = (λ h. Path-words h, λ w. Path-from_words v p w.0 w.1 w.2 w.3)

  -- the order of two paths after v
  Before-cons : {v w x : Pair} {p q : List Pair} → Path edges target w p → Path edges target x q
      → Earlier (edges v) w x ⊎ Before edges p q → Before edges (v ∷ p) (v ∷ q)
  Before-cons = grind arith

  -- of two paths from one pair, one is before the other
  pub Before-total : {v : Pair} {p q : List Pair} → Path edges target v p → Path edges target v q
      → (p ≡ q) ⊎ (Before edges p q ⊎ Before edges q p)
  Before-total (stop t) (stop u) = inl refl
  Before-total (stop t) (go u e n k) = cc
  Before-total (go t e n k) (stop u) = cc
  Before-total (go {v = v} {w = a} {p = p} t e n k) (go {w = b} {p = q} u f m l) =
      elim (same a b) [
        | inl eq ↦ grind (arith, Before-total k (rw (← eq) at l))
        | inr apart ↦ grind (arith, Before-cons, Earlier-total)
      ]

  -- a pair with no edge that is not a target, marked or not
  pub IsFirst-dead : (marks : List Pair) (v : Pair) → target v ≡ false → edges v ≡ []
      → IsFirst edges target marks v None
  IsFirst-dead marks v plain leads p a = grind arith

  -- an unmarked target is its own first path
  pub IsFirst-target : (marks : List Pair) (v : Pair) → ¬ (In v marks) → target v ≡ true
      → IsFirst edges target marks v (Some (v ∷ []))
  IsFirst-target marks v free t = (
    record {
      path = stop t;
      clear =
          λ x i. elim i [ inl e ↦ rw e free | inr never ↦ absurd never ];
    },
    λ q a. only a.path t,
  )
    where
      only : {u : Pair} {q : List Pair} → Path edges target u q → target u ≡ true
          → (q ≡ u ∷ []) ⊎ Before edges (u ∷ []) q
      only (stop t) u = inl refl
      only (go t e n h) u = cc

  -- the first that is found among several starts is the first of all
  pub IsFirstOfAll-from_among : (marks es : List Pair) (r : Option (List Pair)) → FirstAmong edges target marks es r
      → IsFirstOfAll edges target marks es r
  IsFirstOfAll-from_among marks [] r h = grind arith
  IsFirstOfAll-from_among marks (e ∷ es) r h = grind (arith, IsFirstOfAll-from_among marks es r)

  -- one step along the edges of an unmarked pair that is not a target
  module _ (marks : List Pair) (v : Pair) (free : ¬ (In v marks)) (plain : target v ≡ false) where
    -- a path from v goes on from one of its edges, clear of v
    Accepts-rest : (q : List Pair) → Accepts edges target marks v q
        → (w : Pair) × (p : List Pair) × In w (edges v) × Accepts edges target (v ∷ marks) w p × (q ≡ v ∷ p)
    Accepts-rest q a = grind arith

    -- the first path goes on by the first edge that has one
    pub IsFirst-step : (r : Option (List Pair)) → FirstAmong edges target (v ∷ marks) (edges v) r
        → IsFirst edges target marks v (option_map (λ p. v ∷ p) r)
    IsFirst-step None f =
        λ q a. let s = Accepts-rest q a in IsFirstOfAll-from_among (v ∷ marks) (edges v) None f s.0 s.2 s.1 s.3
    IsFirst-step (Some p) f =
        let b = IsFirstOfAll-from_among (v ∷ marks) (edges v) (Some p) f in (
          record {
            path = go plain b.1 (λ i. b.2.clear v i (inl refl)) b.2.path;
            clear = λ x i m. elim i [ inl here ↦ free (rw here at m) | inr later ↦ b.2.clear x later (inr m) ];
          },
          grind (arith, Accepts-rest, Before-cons),
        )

  -- marks with the same paths
  IsFirst-along : (m n : List Pair) (v : Pair)
      → ((p : List Pair) → Accepts edges target m v p → Accepts edges target n v p)
      → ((p : List Pair) → Accepts edges target n v p → Accepts edges target m v p)
      → (r : Option (List Pair)) → IsFirst edges target m v r → IsFirst edges target n v r
  IsFirst-along = grind arith

  -- marking a pair that leads to no target changes no other pair's first path
  pub IsFirst-mark : (marks : List Pair) (v : Pair) → IsFirst edges target marks v None
      → (k : Pair) (r : Option (List Pair)) → IsFirst edges target (v ∷ marks) k r ↔ IsFirst edges target marks k r
  IsFirst-mark marks v none k r = grind (arith, IsFirst-along, Path-suffix)

  -- marks outside a set that no edge leaves
  module _ (ahead : Pair → Type 0) (closed : (x y : Pair) → ahead x → In y (edges x) → ahead y) where
    -- a path from a pair ahead stays ahead
    Path-ahead : {v : Pair} {p : List Pair} → Path edges target v p → ahead v → (x : Pair) → In x p → ahead x
    Path-ahead (stop t) a x i = elim i [ inl here ↦ rw here a | inr never ↦ absurd never ]
    Path-ahead (go {v = v} {w = w} t e n h) a x i =
        elim i [ inl here ↦ rw here a | inr later ↦ Path-ahead h (closed v w a e) x later ]

    -- marks that agree on what is ahead
    pub IsFirst-ahead : (m n : List Pair) → ((x : Pair) → ahead x → In x m → In x n)
        → ((x : Pair) → ahead x → In x n → In x m)
        → (k : Pair) → ahead k → (r : Option (List Pair)) → IsFirst edges target m k r → IsFirst edges target n k r
    IsFirst-ahead m n to back k a = grind (arith, Path-ahead)

    -- a pair that is left for pairs ahead of every mark, and is itself unmarked
    pub IsFirst-resting : (marks : List Pair) (v : Pair) → ¬ (In v marks) → ((w : Pair) → In w (edges v) → ahead w)
        → ((x : Pair) → In x marks → ahead x → ⊥)
        → (r : Option (List Pair)) → IsFirst edges target [] v r ↔ IsFirst edges target marks v r
    IsFirst-resting marks v free leaves past r = grind (arith, IsFirst-along, Path-ahead)
