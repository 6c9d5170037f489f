-- Paths of a graph of pairs, which of two paths comes first, and the first path among those that avoid marked pairs.
-- Nothing here depends on a search.
use Rattle.std.specs.Prelude.{◌≡◌, ℕ, ◌≤◌, ◌<◌, ◌⊎◌, List, [], ◌∷◌, Option, None, Some, Bool, true, false}

-- a state and a position
abbrev pub Pair : Type 0
Pair = ℕ × ℕ

-- the element is in the list
abbrev pub In : {A : Type 0} → A → List A → Type 0
In x [] = ⊥
In x (y ∷ ys) = (x ≡ y) ⊎ In x ys

-- a is in the list, and no b comes before it or is equal to it: the first a comes before the first b
abbrev pub Earlier : List Pair → Pair → Pair → Type 0
Earlier [] a b = ⊥
Earlier (e ∷ es) a b = ¬ (e ≡ b) × ((e ≡ a) ⊎ Earlier es a b)

-- the list begins with the pair
abbrev pub HeadIs : Pair → List Pair → Type 0
HeadIs v [] = ⊥
HeadIs v (x ∷ p) = x ≡ v

-- no element is in the list twice
abbrev pub NoRepeats : {A : Type 0} → List A → Type 0
NoRepeats [] = Unit {0}
NoRepeats (x ∷ p) = ¬ (In x p) × NoRepeats p

-- each further pair is among the edges of the one before it
abbrev pub Linked : (Pair → List Pair) → List Pair → Type 0
Linked edges [] = Unit {0}
Linked edges (x ∷ []) = Unit {0}
Linked edges (x ∷ (y ∷ p)) = In y (edges x) × Linked edges (y ∷ p)

-- the pair is the last of the list
abbrev pub EndsWith : Pair → List Pair → Type 0
EndsWith m [] = ⊥
EndsWith m (x ∷ []) = x ≡ m
EndsWith m (x ∷ (y ∷ p)) = EndsWith m (y ∷ p)

-- the pair is wanted, and is at position e
pub record WantedAt (Wanted : Pair → Type 0) (e : ℕ) (m : Pair) : Type 0 where
  pub wanted : Wanted m
  pub at : m.1 ≡ e

-- what a search explores: the edges of each pair, the slot that a pair writes, and the starts of paths
pub record Space : Type 0 where
  pub edges : Pair → List Pair
  pub capture : Pair → Option ℕ
  pub starts : List Pair

module _ (edges : Pair → List Pair) where
  -- Two lists that follow v. Where they first differ, the first list takes the earlier edge.
  abbrev pub BeforeAfter : Pair → List Pair → List Pair → Type 0
  BeforeAfter v [] q = ⊥
  BeforeAfter v (a ∷ p) [] = ⊥
  BeforeAfter v (a ∷ p) (b ∷ q) = Earlier (edges v) a b ⊎ ((a ≡ b) × BeforeAfter a p q)

  -- Two lists that begin with the same pair. Where they first differ, the first list takes the earlier edge.
  abbrev pub Before : List Pair → List Pair → Type 0
  Before [] q = ⊥
  Before (x ∷ p) [] = ⊥
  Before (x ∷ p) (y ∷ q) = (x ≡ y) × BeforeAfter x p q

  -- p starts at the smaller position; or both begin with the same pair, and p takes the earlier edge where they first
  -- differ
  abbrev pub ComesBefore : List Pair → List Pair → Type 0
  ComesBefore [] q = ⊥
  ComesBefore (x ∷ p) [] = ⊥
  ComesBefore (x ∷ p) (y ∷ q) = (x.1 < y.1) ⊎ Before (x ∷ p) (y ∷ q)

module _ (edges : Pair → List Pair) (starts : List Pair) where
  -- the list is a path from one of the starts to the pair: it follows edges and contains no pair twice
  pub record PathTo (m : Pair) (p : List Pair) : Type 0 where
    pub start : Pair
    pub among : In start starts
    pub head : HeadIs start p
    pub once : NoRepeats p
    pub linked : Linked edges p
    pub ends : EndsWith m p

  module _ (Wanted : Pair → Type 0) where
    -- no path leads to a wanted pair
    abbrev pub NoPath : Type 0
    NoPath = (m : Pair) (p : List Pair) → PathTo m p → Wanted m → ⊥

    -- the first of all paths to wanted pairs
    pub record IsFirstTo (p : List Pair) : Type 0 where
      pub end : Pair
      pub path : PathTo end p
      pub wanted : Wanted end
      pub first : (m : Pair) (q : List Pair) → PathTo m q → Wanted m → (q ≡ p) ⊎ ComesBefore edges p q

    -- some path leads to a wanted pair at position e
    pub record IsEnd (e : ℕ) : Type 0 where
      pub end : Pair
      pub along : List Pair
      pub path : PathTo end along
      pub wanted : Wanted end
      pub at : end.1 ≡ e

    -- no path to a wanted pair ends before e, and one ends there
    pub record IsLeastEnd (e : ℕ) : Type 0 where
      pub is_end : IsEnd e
      pub least : (m : Pair) (p : List Pair) → PathTo m p → Wanted m → e ≤ m.1

    -- no path to a wanted pair ends after e, and one ends there
    pub record IsGreatestEnd (e : ℕ) : Type 0 where
      pub is_end : IsEnd e
      pub greatest : (m : Pair) (p : List Pair) → PathTo m p → Wanted m → m.1 ≤ e

  module _ (Wanted : Pair → Type 0) where
    -- Each wanted pair at e that some path reaches has a first path. Of these paths, p is the last.
    pub record IsLastOfFirsts (e : ℕ) (p : List Pair) : Type 0 where
      pub end : Pair
      pub wanted : WantedAt Wanted e end
      pub first : IsFirstTo (λ x. x ≡ end) p
      pub last : (m : Pair) (q : List Pair) → WantedAt Wanted e m → IsFirstTo (λ x. x ≡ m) q
          → (q ≡ p) ⊎ ComesBefore edges q p

    -- the first path, or none if there is none
    abbrev pub IsFirstPath : Option (List Pair) → Type 0
    IsFirstPath None = NoPath Wanted
    IsFirstPath (Some p) = IsFirstTo Wanted p

    -- of the paths with the least end, the first
    abbrev pub IsEarliestPath : Option (List Pair) → Type 0
    IsEarliestPath None = NoPath Wanted
    IsEarliestPath (Some p) = (e : ℕ) × IsLeastEnd Wanted e × IsFirstTo (WantedAt Wanted e) p

    -- of the first paths to each of the pairs with the greatest end, the last
    abbrev pub IsLastPath : Option (List Pair) → Type 0
    IsLastPath None = NoPath Wanted
    IsLastPath (Some p) = (e : ℕ) × IsGreatestEnd Wanted e × IsLastOfFirsts e p

    -- the same with the least end
    abbrev pub IsEarliestLastPath : Option (List Pair) → Type 0
    IsEarliestLastPath None = NoPath Wanted
    IsEarliestLastPath (Some p) = (e : ℕ) × IsLeastEnd Wanted e × IsLastOfFirsts e p

-- the positions ascend
abbrev pub Increasing : List Pair → Type 0
Increasing [] = Unit {0}
Increasing (e ∷ es) = ((d : Pair) → In d es → e.1 < d.1) × Increasing es

module _ (edges : Pair → List Pair) (target : Pair → Bool) where
  -- the list is an accepting path from the pair: it follows edges, repeats no pair, and ends with its only target
  pub data Path : Pair → List Pair → Type 0 where
    stop : {v : Pair} → target v ≡ true → Path v (v ∷ [])
    go : {v w : Pair} {p : List Pair} → target v ≡ false → In w (edges v) → ¬ (In v p) → Path w p → Path v (v ∷ p)

  -- such a path that contains no pair of `marks`
  pub record Accepts (marks : List Pair) (v : Pair) (p : List Pair) : Type 0 where
    pub path : Path v p
    pub clear : (x : Pair) → In x p → In x marks → ⊥

  -- the first of these paths in the order `Before`, or none if there is none
  abbrev pub IsFirst : List Pair → Pair → Option (List Pair) → Type 0
  IsFirst marks v None = (p : List Pair) → Accepts marks v p → ⊥
  IsFirst marks v (Some p) = Accepts marks v p × ((q : List Pair) → Accepts marks v q → (q ≡ p) ⊎ Before edges p q)

  -- the first path from the first pair of a list that has one
  abbrev pub FirstAmong : List Pair → List Pair → Option (List Pair) → Type 0
  FirstAmong marks [] r = r ≡ None
  FirstAmong marks (e ∷ es) r =
      ((p : List Pair) × IsFirst marks e (Some p) × (r ≡ Some p)) ⊎ (IsFirst marks e None × FirstAmong marks es r)

  -- the same as a property of all paths from the pairs: the earliest start, and the first of its paths
  abbrev pub IsFirstOfAll : List Pair → List Pair → Option (List Pair) → Type 0
  IsFirstOfAll marks es None = (e : Pair) → In e es → IsFirst marks e None
  IsFirstOfAll marks es (Some p) =
      (e : Pair) × In e es × Accepts marks e p
      × ((d : Pair) (q : List Pair) → In d es → Accepts marks d q → (q ≡ p) ⊎ (Earlier es e d ⊎ Before edges p q))

-- the last pair is a target, and no earlier pair is
abbrev pub StopsAtTarget : (Pair → Bool) → List Pair → Type 0
StopsAtTarget target [] = ⊥
StopsAtTarget target (x ∷ []) = target x ≡ true
StopsAtTarget target (x ∷ (y ∷ p)) = (target x ≡ false) × StopsAtTarget target (y ∷ p)
