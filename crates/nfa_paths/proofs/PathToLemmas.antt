-- Paths from the starts in plain words: which comes first, and that each kind of scan has one answer.
use Rattle.nfa_paths.proofs.Common.{◌≡◌, ℕ, ◌≤◌, ◌⊎◌, inl, inr, Bool, true, false, List, [], ◌∷◌, refl, sym, ap, subst, arith, Option, None, Some, last_or, Pair, In, Before, ComesBefore, HeadIs, Linked, EndsWith, WantedAt, PathTo, NoPath, IsFirstTo, IsEnd, IsLeastEnd, IsGreatestEnd, IsLastOfFirsts, IsFirstPath, IsEarliestPath, IsLastPath, IsEarliestLastPath, Accepts, IsFirstOfAll, StopsAtTarget, Increasing, Slots, apply, found}
use Rattle.nfa_paths.proofs.PathLemmas.{same, Before-asymmetric, Before-total, Earlier-increasing, Earlier-total, Path-plain}

-- a test that cannot succeed fails
pub is_false : (b : Bool) → (b ≡ true → ⊥) → b ≡ false
is_false = grind arith

-- the end of a path

-- a pair in front changes no end
pub EndsWith-cons : (v m : Pair) (p : List Pair) → EndsWith m p → EndsWith m (v ∷ p)
EndsWith-cons = grind arith

-- the pair that a list ends with is its last
pub EndsWith-last : (o : Option Pair) (m : Pair) (p : List Pair) → EndsWith m p → last_or o p ≡ Some m
EndsWith-last o m [] e = absurd e
EndsWith-last o m (x ∷ p) e = grind (arith, EndsWith-last (Some x) m p)

-- the pair that a list ends with is in it
pub EndsWith-in : (m : Pair) (p : List Pair) → EndsWith m p → In m p
EndsWith-in m [] ends = ends
EndsWith-in m (x ∷ p) ends = grind (arith, EndsWith-in m p)

-- if targets lead nowhere, a linked list that ends with a target contains no other one
EndsWith-stops : (edges : Pair → List Pair) (target : Pair → Bool) → ((x : Pair) → target x ≡ true → edges x ≡ [])
    → (m : Pair) (p : List Pair) → Linked edges p → EndsWith m p → target m ≡ true → StopsAtTarget target p
EndsWith-stops edges target stops m [] l e t = absurd e
EndsWith-stops edges target stops m (x ∷ p) l e t = grind (arith, is_false, EndsWith-stops edges target stops m p)

-- a list that stops at a target ends with one
StopsAtTarget-ends : (target : Pair → Bool) (p : List Pair) → StopsAtTarget target p → (m : Pair) × EndsWith m p
    × (target m ≡ true)
StopsAtTarget-ends target [] s = absurd s
StopsAtTarget-ends target (x ∷ p) s = grind (arith, StopsAtTarget-ends target p)

-- what is found along a list is its last pair, with the slots there
pub found-end : (capture : Pair → Option ℕ) (m : Pair) (p : List Pair) (slots : Slots) → EndsWith m p
    → found capture p slots ≡ Some (m, apply capture p slots)
found-end capture m p slots e = rw (EndsWith-last None m p e) refl

-- the order

-- no two lists come before each other
pub ComesBefore-asymmetric : (edges : Pair → List Pair) (p q : List Pair) → ComesBefore edges p q
    → ComesBefore edges q p → ⊥
ComesBefore-asymmetric edges [] q h k = h
ComesBefore-asymmetric edges (x ∷ p) [] h k = h
ComesBefore-asymmetric edges (x ∷ p) (y ∷ q) (inl h) (inl k) = omega arith
ComesBefore-asymmetric edges (x ∷ p) (y ∷ q) (inl h) (inr k) = let e : y.1 ≡ x.1 = ap (λ z. z.1) k.0 in omega arith
ComesBefore-asymmetric edges (x ∷ p) (y ∷ q) (inr h) (inl k) = let e : x.1 ≡ y.1 = ap (λ z. z.1) h.0 in omega arith
ComesBefore-asymmetric edges (x ∷ p) (y ∷ q) (inr h) (inr k) = Before-asymmetric edges (x ∷ p) (y ∷ q) h k

-- of two lists with one head, the order is that of the edges
ComesBefore-same : (edges : Pair → List Pair) (p q : List Pair) → Before edges p q → ComesBefore edges p q
ComesBefore-same = grind arith

-- what holds of a pair, and goes on along each edge, holds of each pair of a linked list from there on
Linked-keeps : (edges : Pair → List Pair) (P : Pair → Type 0) → ((x y : Pair) → In y (edges x) → P x → P y)
    → (x : Pair) (p : List Pair) → Linked edges (x ∷ p) → P x → (w : Pair) → In w (x ∷ p) → P w
Linked-keeps edges P keeps x [] l h w i = grind arith
Linked-keeps edges P keeps x (y ∷ p) l h w i = grind (arith, Linked-keeps edges P keeps y p)

-- paths grow

-- a pair is in a list, or is not
pub In-cases : (x : Pair) (p : List Pair) → In x p ⊎ ¬ (In x p)
In-cases x [] = inr (λ i. i)
In-cases x (y ∷ p) = grind (arith, In-cases x p)

module _ (edges : Pair → List Pair) (starts : List Pair) where
  -- a path to the same pair, under another name
  pub PathTo-along : {m n : Pair} {p : List Pair} → m ≡ n → PathTo edges starts m p → PathTo edges starts n p
  PathTo-along {p = p} e w = subst (λ x. PathTo edges starts x p) e w

  -- what holds of the starts, and goes on along each edge, holds of each pair of a path
  pub PathTo-keeps : (P : Pair → Type 0) → ((s : Pair) → In s starts → P s)
      → ((x y : Pair) → In y (edges x) → P x → P y) → {m : Pair} {p : List Pair} → PathTo edges starts m p
      → (w : Pair) → In w p → P w
  PathTo-keeps P begins keeps {p = []} path w i = absurd i
  PathTo-keeps P begins keeps {p = x ∷ p} path w i =
      Linked-keeps edges P keeps x p path.linked (subst P (sym path.head) (begins path.start path.among)) w i

  -- and of its end
  pub PathTo-end : (P : Pair → Type 0) → ((s : Pair) → In s starts → P s)
      → ((x y : Pair) → In y (edges x) → P x → P y) → {m : Pair} {p : List Pair} → PathTo edges starts m p → P m
  PathTo-end P begins keeps {m} {p} path = PathTo-keeps P begins keeps path m (EndsWith-in m p path.ends)

  -- sets with the same pairs
  pub IsFirstTo-along : (P Q : Pair → Type 0) → ((x : Pair) → P x → Q x) → ((x : Pair) → Q x → P x) → {p : List Pair}
      → IsFirstTo edges starts P p → IsFirstTo edges starts Q p
  IsFirstTo-along P Q to back h = record {
    end = h.end;
    path = h.path;
    wanted = to h.end h.wanted;
    first =
        λ m q w t. h.first m q w (back m t);
  }

  -- the paths to targets that lead nowhere, in plain words
  module _ (target : Pair → Bool) (stops : (x : Pair) → target x ≡ true → edges x ≡ []) where
    -- a path to a target, as the search knows it
    pub PathTo-accepts : {m : Pair} {p : List Pair} (w : PathTo edges starts m p) → target m ≡ true
        → Accepts edges target [] w.start p
    PathTo-accepts {m} {p} w t = grind (arith, EndsWith-stops, Path-plain)

    -- of two paths to targets, one comes before the other
    pub PathTo-order : Increasing starts → {m n : Pair} {p q : List Pair}
        → PathTo edges starts m p → target m ≡ true → PathTo edges starts n q → target n ≡ true
        → (p ≡ q) ⊎ (ComesBefore edges p q ⊎ ComesBefore edges q p)
    PathTo-order rise {m} {n} {p} {q} w t v u =
        elim (same w.start v.start) [
          | inl e ↦
              let a = PathTo-accepts w t in
              grind (arith, Before-total, ComesBefore-same, PathTo-accepts)
          | inr apart ↦
              inr (elim (Earlier-total starts w.start v.start apart w.among v.among) [
                | inl k ↦ grind (arith, Earlier-increasing)
                | inr k ↦ grind (arith, Earlier-increasing)
              ])
        ]

  module _ (target : Pair → Bool) where
    -- an accepting path from one of the starts, in plain words
    Accepts-path_to : (e : Pair) (p : List Pair) → In e starts → Accepts edges target [] e p
        → (m : Pair) × PathTo edges starts m p × (target m ≡ true)
    Accepts-path_to e p i a = grind (arith, Path-plain, StopsAtTarget-ends)

    -- what is first of all starts, which ascend, is the first path to a target
    pub IsFirstPath-of_all : Increasing starts → ((x : Pair) → target x ≡ true → edges x ≡ [])
        → (r : Option (List Pair)) → IsFirstOfAll edges target [] starts r
        → IsFirstPath edges starts (λ m. target m ≡ true) r
    IsFirstPath-of_all rise stops None none = λ m p w t. none w.start w.among p (PathTo-accepts target stops w t)
    IsFirstPath-of_all rise stops (Some p) h =
        let end = Accepts-path_to h.0 p h.1 h.2 in
        record {
          end = end.0;
          path = end.1;
          wanted = end.2;
          first = λ m q w t.
              let head : HeadIs h.0 p = ((Path-plain edges target h.0 p).0 h.2.path).0 in
              let order = h.3 w.start q w.among (PathTo-accepts target stops w t) in
              let later = Earlier-increasing starts h.0 w.start rise in
              grind (arith, later, order, head, w.head, w.among);
        }

  -- one answer of each kind

  -- there is one first path to a set
  pub IsFirstTo-unique : (P : Pair → Type 0) (p q : List Pair) → IsFirstTo edges starts P p
      → IsFirstTo edges starts P q → p ≡ q
  IsFirstTo-unique P p q h k =
      let one = h.first k.end q k.path k.wanted in
      let other = k.first h.end p h.path h.wanted in
      grind (arith, ComesBefore-asymmetric)

  -- there is one last of the first paths
  pub IsLastOfFirsts-unique : (P : Pair → Type 0) (e : ℕ) (p q : List Pair)
      → IsLastOfFirsts edges starts P e p → IsLastOfFirsts edges starts P e q → p ≡ q
  IsLastOfFirsts-unique P e p q h k =
      let one = h.last k.end q k.wanted k.first in
      let other = k.last h.end p h.wanted h.first in
      grind (arith, ComesBefore-asymmetric)

  module _ (P : Pair → Type 0) where
    -- there is one least end
    pub IsLeastEnd-unique : (e d : ℕ) → IsLeastEnd edges starts P e → IsLeastEnd edges starts P d → e ≡ d
    IsLeastEnd-unique e d h k =
        let a : e ≤ k.is_end.end.1 = h.least k.is_end.end k.is_end.along k.is_end.path k.is_end.wanted in
        let b : d ≤ h.is_end.end.1 = k.least h.is_end.end h.is_end.along h.is_end.path h.is_end.wanted in
        grind arith

    -- there is only one greatest end
    pub IsGreatestEnd-unique : (e d : ℕ) → IsGreatestEnd edges starts P e → IsGreatestEnd edges starts P d → e ≡ d
    IsGreatestEnd-unique e d h k =
        let a : k.is_end.end.1 ≤ e = h.greatest k.is_end.end k.is_end.along k.is_end.path k.is_end.wanted in
        let b : h.is_end.end.1 ≤ d = k.greatest h.is_end.end h.is_end.along h.is_end.path h.is_end.wanted in
        grind arith

    -- if there is an end, there is a path
    IsEnd-some : (e : ℕ) → IsEnd edges starts P e → NoPath edges starts P → ⊥
    IsEnd-some e h none = none h.end h.along h.path h.wanted

    -- there is one first path, or none
    pub IsFirstPath-unique : (r s : Option (List Pair)) → IsFirstPath edges starts P r
        → IsFirstPath edges starts P s → r ≡ s
    IsFirstPath-unique None None h k = refl
    IsFirstPath-unique None (Some q) h k = absurd (h k.end q k.path k.wanted)
    IsFirstPath-unique (Some p) None h k = absurd (k h.end p h.path h.wanted)
    IsFirstPath-unique (Some p) (Some q) h k = ap Some (IsFirstTo-unique P p q h k)

    -- there is one earliest path, or none
    pub IsEarliestPath-unique : (r s : Option (List Pair)) → IsEarliestPath edges starts P r
        → IsEarliestPath edges starts P s → r ≡ s
    IsEarliestPath-unique None None h k = refl
    IsEarliestPath-unique None (Some q) h k = absurd (IsEnd-some k.0 k.1.is_end h)
    IsEarliestPath-unique (Some p) None h k = absurd (IsEnd-some h.0 h.1.is_end k)
    IsEarliestPath-unique (Some p) (Some q) h k =
        ap Some (IsFirstTo-unique (WantedAt P k.0) p q
        (subst (λ x. IsFirstTo edges starts (WantedAt P x) p) (IsLeastEnd-unique h.0 k.0 h.1 k.1) h.2) k.2)

    -- there is one last path, or none
    pub IsLastPath-unique : (r s : Option (List Pair)) → IsLastPath edges starts P r
        → IsLastPath edges starts P s → r ≡ s
    IsLastPath-unique None None h k = refl
    IsLastPath-unique None (Some q) h k = absurd (IsEnd-some k.0 k.1.is_end h)
    IsLastPath-unique (Some p) None h k = absurd (IsEnd-some h.0 h.1.is_end k)
    IsLastPath-unique (Some p) (Some q) h k =
        ap Some (IsLastOfFirsts-unique P k.0 p q
        (subst (λ x. IsLastOfFirsts edges starts P x p) (IsGreatestEnd-unique h.0 k.0 h.1 k.1) h.2) k.2)

    -- there is one earliest last path, or none
    pub IsEarliestLastPath-unique : (r s : Option (List Pair)) → IsEarliestLastPath edges starts P r
        → IsEarliestLastPath edges starts P s → r ≡ s
    IsEarliestLastPath-unique None None h k = refl
    IsEarliestLastPath-unique None (Some q) h k = absurd (IsEnd-some k.0 k.1.is_end h)
    IsEarliestLastPath-unique (Some p) None h k = absurd (IsEnd-some h.0 h.1.is_end k)
    IsEarliestLastPath-unique (Some p) (Some q) h k =
        ap Some (IsLastOfFirsts-unique P k.0 p q
        (subst (λ x. IsLastOfFirsts edges starts P x p) (IsLeastEnd-unique h.0 k.0 h.1 k.1) h.2) k.2)
