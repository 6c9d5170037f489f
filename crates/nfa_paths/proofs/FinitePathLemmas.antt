-- Where finitely many pairs lead on, there is a first path to a set, or none; and each kind of scan has its path, or
-- none.
use Rattle.nfa_paths.proofs.Common.{◌≡◌, ℕ, zero, suc, ◌≤◌, ◌⊎◌, inl, inr, Bool, true, List, [], ◌∷◌, length, refl, sym, ap, ◌∙◌, arith, rules, Option, None, Some, cases_Bool, Pair, In, NoPath, IsFirstTo, IsFirstPath, IsFirst, FirstAmong, Increasing, Passes, ◌+◌, ◌<◌, subst, below_more, Earlier, BeforeAfter, ComesBefore, WantedAt, PathTo, IsEnd, IsLeastEnd, IsGreatestEnd, IsLastOfFirsts, IsEarliestPath, IsLastPath, IsEarliestLastPath}
use Rattle.nfa_paths.proofs.PathLemmas.{Path-head, IsFirst-dead, IsFirst-target, IsFirst-step, IsFirstOfAll-from_among, same}
use Rattle.nfa_paths.proofs.PathToLemmas.{In-cases, IsFirstPath-of_all, PathTo-along, PathTo-order, IsFirstTo-unique}
use Rattle.nfa_paths.proofs.SameScanLemmas.{first-along}
use Rattle.nfa_paths.proofs.MemberLemmas.{Test, tell_at, tested}
use Rattle.nfa_paths.proofs.ScanLemmas.{EndsBefore-within}

-- the first path

-- a list without one of its pairs
record Without (v : Pair) (xs : List Pair) : Type 0 where
  rest : List Pair
  shorter : length xs ≡ suc (length rest)
  covers : (x : Pair) → In x xs → (x ≡ v) ⊎ In x rest

-- a pair of a list can be taken out
without : (v : Pair) (xs : List Pair) → In v xs → Without v xs
without v [] i = absurd i
without v (y ∷ xs) (inl here) =
    record { rest = xs; shorter = refl; covers = λ x i. elim i [ inl e ↦ inl (e ∙ sym here) | inr j ↦ inr j ] }
without v (y ∷ xs) (inr later) =
    let w = without v xs later in
    record {
      rest = y ∷ w.rest;
      shorter = ap suc w.shorter;
      covers = grind arith;
    }

-- From the starts, which rise, only pairs at positions up to n are reached, and of these only the pairs of `all` lead
-- on.
pub record IsFinite (edges : Pair → List Pair) (starts all : List Pair) (n : ℕ) : Type 0 where
  pub stays : (x y : Pair) → In y (edges x) → x.1 ≤ n → y.1 ≤ n
  pub begins : (s : Pair) → In s starts → s.1 ≤ n
  pub leads_on : (x : Pair) → x.1 ≤ n → In x all ⊎ (edges x ≡ [])
  pub increase : Increasing starts

module _ {edges : Pair → List Pair} {starts all : List Pair} {n : ℕ} (finite : IsFinite edges starts all n) where
  module _ (target : Pair → Bool) where
    -- the first path from a pair, or that there is none
    abbrev FirstFrom : List Pair → Pair → Type 0
    FirstFrom marks v = (r : Option (List Pair)) × IsFirst edges target marks v r

    -- pairs tried in turn
    first_among : (marks es : List Pair) → ((e : Pair) → In e es → FirstFrom marks e)
        → (r : Option (List Pair)) × FirstAmong edges target marks es r
    first_among marks [] each = (None, refl)
    first_among marks (e ∷ es) each =
        let here = each e (inl refl) in
        search (rules, first_among marks es)

    -- each pair that leads on is marked or among those left
    abbrev Covers : List Pair → List Pair → Type 0
    Covers left marks = (x : Pair) → x.1 ≤ n → In x marks ⊎ (In x left ⊎ (edges x ≡ []))

    -- one more is marked, and no longer left
    Covers-mark : (left marks : List Pair) (v : Pair) (w : Without v left) → Covers left marks
        → Covers w.rest (v ∷ marks)
    Covers-mark left marks v w covers x h = grind arith

    -- a pair has a first path or none if each pair after it does
    first_step : (left marks : List Pair) → Covers left marks → (v : Pair) → v.1 ≤ n
        → (Without v left → (e : Pair) → In e (edges v) → FirstFrom (v ∷ marks) e) → FirstFrom marks v
    first_step left marks covers v h behind =
        elim (In-cases v marks) [
          | inl m ↦ (None, λ p a. a.clear v (Path-head edges target a.path) m)
          | inr free ↦
              elim (cases_Bool (target v)) [
                | inl t ↦ (Some (v ∷ []), IsFirst-target edges target marks v free t)
                | inr plain ↦
                    elim (covers v h) [
                      | inl m ↦ absurd (free m)
                      | inr c ↦
                          elim c [
                            | inl i ↦
                                let r = first_among (v ∷ marks) (edges v) (behind (without v left i)) in
                                (_, IsFirst-step edges target marks v free plain r.0 r.1)
                            | inr dead ↦ (None, IsFirst-dead edges target marks v plain dead)
                          ]
                    ]
              ]
        ]

    -- with `left` pairs left, a pair has a first path or none
    first_from : (size : ℕ) (left marks : List Pair) → length left ≡ size → Covers left marks → (v : Pair) → v.1 ≤ n
        → FirstFrom marks v
    first_from zero left marks is covers v h =
        first_step left marks covers v h (λ w e i. absurd (let s = w.shorter in omega arith))
    first_from (suc size) left marks is covers v h =
        first_step left marks covers v h
        (λ w e i. first_from size w.rest (v ∷ marks) (let s = w.shorter in omega arith)
        (Covers-mark left marks v w covers) e (finite.stays v e i h))

    -- the first path to a target from the starts, or that there is none
    pub first_to : ((x : Pair) → target x ≡ true → edges x ≡ []) → (r : Option (List Pair))
        × IsFirstPath edges starts (Passes target) r
    first_to stops =
        let r = first_among [] starts (λ s i. first_from (length all) all [] refl (λ x h. inr (finite.leads_on x h)) s
        (finite.begins s i)) in (
          r.0,
          IsFirstPath-of_all edges starts target finite.increase stops r.0
              (IsFirstOfAll-from_among edges target [] starts r.0 r.1),
        )

  -- the first path to a set that has a test, whose pairs lead nowhere
  pub first_in : {P : Pair → Type 0} → Test P → ((x : Pair) → P x → edges x ≡ [])
      → ((p : List Pair) × IsFirstTo edges starts P p) ⊎ NoPath edges starts P
  first_in {P} t stops =
      let r = first_to t.passes (λ x k. stops x (t.is x k)) in of r.0 (first-along edges starts t.is t.of r.0 r.1)
    where
      of : (r : Option (List Pair)) → IsFirstPath edges starts P r
          → ((p : List Pair) × IsFirstTo edges starts P p) ⊎ NoPath edges starts P
      of = grind arith

-- the order goes on

-- what comes before a pair comes before all that comes after that pair
Earlier-transitive : (es : List Pair) (a b c : Pair) → Earlier es a b → Earlier es b c → Earlier es a c
Earlier-transitive [] a b c h k = h
Earlier-transitive (e ∷ es) a b c h k = grind (arith, Earlier-transitive es a b c)

module _ (edges : Pair → List Pair) where
  -- of lists that follow one pair
  BeforeAfter-transitive : (v : Pair) (p q r : List Pair) → BeforeAfter edges v p q → BeforeAfter edges v q r
      → BeforeAfter edges v p r
  BeforeAfter-transitive v [] q r h k = h
  BeforeAfter-transitive v (a ∷ p) q r h k = grind (arith, Earlier-transitive, BeforeAfter-transitive a p)

  -- of any lists
  ComesBefore-transitive : (p q r : List Pair) → ComesBefore edges p q → ComesBefore edges q r → ComesBefore edges p r
  ComesBefore-transitive [] q r h k = h
  ComesBefore-transitive (x ∷ p) [] r h k = absurd h
  ComesBefore-transitive (x ∷ p) (y ∷ q) [] h k = k
  ComesBefore-transitive (x ∷ p) (y ∷ q) (z ∷ r) (inl h) (inl k) = inl (omega arith)
  ComesBefore-transitive (x ∷ p) (y ∷ q) (z ∷ r) (inl h) (inr k) = grind arith
  ComesBefore-transitive (x ∷ p) (y ∷ q) (z ∷ r) (inr h) (inl k) = grind arith
  ComesBefore-transitive (x ∷ p) (y ∷ q) (z ∷ r) (inr h) (inr k) = grind (arith, BeforeAfter-transitive)

-- the least and the greatest of the numbers below k that have A, if each number has A or B

-- the least
least_with : {A B : ℕ → Type 0} → ((e : ℕ) → A e ⊎ B e) → (k : ℕ)
    → ((e : ℕ) → e < k → B e) ⊎ ((e : ℕ) × A e × ((d : ℕ) → d < e → B d))
least_with tell zero = inl (λ e h. absurd (omega arith))
least_with {A} {B} tell (suc k) =
    elim (least_with tell k) [
      | inl none ↦
          elim (tell k) [ inl a ↦ inr (k, a, none) | inr b ↦ inl (λ e h. below_more B k none b e (omega arith)) ]
      | inr found ↦ inr found
    ]

-- the greatest
greatest_with : {A B : ℕ → Type 0} → ((e : ℕ) → A e ⊎ B e) → (k : ℕ)
    → ((e : ℕ) → e < k → B e) ⊎ ((e : ℕ) × A e × ((d : ℕ) → e < d → d < k → B d))
greatest_with tell zero = inl (λ e h. absurd (omega arith))
greatest_with {A} {B} tell (suc k) =
    elim (tell k) [
      | inl a ↦ inr (k, a, λ d h l. absurd (omega arith))
      | inr b ↦ grind (arith, greatest_with tell k)
    ]

-- the kinds

module _ {edges : Pair → List Pair} {starts all : List Pair} {n : ℕ} (finite : IsFinite edges starts all n)
    (is_match : Pair → Bool)
    (stops : (x : Pair) → is_match x ≡ true → edges x ≡ []) (matches_in : (x : Pair) → x.1 ≤ n → is_match x ≡ true
    → In x all) where
  -- the first path to a match pair at e
  abbrev FirstAt : ℕ → Type 0
  FirstAt e = (p : List Pair) × IsFirstTo edges starts (WantedAt (Passes is_match) e) p

  -- no path to a match pair at e
  abbrev NoneAt : ℕ → Type 0
  NoneAt e = NoPath edges starts (WantedAt (Passes is_match) e)

  -- each position has its first path or none
  first_at : (e : ℕ) → FirstAt e ⊎ NoneAt e
  first_at e = first_in finite (tested (tell_at is_match e)) (λ x h. stops x h.wanted)

  -- every path ends at n or before it
  ends_within : (m : Pair) (p : List Pair) → PathTo edges starts m p → is_match m ≡ true → m.1 < n + 1
  ends_within = EndsBefore-within edges starts is_match n finite.stays finite.begins

  -- so if no path ends at any of these positions, there is no path
  none_at_all : ((e : ℕ) → e < n + 1 → NoneAt e) → NoPath edges starts (Passes is_match)
  none_at_all none m p w t = none m.1 (ends_within m p w t) m p w (record { wanted = t; at = refl })

  -- a path ends at e
  is_end : (e : ℕ) → FirstAt e → IsEnd edges starts (Passes is_match) e
  is_end e f = record { end = f.1.end; along = f.0; path = f.1.path; wanted = f.1.wanted.wanted; at = f.1.wanted.at }

  -- and none before e
  is_least : (e : ℕ) → FirstAt e → ((d : ℕ) → d < e → NoneAt d) → IsLeastEnd edges starts (Passes is_match) e
  is_least e f none = record {
    is_end = is_end e f;
    least = λ m p w t. grind arith;
  }

  -- and none after e
  is_greatest : (e : ℕ) → FirstAt e → ((d : ℕ) → e < d → d < n + 1 → NoneAt d)
      → IsGreatestEnd edges starts (Passes is_match) e
  is_greatest e f none = record {
    is_end = is_end e f;
    greatest = λ m p w t. grind (arith, ends_within);
  }

  -- the last of the first paths to the match pairs at e

  -- p is the first path to m, a match pair at e
  abbrev FirstTo : ℕ → Pair → List Pair → Type 0
  FirstTo e m p = WantedAt (Passes is_match) e m × IsFirstTo edges starts (λ x. x ≡ m) p

  -- no path leads to m, if it is a match pair at e
  abbrev NoneTo : ℕ → Pair → Type 0
  NoneTo e m = WantedAt (Passes is_match) e m → NoPath edges starts (λ x. x ≡ m)

  -- of the first paths to the match pairs at e in a list, the last, or none
  abbrev Sought : ℕ → List Pair → Type 0
  Sought e es = ((m : Pair) → In m es → NoneTo e m)
      ⊎ ((m : Pair) × (p : List Pair) × FirstTo e m p
      × ((k : Pair) (q : List Pair) → In k es → FirstTo e k q → (q ≡ p) ⊎ ComesBefore edges q p))

  -- each pair has one, or no path leads to it
  first_of : (e : ℕ) (m : Pair) → ((p : List Pair) × FirstTo e m p) ⊎ NoneTo e m
  first_of e m =
      elim (tell_at is_match e m) [
        | inl w ↦
            elim (first_in finite (tested (λ x. same x m)) (λ x is. stops x (rw is w.wanted))) [
              | inl f ↦ inl (f.0, (w, f.1))
              | inr none ↦ inr (λ h. none)
            ]
        | inr plain ↦ inr (λ w. absurd (plain w))
      ]

  -- there is only one to a pair, none if no path leads to it, and of two one comes before the other
  only : {e : ℕ} {m : Pair} {p q : List Pair} → FirstTo e m p → FirstTo e m q → q ≡ p
  only {m = m} {p} {q} h f = IsFirstTo-unique edges starts (λ x. x ≡ m) q p f.1 h.1

  nowhere : {e : ℕ} {m : Pair} {q : List Pair} → NoneTo e m → FirstTo e m q → ⊥
  nowhere {q = q} none f = none f.0 f.1.end q f.1.path f.1.wanted

  in_order : {e : ℕ} {m k : Pair} {p q : List Pair} → FirstTo e m p → FirstTo e k q
      → ((p ≡ q) ⊎ ComesBefore edges p q) ⊎ ComesBefore edges q p
  in_order h f =
      let order = PathTo-order edges starts is_match stops finite.increase
      (PathTo-along edges starts h.1.wanted h.1.path) h.0.wanted
      (PathTo-along edges starts f.1.wanted f.1.path) f.0.wanted in
      grind (arith, order)

  -- q is r or comes before it
  abbrev UpTo : List Pair → List Pair → Type 0
  UpTo r q = (q ≡ r) ⊎ ComesBefore edges q r

  -- what is up to r is before what r is before
  before_last : {p q r : List Pair} → ComesBefore edges r p → UpTo r q → UpTo p q
  before_last after order = grind (arith, ComesBefore-transitive)

  -- the path to one more pair, and those to the pairs of a list
  more : {e : ℕ} {m : Pair} (es r : List Pair) → ((q : List Pair) → FirstTo e m q → UpTo r q)
      → ((k : Pair) (q : List Pair) → In k es → FirstTo e k q → UpTo r q)
      → (k : Pair) (q : List Pair) → In k (m ∷ es) → FirstTo e k q → UpTo r q
  more {e = e} es r here others k q (inl is) h = here q (subst (λ y. FirstTo e y q) is h)
  more es r here others k q (inr j) h = others k q j h

  -- the pairs of a list, one by one
  sought : (e : ℕ) (es : List Pair) → Sought e es
  sought e [] = inl (λ m i. absurd i)
  sought e (m ∷ es) =
      elim (first_of e m) [
        | inl f ↦
            let is_last = more {e = e} {m = m} es f.0 (λ q h. inl (only f.1 h)) in
            elim (sought e es) [
              | inl none ↦ inr (m, f.0, f.1, is_last (λ k q j h. absurd (nowhere (none k j) h)))
              | inr b ↦
                  elim (in_order f.1 b.2) [
                    | inl order ↦ inr (b.0, b.1, b.2, more es b.1 (λ q h. rw (only f.1 h) order) b.3)
                    | inr after ↦ inr (m, f.0, f.1, is_last (λ k q j h. before_last after (b.3 k q j h)))
                  ]
            ]
        | inr none ↦
            elim (sought e es) [
              | inl others ↦ inl (λ k i. elim i [ inl is ↦ rw is none | inr j ↦ others k j ])
              | inr b ↦ inr (b.0, b.1, b.2, more es b.1 (λ q h. absurd (nowhere none h)) b.3)
            ]
      ]

  -- a match pair that is reached is one of all
  reached_in : (m : Pair) (p : List Pair) → PathTo edges starts m p → is_match m ≡ true → In m all
  reached_in m p w t = let k : m.1 < n + 1 = ends_within m p w t in matches_in m (omega arith) t

  -- if a path ends at e, there is a last of the first paths
  last_at : (e : ℕ) → FirstAt e → (p : List Pair) × IsLastOfFirsts edges starts (Passes is_match) e p
  last_at e f =
      elim (sought e all) [
        | inl none ↦ search (rules, reached_in)
        | inr b ↦ (
          b.1,
          record {
            end = b.0;
            wanted = b.2.0;
            first = b.2.1;
            last = λ m q w k. b.3 m q (reached_in m q (PathTo-along edges starts k.wanted k.path) w.wanted) (w, k);
          },
        )
      ]

  -- there is a first path, or none
  pub first_path_exists : (r : Option (List Pair)) × IsFirstPath edges starts (Passes is_match) r
  first_path_exists = first_to finite is_match stops

  -- there is an earliest path, or none
  pub earliest_path_exists : (r : Option (List Pair)) × IsEarliestPath edges starts (Passes is_match) r
  earliest_path_exists =
      elim (least_with first_at (n + 1)) [
        | inl none ↦ (None, none_at_all none)
        | inr f ↦ (Some f.1.0, (f.0, is_least f.0 f.1 f.2, f.1.1))
      ]

  -- there is a last path, or none
  pub last_path_exists : (r : Option (List Pair)) × IsLastPath edges starts (Passes is_match) r
  last_path_exists =
      elim (greatest_with first_at (n + 1)) [
        | inl none ↦ (None, none_at_all none)
        | inr f ↦ let l = last_at f.0 f.1 in (Some l.0, (f.0, is_greatest f.0 f.1 f.2, l.1))
      ]

  -- there is an earliest last path, or none
  pub earliest_last_path_exists : (r : Option (List Pair)) × IsEarliestLastPath edges starts (Passes is_match) r
  earliest_last_path_exists =
      elim (least_with first_at (n + 1)) [
        | inl none ↦ (None, none_at_all none)
        | inr f ↦ let l = last_at f.0 f.1 in (Some l.0, (f.0, is_least f.0 f.1 f.2, l.1))
      ]
