-- What the front of a position says of the paths that end there.
use Rattle.nfa_paths.proofs.Common.{◌≡◌, ℕ, ◌≤◌, ◌<◌, ◌⊎◌, ◌↔◌, inl, inr, Bool, true, List, [], ◌∷◌, ◌++◌, map, length, refl, sym, ◌∙◌, subst, append_assoc, ◌+◌, arith, Option, None, Some, option_map_or, Pair, Space, In, NoRepeats, ComesBefore, PathTo, NoPath, IsFirstTo, WantedAt, IsLastOfFirsts, Path, IsFirst, Slots, Hit, Task, apply, found, found_along, ExploresTo, ExploresAfter, IsFirstPath, IsFoundBy, Passes, NoMatch, Scanned, IsFrontier, stop, go, Explore, Restore, Load}
use Rattle.nfa_paths.proofs.PathLemmas.{same}
use Rattle.nfa_paths.proofs.SearchLemmas.{Answer-starts, AnswerBehind-cut}
use Rattle.nfa_paths.proofs.PathToLemmas.{found-end, IsFirstTo-unique, IsFirstPath-of_all}
use Rattle.nfa_paths.proofs.MemberLemmas.{In-append_left, In-append, In-map, In-middle, Test, tested, tell_at}
use Rattle.nfa_paths.proofs.SameScanLemmas.{first-along}
use Rattle.nfa_paths.proofs.FrontierMatchLemmas.{FirstMatch, LastMatch, first_match-is}

-- the answer of a front

module _ (space : Space) (target : Pair → Bool) (e : ℕ)
    (onward : (x y : Pair) → In y (space.edges x) → x.1 ≤ y.1) (before : (x : Pair) → target x ≡ true → x.1 < e) where
  -- no target is reached from e on
  Path-ahead : {v : Pair} {p : List Pair} → Path space.edges target v p → e ≤ v.1 → ⊥
  Path-ahead (stop {v = v} t) l = let k : v.1 < e = before v t in omega arith
  Path-ahead (go {v = v} {w = w} t i n h) l = let k : v.1 ≤ w.1 = onward v w i in Path-ahead h (omega arith)

  -- work from e on finds nothing
  pub Answer-ahead : (left : ℕ) (otherwise : Hit) (marks : List Pair) (work : List Task) (slots : Slots)
      → ((k : Pair) → In (Explore k) work → e ≤ k.1) → ExploresTo space target left otherwise marks work slots otherwise
  unfolding ExploresTo
  Answer-ahead left otherwise marks [] slots ahead = refl
  Answer-ahead left otherwise marks (Explore v ∷ rest) slots ahead =
      inr (
        λ p a. Path-ahead a.path (ahead v (inl refl)),
        Answer-ahead left otherwise marks rest slots (λ k i. ahead k (inr i)),
      )
  Answer-ahead left otherwise marks (Restore k old ∷ rest) slots ahead =
      Answer-ahead left otherwise marks rest _ (λ k i. ahead k (inr i))
  Answer-ahead left otherwise marks (Load old ∷ rest) slots ahead =
      Answer-ahead left otherwise marks rest old (λ k i. ahead k (inr i))

  -- an item that leads to e or further on, and is not a target
  abbrev Passed : Pair × Slots → Type 0
  Passed a = ((w : Pair) → In w (space.edges a.0) → e ≤ w.1) × (target a.0 ≡ true → ⊥)

  -- finds nothing either
  IsFirst-passed : (a : Pair × Slots) → Passed a → IsFirst space.edges target [] a.0 None
  IsFirst-passed a passed p h = none h.path passed.0 passed.1
    where
      none : {v : Pair} {p : List Pair} → Path space.edges target v p → ((w : Pair) → In w (space.edges v) → e ≤ w.1)
          → (target v ≡ true → ⊥) → ⊥
      none (stop t) r f = f t
      none (go {w = w} t i n h) r f = Path-ahead h (r w i)

  module _ (left : ℕ) (marks : List Pair) (work : List Task) (slots : Slots) where
    -- a front with no target, and work from e on
    AnswerBehind-none : (otherwise : Hit) (front : List (Pair × Slots)) → ((a : Pair × Slots) → In a front → Passed a)
        → ((k : Pair) → In (Explore k) work → e ≤ k.1)
        → ExploresAfter space target left front otherwise marks work slots otherwise
    unfolding ExploresAfter
    AnswerBehind-none otherwise [] passed later = Answer-ahead left otherwise marks work slots later
    AnswerBehind-none otherwise (a ∷ front) passed later =
        inr (IsFirst-passed a (passed a (inl refl)), AnswerBehind-none otherwise front (λ b i. passed b (inr i)) later)

  -- the first target of a front
  AnswerBehind-first : (left : ℕ) (marks : List Pair) (work : List Task) (slots : Slots)
      (before : List (Pair × Slots)) (a : Pair × Slots) (after : List (Pair × Slots))
      → ((b : Pair × Slots) → In b before → Passed b) → target a.0 ≡ true
      → ExploresAfter space target left (before ++ a ∷ after) None marks work slots (found space.capture (a.0 ∷ []) a.1)
  AnswerBehind-first left marks work slots before a after passed t =
      AnswerBehind-cut space target left before a after None [] marks work slots slots _ t
      (AnswerBehind-none left [] [] slots _ before passed (λ k i. absurd i))

-- the answer of a search

-- nothing was found: there is no path
pub found-none : {edges : Pair → List Pair} {starts : List Pair} {P : Pair → Type 0} {capture : Pair → Option ℕ}
    {slots : Slots} {turns : ℕ} → IsFoundBy capture slots (IsFirstPath edges starts P) turns None
    → NoPath edges starts P
found-none {edges} {starts} {P} {capture} {slots} h = of h.path h.meant h.leads
  where
    of : (o : Option (List Pair)) → IsFirstPath edges starts P o → found_along capture o slots ≡ None
        → NoPath edges starts P
    of None none leads = none
    of (Some p) first leads = let end = found-end capture first.end p slots first.path.ends in cc

-- an item was found: along a path that is meant
pub found-along : {capture : Pair → Option ℕ} {slots : Slots} {Meant : Option (List Pair) → Type 0} {turns : ℕ}
    {a : Pair × Slots} → IsFoundBy capture slots Meant turns (Some a)
    → (p : List Pair) × Meant (Some p) × (found capture p slots ≡ Some a) × (length p ≤ turns)
found-along {capture} {slots} {Meant} {turns} {a} h = of h.path h.meant h.leads h.short
  where
    of : (o : Option (List Pair)) → Meant o → found_along capture o slots ≡ Some a → option_map_or length o 0 ≤ turns
        → (p : List Pair) × Meant (Some p) × (found capture p slots ≡ Some a) × (length p ≤ turns)
    of None meant leads short = cc
    of (Some p) meant leads short = (p, meant, leads, short)

-- the first path ends with it
pub found-some : {edges : Pair → List Pair} {starts : List Pair} {P : Pair → Type 0} {capture : Pair → Option ℕ}
    {slots : Slots} {turns : ℕ} {a : Pair × Slots} → IsFoundBy capture slots (IsFirstPath edges starts P) turns (Some a)
    → (p : List Pair) × (first : IsFirstTo edges starts P p) × (first.end ≡ a.0) × (found capture p slots ≡ Some a)
    × (length p ≤ turns)
found-some {capture = capture} {slots} {a = a} h =
    let f = found-along h in
    let end = found-end capture f.1.end f.0 slots f.1.path.ends in
    let both : Some (f.1.end, apply capture f.0 slots) ≡ Some a = sym end ∙ f.2 in
    let same_end : f.1.end ≡ a.0 = cc in
    (f.0, f.1, same_end, f.2, f.3)

module _ (space : Space) (resting is_match : Pair → Bool) (slots : Slots) (shape : Scanned space resting is_match) where
  -- the whole search for any match pair finds the first path
  pub IsFirstPath-found : (turns : ℕ) (g : Hit)
      → ExploresTo space is_match turns None [] (map Explore space.starts) slots g
      → IsFoundBy space.capture slots (IsFirstPath space.edges space.starts (Passes is_match)) turns g
  IsFirstPath-found turns g answer =
      let first = IsFirstPath-of_all space.edges space.starts is_match shape.increasing shape.leads_nowhere in
      elim (Answer-starts space is_match turns space.starts slots g answer) [
        | inl k ↦ record {
          path = Some k.0;
          meant = first (Some k.0) k.1;
          leads = sym k.2;
          short = k.3;
        }
        | inr k ↦ record {
          path = None;
          meant = first None k.0;
          leads = sym k.1;
          short = omega arith;
        }
      ]

module _ (space : Space) (resting is_match : Pair → Bool) (slots : Slots) (shape : Scanned space resting is_match)
    {P : Pair → Type 0} (t : Test P) where
  -- the search for a set of match pairs finds the first path to the set
  pub first-found : ((x : Pair) → P x → is_match x ≡ true) → (turns : ℕ) (g : Hit)
      → ExploresTo space t.passes turns None [] (map Explore space.starts) slots g
      → IsFoundBy space.capture slots (IsFirstPath space.edges space.starts P) turns g
  first-found matches turns g answer = grind (arith, IsFirstPath-found, first-along)

  -- a set of match pairs at e
  module _ {e : ℕ} (matches : (x : Pair) → P x → (is_match x ≡ true) × (x.1 ≡ e)) where
    -- the pairs of the set are before the next position
    sooner : (x : Pair) → t.passes x ≡ true → x.1 < e + 1
    sooner x k = let h : x.1 ≡ e = (matches x (t.is x k)).1 in omega arith

    -- and all others at e lead there
    passed : (a : Pair × Slots) → (resting a.0 ≡ true) × (a.0.1 ≡ e) → (t.passes a.0 ≡ true → ⊥)
        → Passed space t.passes (e + 1) shape.onward sooner a
    passed a rest plain =
        (λ w j. let k : a.0.1 < w.1 = shape.rises a.0 w rest.0 j in omega (arith, rest.1), plain)

    -- what the search finds if its front has one of the pairs
    pub front-first : (left turns : ℕ) (marks : List Pair) (front : List (Pair × Slots)) (work : List Task)
        (current : Slots) (a : Pair × Slots)
        → ((b : Pair × Slots) → In b front → (resting b.0 ≡ true) × (b.0.1 ≡ e))
        → ((g : Hit) → ExploresAfter space t.passes left front None marks work current g
        → ExploresTo space t.passes turns None [] (map Explore space.starts) slots g)
        → FirstMatch t.passes front a
        → IsFoundBy space.capture slots (IsFirstPath space.edges space.starts P) turns (Some a)
    front-first left turns marks front work current a rest leads first =
        let wrote : found space.capture (a.0 ∷ []) a.1 ≡ Some a =
        rw (shape.writes_nothing a.0 (matches a.0 (t.is a.0 first.matches)).0) refl in
        let among : (b : Pair × Slots) → In b first.before → In b front =
        λ b i. rw first.split (In-append_left b first.before (a ∷ first.after) i) in
        let behind = AnswerBehind-first space t.passes (e + 1) shape.onward sooner left marks work current
        first.before a first.after (λ b i. passed b (rest b (among b i)) (first.plain b i)) first.matches in
        first-found (λ x h. (matches x h).0) turns (Some a) (leads (Some a) (rw (first.split, sym wrote) behind))

-- the items of a front

-- no pair occurs twice: the items before an item are other pairs
apart : (before : List (Pair × Slots)) (a : Pair × Slots) (after : List (Pair × Slots))
    → NoRepeats (map (λ b. b.0) (before ++ a ∷ after))
    → (b : Pair × Slots) → In b before → b.0 ≡ a.0 → ⊥
apart [] a after n b i e = i
apart (c ∷ before) a after n b i e =
    let among = In-map (λ (b : Pair × Slots). b.0) a (before ++ a ∷ after) (In-middle before a after) in
    grind (arith, among, apart before a after n.1 b)

-- the first match pair of a front is in it
FirstMatch-in : {is_match : Pair → Bool} {front : List (Pair × Slots)} {a : Pair × Slots} → FirstMatch is_match front a
    → In a front
FirstMatch-in {a = a} h = rw h.split (In-middle h.before a h.after)

-- and the first that is wanted at the position of the front
pub FirstMatch-at : {is_match : Pair → Bool} {e : ℕ} {front : List (Pair × Slots)} {a : Pair × Slots}
    (t : Test (WantedAt (Passes is_match) e)) → ((b : Pair × Slots) → In b front → b.0.1 ≡ e)
    → FirstMatch is_match front a → FirstMatch t.passes front a
FirstMatch-at {a = a} t at h = grind (arith, FirstMatch-in)

-- what one front says of the paths that end at its position

module _ (space : Space) (resting is_match : Pair → Bool) (slots : Slots) (turns : ℕ)
    (shape : Scanned space resting is_match) {front : List (Pair × Slots)} {e : ℕ}
    (f : IsFrontier space resting is_match slots turns front e) where
  module _ {P : Pair → Type 0} (t : Test P) (matches : (x : Pair) → P x → (is_match x ≡ true) × (x.1 ≡ e)) where
    -- the front has no pair of the set: no path leads to one
    IsFrontier-none : NoMatch t.passes front → NoPath space.edges space.starts P
    IsFrontier-none none =
        let leads = f.leads t.passes (λ x k. matches x (t.is x k)) in
        found-none (first-found space resting is_match slots shape t (λ x h. (matches x h).0) turns None
        (leads.1 None (AnswerBehind-none space t.passes (e + 1) shape.onward
        (sooner space resting is_match slots shape t matches) 0 leads.0 f.waiting f.current None front
        (λ a i. passed space resting is_match slots shape t matches a (f.rest a i) (none a i))
        (λ k i. let h : e < k.1 = f.later k i in omega arith))))

    -- the first pair of the set in the front is the end of the first path to a pair of the set
    IsFrontier-first : (a : Pair × Slots) → FirstMatch t.passes front a
        → (p : List Pair) × (first : IsFirstTo space.edges space.starts P p) × (first.end ≡ a.0)
        × (found space.capture p slots ≡ Some a) × (length p ≤ turns)
    IsFrontier-first a first =
        let leads = f.leads t.passes (λ x k. matches x (t.is x k)) in
        found-some (front-first space resting is_match slots shape t matches 0 turns leads.0 front f.waiting f.current a
        f.rest leads.1 first)

  -- the match pairs at e, as a test
  here : Test (WantedAt (Passes is_match) e)
  here = tested (tell_at is_match e)

  -- they are match pairs at e
  here_matches : (x : Pair) → WantedAt (Passes is_match) e x → (is_match x ≡ true) × (x.1 ≡ e)
  here_matches x h = (h.wanted, h.at)

  -- no match pair in the front: no path ends at e
  pub IsFrontier-no_match : NoMatch is_match front → NoPath space.edges space.starts (WantedAt (Passes is_match) e)
  IsFrontier-no_match none = IsFrontier-none here here_matches (λ a i k. none a i (here.is a.0 k).wanted)

  -- its first match pair is the end of the first path that ends at e
  pub IsFrontier-first_match : (a : Pair × Slots) → FirstMatch is_match front a
      → (p : List Pair) × (first : IsFirstTo space.edges space.starts (WantedAt (Passes is_match) e) p)
      × (first.end ≡ a.0)
      × (found space.capture p slots ≡ Some a) × (length p ≤ turns)
  IsFrontier-first_match a m = IsFrontier-first here here_matches a (FirstMatch-at here (λ b i. (f.rest b i).1) m)

  -- one pair, as a test
  one : (m : Pair) → Test (λ x. x ≡ m)
  one m = tested (λ x. same x m)

  -- two pairs
  two : (m n : Pair) → Test (λ x. (x ≡ m) ⊎ (x ≡ n))
  two m n = tested (λ x. grind arith)

  -- a pair that is one wanted at e is a match pair at e
  here_at : (m : Pair) → WantedAt (Passes is_match) e m → (x : Pair) → x ≡ m → (is_match x ≡ true) × (x.1 ≡ e)
  here_at m h x eq = rw eq (h.wanted, h.at)

  -- a match pair of the front is wanted at e
  item_here : (a : Pair × Slots) → In a front → is_match a.0 ≡ true → WantedAt (Passes is_match) e a.0
  item_here a i t = record { wanted = t; at = (f.rest a i).1 }

  -- the match pairs of the front are those to which a path leads
  pub IsFrontier-pairs : (m : Pair) → WantedAt (Passes is_match) e m
      → ((p : List Pair) × PathTo space.edges space.starts m p) ↔ ((a : Pair × Slots) × In a front × (a.0 ≡ m))
  IsFrontier-pairs m h = (
    λ w.
        elim (first_match-is (one m).passes front) [
          | inl none ↦ absurd (IsFrontier-none (one m) (here_at m h) none.1 m w.0 w.1 refl)
          | inr some ↦ (some.0, FirstMatch-in some.2, (one m).is some.0.0 some.2.matches)
        ],
    λ i.
        elim (first_match-is (one m).passes front) [
          | inl none ↦ absurd (none.1 i.0 i.1 ((one m).of i.0.0 i.2))
          | inr some ↦
              let first = IsFrontier-first (one m) (here_at m h) some.0 some.2 in
              (first.0, rw first.1.wanted at first.1.path)
        ],
  )

  -- the first path to a pair that comes before another in the front comes before every path to the other
  IsFrontier-order : (m n : Pair) → WantedAt (Passes is_match) e m → WantedAt (Passes is_match) e n
      → (b : Pair × Slots) → FirstMatch (two m n).passes front b → b.0 ≡ m
      → (p : List Pair) → IsFirstTo space.edges space.starts (λ x. x ≡ m) p → (q : List Pair)
      → PathTo space.edges space.starts n q → (q ≡ p) ⊎ ComesBefore space.edges p q
  IsFrontier-order m n h k b in_front eq p first q w =
      let found_first = IsFrontier-first (two m n)
      (λ x s. elim s [ inl y ↦ here_at m h x y | inr y ↦ here_at n k x y ]) b in_front in
      let both = found_first.1 in
      let to_m : IsFirstTo space.edges space.starts (λ x. x ≡ m) found_first.0 =
      record {
        end = both.end;
        path = both.path;
        wanted = found_first.2 ∙ eq;
        first =
            λ d r v t. both.first d r v (inl t);
      } in
      let same_path : found_first.0 ≡ p =
      IsFirstTo-unique space.edges space.starts (λ x. x ≡ m) found_first.0 p to_m first in
      subst (λ x. (q ≡ x) ⊎ ComesBefore space.edges x q) same_path (both.first n q w (inr refl))

  -- the first path to any match pair at e is p or comes before it, if p is the first path to the last match pair of the
  -- front
  first_before : (a : Pair × Slots) (l : LastMatch is_match front a)
      → ((b : Pair × Slots) → In b l.before → b.0 ≡ a.0 → ⊥)
      → (p : List Pair) → IsFirstTo space.edges space.starts (λ x. x ≡ a.0) p
      → (m : Pair) (q : List Pair) → WantedAt (Passes is_match) e m → IsFirstTo space.edges space.starts (λ x. x ≡ m) q
      → (q ≡ p) ⊎ ComesBefore space.edges q p
  first_before a l before_a p first m q h k =
      elim (same m a.0) [
        | inl eq ↦ inl (IsFirstTo-unique space.edges space.starts (λ x. x ≡ a.0) q p
            (subst (λ y. IsFirstTo space.edges space.starts (λ x. x ≡ y) q) eq k) first)
        | inr other ↦
            elim (first_match-is (one m).passes l.before) [
              | inl none ↦
                  let i = (IsFrontier-pairs m h).0 (q, rw k.wanted at k.path) in
                  elim (In-append i.0 l.before (a ∷ l.after) (subst (λ x. In i.0 x) l.split i.1)) [
                    | inl j ↦ absurd (none.1 i.0 j ((one m).of i.0.0 i.2))
                    | inr j ↦ grind arith
                  ]
              | inr some ↦
                  let r = some.2 in
                  let is_m = (one m).is some.0.0 r.matches in
                  let item = item_here a (rw l.split (In-middle l.before a l.after)) l.matches in
                  elim (IsFrontier-order m a.0 h item some.0 (record {
                    before = r.before;
                    after = r.after ++ a ∷ l.after;
                    split = grind (arith, append_assoc);
                    plain = λ c i t. elim ((two m a.0).is c.0 t) [
                      | inl e ↦ r.plain c i ((one m).of c.0 e)
                      | inr e ↦ before_a c (rw r.split (In-append_left c r.before (some.0 ∷ r.after) i)) e
                    ];
                    matches = (two m a.0).of some.0.0 (inl is_m);
                  }) is_m q k p (rw first.wanted at first.path)) [
                    | inl eq ↦ inl (sym eq)
                    | inr c ↦ inr c
                  ]
            ]
      ]

  -- its last match pair is the end of the last of the first paths to the match pairs at e
  pub IsFrontier-last_match : (a : Pair × Slots) → LastMatch is_match front a
      → (p : List Pair) × (last : IsLastOfFirsts space.edges space.starts (Passes is_match) e p) × (last.end ≡ a.0)
      × (found space.capture p slots ≡ Some a) × (length p ≤ turns)
  IsFrontier-last_match a l =
      let in_front : In a front = rw l.split (In-middle l.before a l.after) in
      let wanted = item_here a in_front l.matches in
      let before_a : (b : Pair × Slots) → In b l.before → b.0 ≡ a.0
      → ⊥ = apart l.before a l.after (subst (λ x. NoRepeats (map (λ (c : Pair × Slots). c.0) x)) l.split f.once) in
      let first = IsFrontier-first (one a.0) (here_at a.0 wanted) a (record {
        before = l.before;
        after = l.after;
        split = l.split;
        plain = λ b i t. before_a b i ((one a.0).is b.0 t);
        matches = (one a.0).of a.0 refl;
      }) in (
        first.0,
        record {
          end = a.0;
          wanted = wanted;
          first = first.1;
          last =
              λ m q h k. first_before a l before_a first.0 first.1 m q h k;
        },
        refl,
        first.3,
        first.4,
      )
