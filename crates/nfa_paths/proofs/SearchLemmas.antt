-- The steps of the search: from its answer after a step follows its answer before.
use Rattle.nfa_paths.proofs.Common.{◌≡◌, ℕ, suc, ◌≤◌, arith, ◌⊎◌, ◌↔◌, inl, inr, Bool, true, false, List, [], ◌∷◌, ◌++◌, map, length, get_or, set, refl, set-set, append-nil, rules, Option, None, Some, set-get_or, set_past, option_map, Pair, Space, In, Path, IsFirst, FirstAmong, IsFirstOfAll, Slots, Hit, Task, write, found, ExploresTo, ExploresAfter, next_tasks, seeds, Explore, Restore, Load}
use Rattle.nfa_paths.proofs.PathLemmas.{IsFirst-target, IsFirstOfAll-from_among, IsFirst-step, IsFirst-mark, IsFirst-ahead, IsFirst-resting}

module _ (space : Space) (target : Pair → Bool) where
  -- with nothing to do
  pub Answer-none : (left : ℕ) (otherwise : Hit) (marks : List Pair) (slots : Slots)
      → ExploresTo space target left otherwise marks [] slots otherwise
  unfolding ExploresTo
  Answer-none left otherwise marks slots = refl

  -- a slot is restored
  pub Answer-restore : (left : ℕ) (otherwise : Hit) (marks : List Pair) (k : ℕ) (old : Option ℕ) (rest : List Task)
      (slots : Slots) (g : Hit)
      → ExploresTo space target left otherwise marks rest (set slots k old) g
      ↔ ExploresTo space target left otherwise marks (Restore k old ∷ rest) slots g
  unfolding ExploresTo
  Answer-restore left otherwise marks k old rest slots g = (λ h. h, λ h. h)

  -- the result of the pairs at the head of the work
  pub Answer-among : (left : ℕ) (otherwise : Hit) (marks es : List Pair) (rest : List Task)
      (slots : Slots) (g : Hit) → ExploresTo space target left otherwise marks (map Explore es ++ rest) slots g
      → ((p : List Pair) × FirstAmong space.edges target marks es (Some p) × (g ≡ found space.capture p slots)
      × (length p ≤ left))
      ⊎ (FirstAmong space.edges target marks es None × ExploresTo space target left otherwise marks rest slots g)
  unfolding ExploresTo
  Answer-among left otherwise marks [] rest slots g h = inr (refl, h)
  Answer-among left otherwise marks (e ∷ es) rest slots g h =
      grind (arith, Answer-among left otherwise marks es rest slots g)

  -- marks that agree at what is to be explored, and no fewer turns
  Answer-along : (left more : ℕ) → left ≤ more
      → (otherwise : Hit) (m n : List Pair) (work : List Task) (slots : Slots) (g : Hit)
      → ((k : Pair) → In (Explore k) work → (r : Option (List Pair)) → IsFirst space.edges target m k r
      → IsFirst space.edges target n k r) → ExploresTo space target left otherwise m work slots g
      → ExploresTo space target more otherwise n work slots g
  unfolding ExploresTo
  Answer-along left more le otherwise m n [] slots g f h = h
  Answer-along left more le otherwise m n (Explore k ∷ rest) slots g f (inl h) =
      let short : length h.0 ≤ more = omega (arith, h.3) in
      inl (h.0, f k (inl refl) (Some h.0) h.1, h.2, short)
  Answer-along left more le otherwise m n (Explore k ∷ rest) slots g f (inr h) =
      inr (f k (inl refl) None h.0, Answer-along left more le otherwise m n rest slots g (λ j i. f j (inr i)) h.1)
  Answer-along left more le otherwise m n (Restore k old ∷ rest) slots g f h =
      Answer-along left more le otherwise m n rest (set slots k old) g (λ j i. f j (inr i)) h
  Answer-along left more le otherwise m n (Load old ∷ rest) slots g f h =
      Answer-along left more le otherwise m n rest old g (λ j i. f j (inr i)) h

  -- more turns may be left
  pub Answer-more : (left more : ℕ) → left ≤ more
      → (otherwise : Hit) (marks : List Pair) (work : List Task) (slots : Slots) (g : Hit)
      → ExploresTo space target left otherwise marks work slots g
      → ExploresTo space target more otherwise marks work slots g
  Answer-more left more le otherwise marks work slots g =
      Answer-along left more le otherwise marks marks work slots g (λ k i r h. h)

  -- marking a pair that leads to no target loses nothing, and takes a turn
  pub Answer-mark : (left : ℕ) (otherwise : Hit) (marks : List Pair) (v : Pair)
      → IsFirst space.edges target marks v None → (work : List Task) (slots : Slots) (g : Hit)
      → ExploresTo space target left otherwise (v ∷ marks) work slots g
      → ExploresTo space target (suc left) otherwise marks work slots g
  Answer-mark left otherwise marks v none work slots g = grind (arith, Answer-along, IsFirst-mark)

  -- the first pair of a path writes first
  found-cons : (v : Pair) {w : Pair} {p : List Pair} (slots : Slots) → Path space.edges target w p
      → found space.capture (v ∷ p) slots ≡ found space.capture p (write (space.capture v) v.1 slots)
  found-cons = grind arith

  module _ (left : ℕ) (otherwise : Hit) (marks : List Pair) (v : Pair) (rest : List Task) (slots : Slots)
      (g : Hit) where
    -- a marked pair is dropped
    pub Answer-marked : In v marks → ExploresTo space target left otherwise marks rest slots g
        → ExploresTo space target (suc left) otherwise marks (Explore v ∷ rest) slots g
    unfolding ExploresTo
    Answer-marked m h = grind (arith, Answer-more)

    -- a target ends the search
    pub Answer-target : ¬ (In v marks) → target v ≡ true → g ≡ Some (v, write (space.capture v) v.1 slots)
        → ExploresTo space target (suc left) otherwise marks (Explore v ∷ rest) slots g
    unfolding ExploresTo
    Answer-target free t e = let short : length (v ∷ []) ≤ suc left = omega arith in
        inl (v ∷ [], IsFirst-target space.edges target marks v free t, e, short)

    module _ (free : ¬ (In v marks)) (plain : target v ≡ false) (es : List Pair) (leads : space.edges v ≡ es) where
      -- a pair gives way to its edges, and to `next` below them, which leads back to `rest`
      pub Answer-step : (next : List Task) (after : Slots) → write (space.capture v) v.1 slots ≡ after
          → (ExploresTo space target left otherwise (v ∷ marks) next after g
          → ExploresTo space target left otherwise (v ∷ marks) rest slots g)
          → ExploresTo space target left otherwise (v ∷ marks) (map Explore es ++ next) after g
          → ExploresTo space target (suc left) otherwise marks (Explore v ∷ rest) slots g
      unfolding ExploresTo
      Answer-step next after wrote back h =
          grind (arith, Answer-among, IsFirstOfAll-from_among, IsFirst-step, found-cons, Answer-mark)

      -- a pair that writes nothing
      pub Answer-plain : space.capture v ≡ None
          → ExploresTo space target left otherwise (v ∷ marks) (map Explore es ++ rest) slots g
          → ExploresTo space target (suc left) otherwise marks (Explore v ∷ rest) slots g
      Answer-plain e = Answer-step rest slots (rw e refl) (λ a. a)

      -- a pair that writes to a slot, which is restored below its edges
      pub Answer-write : (k : ℕ) → space.capture v ≡ Some k
          → ExploresTo space target left otherwise (v ∷ marks)
          (map Explore es ++ Restore k (get_or slots k None) ∷ rest) (set slots k (Some v.1)) g
          → ExploresTo space target (suc left) otherwise marks (Explore v ∷ rest) slots g
      unfolding ExploresTo
      Answer-write k e = grind (arith, Answer-step, set-get_or, set-set)

      -- a pair that writes to a slot that is not kept
      pub Answer-unkept : (k : ℕ) → space.capture v ≡ Some k → length slots ≤ k
          → ExploresTo space target left otherwise (v ∷ marks) (map Explore es ++ rest) slots g
          → ExploresTo space target (suc left) otherwise marks (Explore v ∷ rest) slots g
      Answer-unkept k e past = Answer-step rest slots (rw e (set_past slots k _ past)) (λ a. a)

  -- several starts, one after another, with the marks kept
  pub Answer-starts : (left : ℕ) (starts : List Pair) (slots : Slots) (g : Hit)
      → ExploresTo space target left None [] (map Explore starts) slots g
      → ((p : List Pair) × IsFirstOfAll space.edges target [] starts (Some p) × (g ≡ found space.capture p slots)
      × (length p ≤ left))
      ⊎ (IsFirstOfAll space.edges target [] starts None × (g ≡ None))
  unfolding ExploresTo
  Answer-starts left starts slots g h =
      elim (Answer-among left None [] starts [] slots g (rw append-nil h)) [
        | inl k ↦ inl (k.0, IsFirstOfAll-from_among space.edges target [] starts (Some k.0) k.1, k.2, k.3)
        | inr k ↦ inr (IsFirstOfAll-from_among space.edges target [] starts None k.0, k.1)
      ]

  -- the starts, with their slots loaded again, are the starts
  pub Answer-seeds : (left : ℕ) (otherwise : Hit) (marks starts : List Pair) (slots : Slots) (g : Hit)
      → ExploresTo space target left otherwise marks (seeds slots starts) slots g
      → ExploresTo space target left otherwise marks (map Explore starts) slots g
  unfolding ExploresTo seeds
  Answer-seeds left otherwise marks [] slots g h = h
  Answer-seeds left otherwise marks (s ∷ starts) slots g h =
      grind (arith, Answer-seeds left otherwise marks starts slots g)

  -- after a front, each step goes on as before
  pub AnswerBehind-along : (front : List (Pair × Slots)) (left more : ℕ) → left ≤ more
      → (o u : Hit) (m n : List Pair) (work later : List Task) (slots after : Slots) (g : Hit)
      → (ExploresTo space target left o m work slots g → ExploresTo space target more u n later after g)
      → ExploresAfter space target left front o m work slots g
      → ExploresAfter space target more front u n later after g
  unfolding ExploresAfter
  AnswerBehind-along [] left more le o u m n work later slots after g f h = f h
  AnswerBehind-along (a ∷ front) left more le o u m n work later slots after g f h =
      grind (arith, AnswerBehind-along front left more le o u m n work later slots after g f)

  -- a target that was put aside answers, if nothing before it does
  pub AnswerBehind-cut : (left : ℕ) (before : List (Pair × Slots)) (a : Pair × Slots) (after : List (Pair × Slots))
      (otherwise : Hit) (m n : List Pair) (work : List Task) (current slots : Slots) (g : Hit) → target a.0 ≡ true
      → ExploresAfter space target left before (found space.capture (a.0 ∷ []) a.1) m [] current g
      → ExploresAfter space target left (before ++ a ∷ after) otherwise n work slots g
  unfolding ExploresTo ExploresAfter
  AnswerBehind-cut left [] a after otherwise m n work current slots g t h =
      let short : length (a.0 ∷ []) ≤ suc left = omega arith in
      inl (a.0 ∷ [], IsFirst-target space.edges target [] a.0 (λ i. i) t, h, short)
  AnswerBehind-cut left (b ∷ before) a after otherwise m n work current slots g t h =
      grind (arith, AnswerBehind-cut left before a after otherwise m n work current slots g t)

  module _ (ahead : Pair → Type 0) (closed : (x y : Pair) → ahead x → In y (space.edges x) → ahead y) where
    -- a resting pair is put aside: its edges lead to pairs ahead of all that is marked
    pub AnswerBehind-keep : (left : ℕ) (front : List (Pair × Slots)) (otherwise : Hit) (marks : List Pair) (v : Pair)
        (rest : List Task) (slots : Slots) (g : Hit)
        → ¬ (In v marks) → ((w : Pair) → In w (space.edges v) → ahead w) → ((x : Pair) → In x marks → ahead x → ⊥)
        → ExploresAfter space target left (front ++ (v, slots) ∷ []) otherwise (v ∷ marks) rest slots g
        → ExploresAfter space target (suc left) front otherwise marks (Explore v ∷ rest) slots g
    unfolding ExploresTo ExploresAfter
    AnswerBehind-keep left [] otherwise marks v rest slots g free leaves past (inl h) =
        inl (h.0, (IsFirst-resting space.edges target ahead closed marks v free leaves past (Some h.0)).0 h.1, h.2, h.3)
    AnswerBehind-keep left [] otherwise marks v rest slots g free leaves past (inr h) = grind (arith, Answer-mark)
    AnswerBehind-keep left (a ∷ front) otherwise marks v rest slots g free leaves past (inl h) =
        let short : length h.0 ≤ suc (suc left) = omega (arith, h.3) in inl (h.0, h.1, h.2, short)
    AnswerBehind-keep left (a ∷ front) otherwise marks v rest slots g free leaves past (inr h) =
        inr (h.0, AnswerBehind-keep left front otherwise marks v rest slots g free leaves past h.1)

    -- marks that are not ahead do not matter to work that is
    pub Answer-ahead : (left : ℕ) (otherwise : Hit) (marks : List Pair) (work : List Task) (slots : Slots) (g : Hit)
        → ((k : Pair) → In (Explore k) work → ahead k) → ((x : Pair) → In x marks → ahead x → ⊥)
        → ExploresTo space target left otherwise [] work slots g
        → ExploresTo space target left otherwise marks work slots g
    Answer-ahead left otherwise marks work slots g comes past =
        Answer-along left left (omega arith) otherwise [] marks work slots g
        (λ k i. IsFirst-ahead space.edges target ahead closed [] marks (λ x b m. absurd m)
        (λ x b m. past x m b) k (comes k i))

    -- a pair that is not ahead, marked, does not matter to pairs that are
    FirstAmong-ahead : (v : Pair) → (ahead v → ⊥) → (es : List Pair) → ((w : Pair) → In w es → ahead w)
        → (r : Option (List Pair)) → FirstAmong space.edges target [] es r → FirstAmong space.edges target (v ∷ []) es r
    FirstAmong-ahead v behind [] leaves r h = h
    FirstAmong-ahead v behind (e ∷ es) leaves r h =
        let moved : (s : Option (List Pair)) → IsFirst space.edges target [] e s
        → IsFirst space.edges target (v ∷ []) e s =
        IsFirst-ahead space.edges target ahead closed [] (v ∷ []) (λ x b m. absurd m)
        (λ x b m. elim m [ inl here ↦ absurd (behind (rw here at b)) | inr never ↦ never ]) e (leaves e (inl refl)) in
        elim h [
          | inl k ↦ inl (k.0, moved (Some k.0) k.1, k.2)
          | inr k ↦ inr (moved None k.0, FirstAmong-ahead v behind es (λ w i. leaves w (inr i)) r k.1)
        ]

    -- the next position: what was put aside is taken up in turn, with no marks
    pub AnswerBehind-round : (left : ℕ) (front : List (Pair × Slots)) (otherwise : Hit) (marks : List Pair)
        (waiting : List Task) (slots old after : Slots) (g : Hit)
        → ((a : Pair × Slots) → In a front → (target a.0 ≡ false) × (space.capture a.0 ≡ None) × (ahead a.0 → ⊥)
        × ((w : Pair) → In w (space.edges a.0) → ahead w))
        → ((k : Pair) → In (Explore k) waiting → ahead k) → ((x : Pair) → In x marks → ahead x → ⊥)
        → ExploresTo space target left otherwise [] (next_tasks space.edges front (Load old ∷ waiting)) after g
        → ExploresAfter space target left front otherwise marks (Load old ∷ waiting) slots g
    unfolding ExploresTo ExploresAfter next_tasks
    AnswerBehind-round left [] otherwise marks waiting slots old after g rests comes past h =
        Answer-ahead left otherwise marks waiting old g comes past h
    AnswerBehind-round left (a ∷ front) otherwise marks waiting slots old after g rests comes past h =
        let at = rests a (inl refl) in
        let first : (r : Option (List Pair)) → FirstAmong space.edges target [] (space.edges a.0) r
        → IsFirst space.edges target [] a.0 (option_map (λ p. a.0 ∷ p) r) =
        (search (rules, FirstAmong-ahead, IsFirst-step)) in
        elim (Answer-among left otherwise [] (space.edges a.0)
        (next_tasks space.edges front (Load old ∷ waiting)) a.1 g h) [
          | inl k ↦
              let some = IsFirstOfAll-from_among space.edges target [] (space.edges a.0) (Some k.0) k.1 in
              grind (arith, found-cons)
          | inr k ↦ grind (arith, AnswerBehind-round left front otherwise marks waiting slots old a.1 g)
        ]
