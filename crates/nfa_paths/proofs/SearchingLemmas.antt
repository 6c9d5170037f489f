-- The steps of the search and of a scan, as a loop takes them.
use Rattle.nfa_paths.proofs.Common.{◌≡◌, ℕ, suc, ◌+◌, ◌≤◌, arith, ◌⊎◌, ◌↔◌, Bool, false, List, [], ◌∷◌, ◌++◌, map, length, get_or, set, refl, rules, Option, None, Some, Pair, Space, In, Slots, Hit, Task, ExploresTo, ExploresAfter, next_tasks, Searching, Explore, Restore, Load, ◌<◌, inl, inr, true, NoRepeats, found, before_match, IsFrontier, IsOver, Scanning}
use Rattle.nfa_paths.proofs.SearchLemmas.{Answer-marked, Answer-plain, Answer-write, Answer-unkept, AnswerBehind-along, AnswerBehind-keep, AnswerBehind-round, AnswerBehind-cut}
use Rattle.nfa_paths.proofs.FrontierMatchLemmas.{before_match-plain, before_match-among}

module _ (space : Space) (target : Pair → Bool) where
  -- nothing is seen yet
  pub Searching-start : (Seen : Pair → Type 0) (otherwise : Hit) (work : List Task) (slots : Slots)
      → ((x : Pair) → Seen x → ⊥)
      → Searching space target (λ g total. ExploresTo space target total otherwise [] work slots g) Seen 0
      [] otherwise work slots
  unfolding ExploresAfter
  Searching-start Seen otherwise work slots fresh = grind arith

  -- nothing is left to do, and nothing was put aside
  pub Searching-done : {goal : Hit → ℕ → Type 0} {Seen : Pair → Type 0} {spent : ℕ} {otherwise : Hit}
      {slots : Slots} → Searching space target goal Seen spent [] otherwise [] slots → goal otherwise spent
  unfolding ExploresTo ExploresAfter
  Searching-done {spent = spent} s = s.leads _ 0 spent (omega arith) refl

  -- what is left may change if its answers lead back
  pub Searching-along : {goal : Hit → ℕ → Type 0} {Seen : Pair → Type 0} {spent : ℕ} {front next : List (Pair × Slots)}
      {otherwise other : Hit} {work rest : List Task} {slots after : Slots}
      → ((left : ℕ) (marks : List Pair) (g : Hit) → ExploresAfter space target left next other marks rest after g
      → ExploresAfter space target left front otherwise marks work slots g)
      → Searching space target goal Seen spent front otherwise work slots
      → Searching space target goal Seen spent next other rest after
  Searching-along back s = record {
    marks = s.marks;
    agrees = s.agrees;
    leads = λ g left total e h. s.leads g left total e (back left s.marks g h);
  }

  module _ {goal : Hit → ℕ → Type 0} {Seen : Pair → Type 0} {spent : ℕ} {front : List (Pair × Slots)}
      {otherwise : Hit} {rest : List Task} {slots : Slots} where
    -- a slot is restored
    pub Searching-restore : {k : ℕ} {old : Option ℕ}
        → Searching space target goal Seen spent front otherwise (Restore k old ∷ rest) slots
        → Searching space target goal Seen spent front otherwise rest (set slots k old)
    unfolding ExploresTo
    Searching-restore = Searching-along (λ left marks g h. search (rules, AnswerBehind-along))

    -- slots are loaded
    pub Searching-load : {old : Slots} → Searching space target goal Seen spent front otherwise (Load old ∷ rest) slots
        → Searching space target goal Seen spent front otherwise rest old
    unfolding ExploresTo
    Searching-load = Searching-along (λ left marks g h. search (rules, AnswerBehind-along))

  module _ {goal : Hit → ℕ → Type 0} {Seen : Pair → Type 0} {spent : ℕ} {front : List (Pair × Slots)}
      {otherwise : Hit} {v : Pair} {rest : List Task} {slots : Slots}
      (s : Searching space target goal Seen spent front otherwise (Explore v ∷ rest) slots) where
    -- a turn that finds its pair marked
    pub Searching-marked : Seen v → Searching space target goal Seen (spent + 1) front otherwise rest slots
    Searching-marked seen = record {
      marks = s.marks;
      agrees = s.agrees;
      leads = λ g left total e h.
          s.leads g (suc left) total (omega arith)
          (AnswerBehind-along space target front left (suc left) (omega arith) otherwise otherwise s.marks
          s.marks rest (Explore v ∷ rest) slots slots g
          (Answer-marked space target left otherwise s.marks v rest slots g ((s.agrees v).1 seen)) h);
    }

    module _ {After : Pair → Type 0} (fresh : ¬ (Seen v)) (adds : (x : Pair) → After x ↔ ((x ≡ v) ⊎ Seen x)) where
      -- the pair is unmarked
      free : ¬ (In v s.marks)
      free i = fresh ((s.agrees v).0 i)

      -- the marks with the pair are those that are seen after
      grows : (x : Pair) → In x (v ∷ s.marks) ↔ After x
      grows x = grind arith

      -- v is marked and gives way to `next`
      Searching-next : (next : List Task) (after : Slots)
          → ((left : ℕ) (g : Hit) → ExploresTo space target left otherwise (v ∷ s.marks) next after g
          → ExploresTo space target (suc left) otherwise s.marks (Explore v ∷ rest) slots g)
          → Searching space target goal After (spent + 1) front otherwise next after
      Searching-next next after back = record {
        marks = v ∷ s.marks;
        agrees = grows;
        leads = λ g left total e h.
            s.leads g (suc left) total (omega arith)
            (AnswerBehind-along space target front left (suc left) (omega arith) otherwise otherwise
            (v ∷ s.marks) s.marks next (Explore v ∷ rest) after slots g
            (back left g) h);
      }

      -- a pair that writes nothing gives way to its edges
      pub Searching-plain : target v ≡ false → (es : List Pair) → space.edges v ≡ es → space.capture v ≡ None
          → Searching space target goal After (spent + 1) front otherwise (map Explore es ++ rest) slots
      Searching-plain plain es leads e = grind (arith, Answer-plain, Searching-next)

      -- a pair that writes to a slot, which is restored below its edges
      pub Searching-write : target v ≡ false → (es : List Pair) → space.edges v ≡ es → (k : ℕ)
          → space.capture v ≡ Some k
          → Searching space target goal After (spent + 1) front otherwise
          (map Explore es ++ Restore k (get_or slots k None) ∷ rest) (set slots k (Some v.1))
      Searching-write plain es leads k e = grind (arith, Answer-write, Searching-next)

      -- a pair that writes to a slot that is not kept
      pub Searching-unkept : target v ≡ false → (es : List Pair) → space.edges v ≡ es → (k : ℕ)
          → space.capture v ≡ Some k → length slots ≤ k
          → Searching space target goal After (spent + 1) front otherwise (map Explore es ++ rest) slots
      Searching-unkept plain es leads k e past = search (rules, Answer-unkept, Searching-next, free)

      -- a pair whose edges lead ahead of all that is seen is put aside
      pub Searching-keep : (ahead : Pair → Type 0) → ((x y : Pair) → ahead x → In y (space.edges x) → ahead y)
          → ((w : Pair) → In w (space.edges v) → ahead w) → ((x : Pair) → Seen x → ahead x → ⊥)
          → Searching space target goal After (spent + 1) (front ++ (v, slots) ∷ []) otherwise rest slots
      Searching-keep ahead closed leaves past = record {
        marks = v ∷ s.marks;
        agrees = grows;
        leads = λ g left total e h.
            s.leads g (suc left) total (omega arith)
            (AnswerBehind-keep space target ahead closed left front otherwise s.marks v rest slots g free leaves
            (λ x i. past x ((s.agrees x).0 i)) h);
      }

  -- the next position
  pub Searching-round : {goal : Hit → ℕ → Type 0} {Seen After : Pair → Type 0} {spent : ℕ}
      {front : List (Pair × Slots)} {otherwise : Hit} {waiting : List Task} {slots old : Slots}
      → Searching space target goal Seen spent front otherwise (Load old ∷ waiting) slots
      → (ahead : Pair → Type 0) → ((x y : Pair) → ahead x → In y (space.edges x) → ahead y)
      → ((a : Pair × Slots) → In a front → (target a.0 ≡ false) × (space.capture a.0 ≡ None) × (ahead a.0 → ⊥)
      × ((w : Pair) → In w (space.edges a.0) → ahead w))
      → ((k : Pair) → In (Explore k) waiting → ahead k) → ((x : Pair) → Seen x → ahead x → ⊥)
      → ((x : Pair) → After x → ⊥)
      → (after : Slots) → Searching space target goal After spent [] otherwise
      (next_tasks space.edges front (Load old ∷ waiting)) after
  unfolding ExploresAfter
  Searching-round {front = front} {otherwise} {waiting} {slots} {old} s ahead closed rests comes past fresh after =
      record {
        marks = [];
        agrees = λ x. (λ i. absurd i, λ a. absurd (fresh x a));
        leads = λ g left total e h.
            s.leads g left total e
            (AnswerBehind-round space target ahead closed left front otherwise s.marks waiting slots old
            after g rests comes
            (λ x i. past x ((s.agrees x).0 i)) h);
      }

module _ (space : Space) (is_match : Pair → Bool) (slots : Slots) where
  module _ {e : ℕ} {Seen : Pair → Type 0} {spent : ℕ} {front : List (Pair × Slots)} {rest : List Task}
      {current : Slots} where
    -- slots are loaded
    pub Scanning-load : {old : Slots} → Scanning space is_match slots e Seen spent front (Load old ∷ rest) current
        → Scanning space is_match slots e Seen spent front rest old
    Scanning-load s = record { searching = λ target at. Searching-load space target (s.searching target at) }

  -- the next position
  pub Scanning-round : {e : ℕ} {Seen After : Pair → Type 0} {spent : ℕ} {front : List (Pair × Slots)}
      {waiting : List Task} {current old : Slots}
      → Scanning space is_match slots e Seen spent front (Load old ∷ waiting) current
      → ((x y : Pair) → In y (space.edges x) → x.1 ≤ y.1)
      → ((a : Pair × Slots) → In a front → (space.capture a.0 ≡ None) × (a.0.1 ≡ e)
      × ((w : Pair) → In w (space.edges a.0) → e < w.1))
      → ((k : Pair) → In (Explore k) waiting → e < k.1) → ((x : Pair) → Seen x → x.1 ≤ e) → ((x : Pair) → After x → ⊥)
      → (after : Slots) → Scanning space is_match slots (e + 1) After spent []
      (next_tasks space.edges front (Load old ∷ waiting)) after
  Scanning-round {e} s onward rests comes past fresh after = record {
    searching = λ target at.
        let sooner : (x : Pair) → target x ≡ true → (is_match x ≡ true) × (e ≤ x.1) =
        λ x t. let k : e + 1 ≤ x.1 = (at x t).1 in ((at x t).0, omega arith) in
        Searching-round space target (s.searching target sooner) (λ x. e < x.1)
        (λ x y a i. let k : x.1 ≤ y.1 = onward x y i in let l : e < x.1 = a in omega arith)
        (λ a i.
        let r = rests a i in grind arith)
        comes (λ x h a. let k : x.1 ≤ e = past x h in let l : e < x.1 = a in omega arith) fresh after;
  }

  -- the scan has nothing left to explore at e: its front is complete
  pub Scanning-front : {resting : Pair → Bool} {e : ℕ} {Seen : Pair → Type 0} {spent : ℕ} {front : List (Pair × Slots)}
      {waiting : List Task} {current : Slots} → Scanning space is_match slots e Seen spent front waiting current
      → ((a : Pair × Slots) → In a front → (resting a.0 ≡ true) × (a.0.1 ≡ e)) → NoRepeats (map (λ a. a.0) front)
      → ((k : Pair) → In (Explore k) waiting → e < k.1) → IsFrontier space resting is_match slots spent front e
  Scanning-front {e = e} {spent = spent} {waiting = waiting} {current} s rest once later = record {
    waiting = waiting;
    current = current;
    rest = rest;
    once = once;
    later = later;
    leads = λ target at.
        let found_it = s.searching target (λ x t. let k : x.1 ≡ e = (at x t).1 in ((at x t).0, omega arith)) in
        (found_it.marks, λ g h. found_it.leads g 0 spent (omega arith) h);
  }

  -- nothing was put aside and nothing waits
  pub Scanning-over : {e : ℕ} {Seen : Pair → Type 0} {spent : ℕ} {current : Slots}
      → Scanning space is_match slots e Seen spent [] [] current → IsOver space is_match slots spent e
  Scanning-over s = record { none = λ target at. Searching-done space target (s.searching target at) }

-- no pair is put aside twice
pub once-keep : (front : List (Pair × Slots)) (v : Pair) (slots : Slots) → NoRepeats (map (λ a. a.0) front)
    → ((a : Pair × Slots) → In a front → a.0 ≡ v → ⊥) → NoRepeats (map (λ a. a.0) (front ++ (v, slots) ∷ []))
once-keep [] v slots n other = (λ i. i, tt)
once-keep (b ∷ front) v slots n other = (
  λ i. elim (in_more front b.0 i) [ inl j ↦ n.0 j | inr e ↦ other b (inl refl) e ],
  once-keep front v slots n.1 (λ a i. other a (inr i)),
)
  where
    in_more : (front : List (Pair × Slots)) (x : Pair) → In x (map (λ a. a.0) (front ++ (v, slots) ∷ []))
        → In x (map (λ a. a.0) front) ⊎ (x ≡ v)
    in_more [] x i = grind arith
    in_more (c ∷ front) x i = grind (arith, in_more front x)

-- The search for any match pair, whose answer is the first path: a match pair in the front drops what comes after it.
module _ (space : Space) (target : Pair → Bool) where
  -- what comes after a target is dropped, and the target becomes the answer otherwise
  pub Searching-cut : {goal : Hit → ℕ → Type 0} {Seen : Pair → Type 0} {spent : ℕ} {otherwise : Hit}
      {work : List Task} {slots : Slots}
      (before : List (Pair × Slots)) (a : Pair × Slots) (after : List (Pair × Slots))
      → Searching space target goal Seen spent (before ++ a ∷ after) otherwise work slots → target a.0 ≡ true
      → space.capture a.0 ≡ None → Searching space target goal Seen spent before (Some a) [] slots
  Searching-cut {otherwise = otherwise} {work} {slots} before a after s t c =
      let wrote : found space.capture (a.0 ∷ []) a.1 ≡ Some a = rw c refl in
      Searching-along space target (λ left marks g h.
      AnswerBehind-cut space target left before a after otherwise marks marks work slots slots g t (rw wrote h)) s

  -- no work is left but to load
  pub Searching-wait : {goal : Hit → ℕ → Type 0} {Seen : Pair → Type 0} {spent : ℕ} {front : List (Pair × Slots)}
      {otherwise : Hit} {slots : Slots} (old : Slots) → Searching space target goal Seen spent front otherwise [] slots
      → Searching space target goal Seen spent front otherwise (Load old ∷ []) slots
  unfolding ExploresTo
  Searching-wait old = Searching-along space target (λ left marks g h. search (rules, AnswerBehind-along))

  -- The next position of the search that drops what comes after a match pair: the items before the front's first match
  -- pair go on.
  pub Searching-before_round : {goal : Hit → ℕ → Type 0} {e : ℕ} {Seen After : Pair → Type 0} {spent : ℕ}
      {otherwise : Hit} {waiting : List Task} {slots old : Slots} (front : List (Pair × Slots))
      → Searching space target goal Seen spent (before_match target front) otherwise (Load old ∷ waiting) slots
      → ((x y : Pair) → In y (space.edges x) → x.1 ≤ y.1)
      → ((a : Pair × Slots) → In a front → (space.capture a.0 ≡ None) × (a.0.1 ≡ e)
      × ((w : Pair) → In w (space.edges a.0) → e < w.1))
      → ((k : Pair) → In (Explore k) waiting → e < k.1) → ((x : Pair) → Seen x → x.1 ≤ e) → ((x : Pair) → After x → ⊥)
      → (after : Slots)
      → Searching space target goal After spent [] otherwise
      (next_tasks space.edges (before_match target front) (Load old ∷ waiting)) after
  Searching-before_round {e = e} front s onward rests comes past fresh after =
      Searching-round space target s (λ x. e < x.1)
      (λ x y a i. let k : x.1 ≤ y.1 = onward x y i in let l : e < x.1 = a in omega arith)
      (λ a i.
      let r = rests a (before_match-among target front a i) in grind (arith, before_match-plain))
      comes (λ x h a. let k : x.1 ≤ e = past x h in let l : e < x.1 = a in omega arith) fresh after
