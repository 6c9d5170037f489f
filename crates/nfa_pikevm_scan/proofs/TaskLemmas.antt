-- The work of a position: what may be left out of it, and how the start joins it.
use Rattle.nfa_pikevm_scan.proofs.Common.{Bool, Explore, ExploresAfter, ExploresTo, Frontier, Hit, In, IsFirst, List, Load, None, Pair, Searching, Slots, Space, Starts, Task, [], ap, arith, blank, cases_lt, inl, inr, map, moves, next_tasks, refl, seeds, starts_from, suc, tasks, with_start, zero, ℕ, ◌++◌, ◌+◌, ◌<◌, ◌↔◌, ◌∷◌, ◌≡◌, ◌≤◌, ◌⊎◌}
use Rattle.nfa_paths.proofs.SearchLemmas.{Answer-more, Answer-seeds, AnswerBehind-along}
use Rattle.nfa_paths.proofs.StartLemmas.{pairs_from-end, pairs_from-step}

-- how the start joins

-- a state after the others
pub tasks-join : (at : ℕ) (items : List (ℕ × Slots)) (state : ℕ) (row : Slots) (work : List Task)
    → tasks at (items ++ (state, row) ∷ []) work ≡ tasks at items (Load row ∷ Explore (state, at) ∷ work)
tasks-join at [] state row work = refl
tasks-join at (i ∷ items) state row work = ap (λ w. Load i.1 ∷ Explore (i.0, at) ∷ w)
    (tasks-join at items state row work)

-- the first of the starts that are left
pub starts_from-step : (width state : ℕ) {at limit : ℕ} → at < limit
    → starts_from width state at limit ≡ Explore (state, at) ∷ Load (blank width)
    ∷ starts_from width state (at + 1) limit
unfolding seeds
starts_from-step width state less = ap (seeds (blank width)) (pairs_from-step state less)

-- no start is left
pub starts_from-end : (width state : ℕ) {at limit : ℕ} → limit ≤ at → starts_from width state at limit ≡ []
unfolding seeds
starts_from-end width state past = ap (seeds (blank width)) (pairs_from-end state past)

-- the start joins the states at the position
pub tasks-joins : (width state at limit : ℕ) (items : List (ℕ × Slots)) → at < limit
    → tasks at items (Load (blank width) ∷ starts_from width state at limit)
    ≡ tasks at (items ++ (state, blank width) ∷ []) (Load (blank width) ∷ starts_from width state (at + 1) limit)
tasks-joins width state at limit items less = grind (arith, starts_from-step, tasks-join)

-- if it does not, no start is left
pub tasks-alone : (width state at limit : ℕ) (items : List (ℕ × Slots)) → limit ≤ at
    → tasks at items (Load (blank width) ∷ starts_from width state at limit)
    ≡ tasks at items (Load (blank width) ∷ starts_from width state (at + 1) limit)
tasks-alone width state at limit items past = grind (arith, starts_from-end)

-- both
pub tasks-joined : (starts : Starts) (width at : ℕ) (items : List (ℕ × Slots))
    → tasks at items (Load (blank width) ∷ starts_from width starts.state at starts.limit) ≡ tasks at
    (with_start starts width at items) (Load (blank width) ∷ starts_from width starts.state (at + 1) starts.limit)
tasks-joined starts width at items = grind (arith, tasks-joins, tasks-alone)

-- work that answers for other work

-- Whatever the work `less` answers, `more` answers too; and what is loaded before does not matter to either.
pub record AnswersFor (space : Space) (target : Pair → Bool) (more less : List Task) : Type 0 where
  pub back : (left : ℕ) (otherwise : Hit) (marks : List Pair) (slots after : Slots) (g : Hit)
      → ExploresTo space target left otherwise marks less after g
      → ExploresTo space target left otherwise marks more slots g

module _ (space : Space) (target : Pair → Bool) where
  -- work that loads slots first answers for itself
  pub AnswersFor-same : (old : Slots) (work : List Task) → AnswersFor space target (Load old ∷ work) (Load old ∷ work)
  unfolding ExploresTo
  AnswersFor-same old work = record { back = λ left otherwise marks slots after g h. h }

  -- one after the other
  pub AnswersFor-then : {a b c : List Task} → AnswersFor space target a b → AnswersFor space target b c
      → AnswersFor space target a c
  AnswersFor-then f k = record {
    back = λ left otherwise marks slots after g h. f.back left otherwise marks slots after
        g (k.back left otherwise marks after after g h);
  }

  -- slots that are loaded in vain
  pub AnswersFor-load : {a b : List Task} (old : Slots) → AnswersFor space target a b
      → AnswersFor space target (Load old ∷ a) b
  unfolding ExploresTo
  AnswersFor-load old f = grind arith

  -- below one more state
  pub AnswersFor-item : {a b : List Task} (old : Slots) (v : Pair) → AnswersFor space target a b
      → AnswersFor space target (Load old ∷ Explore v ∷ a) (Load old ∷ Explore v ∷ b)
  unfolding ExploresTo
  AnswersFor-item old v f = grind arith

  -- below the states of a position
  pub AnswersFor-tasks : {a b : List Task} (at : ℕ) (items : List (ℕ × Slots)) → AnswersFor space target a b
      → AnswersFor space target (tasks at items a) (tasks at items b)
  AnswersFor-tasks at [] f = f
  AnswersFor-tasks at (i ∷ items) f = AnswersFor-item i.1 (i.0, at) (AnswersFor-tasks at items f)

  -- a start from which no target is reached
  pub AnswersFor-dead : (slots : Slots) (v : Pair) (work : List Task)
      → ((marks : List Pair) → IsFirst space.edges target marks v None)
      → AnswersFor space target (Load slots ∷ Explore v ∷ Load slots ∷ work) (Load slots ∷ work)
  unfolding ExploresTo
  AnswersFor-dead slots v work dead = record { back = λ left otherwise marks s after g h. inr (dead marks, h) }

  -- what was put aside, as the states of the next position
  pub AnswersFor-round : (at : ℕ) (front : Frontier) (old : Slots) (waiting : List Task)
      → ((a : Pair × Slots) → In a front → (space.edges a.0 ≡ []) ⊎ ((t : ℕ) × (space.edges a.0 ≡ (t, at + 1) ∷ [])))
      → AnswersFor space target (next_tasks space.edges front (Load old ∷ waiting))
      (tasks (at + 1) (moves space.edges front) (Load old ∷ waiting))
  unfolding next_tasks
  AnswersFor-round at [] old waiting one = AnswersFor-same old waiting
  AnswersFor-round at (a ∷ front) old waiting one =
      let rest = AnswersFor-round at front old waiting (λ b i. one b (inr i)) in
      elim (one a (inl refl)) [
        | inl none ↦ rw none (AnswersFor-load a.1 rest)
        | inr some ↦ rw some.1 (AnswersFor-item a.1 (some.0, at + 1) rest)
      ]

  -- the search goes on with the work that answers for what was left
  pub Searching-for : {goal : Hit → ℕ → Type 0} {Seen : Pair → Type 0} {spent : ℕ} {front : List (Pair × Slots)}
      {otherwise : Hit} {more less : List Task} {slots : Slots}
      → Searching space target goal Seen spent front otherwise more slots → AnswersFor space target more less
      → (after : Slots) → Searching space target goal Seen spent front otherwise less after
  Searching-for {front = front} {otherwise} {more} {less} {slots} s f after = record {
    marks = s.marks;
    agrees = s.agrees;
    leads = λ g left total e h.
        s.leads g left total e
        (AnswerBehind-along space target front left left (omega arith) otherwise otherwise s.marks s.marks less
        more after slots g
        (f.back left otherwise s.marks slots after g) h);
  }

  -- other words for what is seen
  pub Searching-seen : {goal : Hit → ℕ → Type 0} {Seen : Pair → Type 0} {spent : ℕ} {front : List (Pair × Slots)}
      {otherwise : Hit} {work : List Task} {slots : Slots}
      → Searching space target goal Seen spent front otherwise work slots → (After : Pair → Type 0)
      → ((v : Pair) → Seen v ↔ After v) → Searching space target goal After spent front otherwise work slots
  Searching-seen s After agree = grind (arith, agree, s.agrees)

  -- a search begins after some turns
  pub Searching-begin : (Seen : Pair → Type 0) (spent : ℕ) (otherwise : Hit) (starts : List Pair)
      (slots current : Slots) → ((v : Pair) → Seen v → ⊥)
      → Searching space target (λ g total. ExploresTo space target total otherwise [] (map Explore starts)
      slots g) Seen spent [] otherwise (Load slots ∷ seeds slots starts) current
  unfolding ExploresTo ExploresAfter
  Searching-begin Seen spent otherwise starts slots current fresh = grind (arith, Answer-more, Answer-seeds)

-- starts that are passed over

module _ (space : Space) (target : Pair → Bool) (width state limit : ℕ) where
  -- one that is passed over
  pub AnswersFor-pass : (at : ℕ) → ((marks : List Pair) → IsFirst space.edges target marks (state, at) None)
      → AnswersFor space target (Load (blank width) ∷ starts_from width state at limit)
      (Load (blank width) ∷ starts_from width state (at + 1) limit)
  AnswersFor-pass at dead =
      elim (cases_lt at limit) [
        | inl less ↦
            rw (starts_from-step width state less)
            (AnswersFor-dead space target (blank width) (state, at) (starts_from width state (at + 1) limit) dead)
        | inr past ↦ grind (arith, starts_from-end, AnswersFor-same)
      ]

  -- and so all up to a position
  pub AnswersFor-skip : (count at to : ℕ) → to ≡ at + count
      → ((k : ℕ) → at ≤ k → k < to → (marks : List Pair) → IsFirst space.edges target marks (state, k) None)
      → AnswersFor space target (Load (blank width) ∷ starts_from width state at limit)
      (Load (blank width) ∷ starts_from width state to limit)
  AnswersFor-skip zero at to is dead =
      let same : to ≡ at = omega arith in
      rw same (AnswersFor-same space target (blank width) (starts_from width state at limit))
  AnswersFor-skip (suc count) at to is dead =
      let next : to ≡ at + 1 + count = omega arith in
      AnswersFor-then space target (AnswersFor-pass at (dead at (omega arith) (omega arith)))
      (AnswersFor-skip count (at + 1) to next (λ k h l. dead k (omega arith) l))
