-- the iterators that keep their finder or engine
use Rattle.nfa_paths.proofs.Common.{YieldsList, ◌≡◌, ◌+◌, ◌<◌, false, Option, None, Some, Result, Ok, Err, IsOk, OnSome, List, [], ◌∷◌, sym, ◌∙◌, ap, inl, inr, arith, Search, Span, Input}
use Rattle.nfa_search_base.specs.Common.{IsCallableOn, SameButStart, Finds, Answer, AnswerIsInside, ends_left, Item, item_by, items_left, matches_left, matches_in, greedy_unless, ServesOnAlong, WithCache, steps_whole, GivesItem, ends_at, stored_match_steps, steps_iter_state, can_step, can_step_infallibly, takes_steps, takes_infallible_steps, steps_left, infallible_left, AlwaysYields, MakesProgress, Mut, result_transpose, Bor, SearchError, Steps}
use Rattle.nfa_search_base.proofs.AskingLemmas.{Along-weaker}
use Rattle.nfa_search_base.proofs.StepLemmas.{CallsOf, asks_in, chosen, Along-turn, Along-answer, step-whole}
use Rattle.nfa_search_base.proofs.GreedyLemmas.{try-yields}

no_err : {X : Type 0} (a : Answer X) (e : SearchError) → IsOk a → Some (Err e) ≡ result_transpose a → ⊥
no_err (Ok (Some x)) e ok is = cc
no_err (Ok None) e ok is = cc
no_err (Err x) e ok is = cc

-- Calls of the iterator.
module _ {S X Y : Type 0} (calls : CallsOf S X Y) where
  abbrev pub steps_by : Steps S → Option (Result Y SearchError) → Steps S → Type 0
  steps_by = takes_steps calls.span calls.asks calls.gives

  module _ (P : Search → Answer X → Type 0) where
    abbrev can : Steps S → Type 0
    can q = ServesOnAlong calls.accepts calls.asks SameButStart P q.backend (steps_iter_state q).at

    -- a step leaves an iterator that may go on, with fewer items to come
    pub takes-progress : (s t : Steps S) (r : Option (Result Y SearchError)) → can s → steps_by s r t
        → MakesProgress can steps_left s r t
    takes-progress s t r may st = elim (chosen s.done st) [
      | inl p ↦ rw p.1.0 (record { on = λ f. tt; keeps = tt; rests = λ f. tt })
      | inr p ↦ of r p.0 p.1.fewer (Along-turn p.1.step may p.1.same)
    ]
      where
        of : (r : Option (Result Y SearchError)) → s.done ≡ false
            → OnSome r (items_left t.done (steps_iter_state t) < items_left false (steps_iter_state s)) → can t
            → MakesProgress can steps_left s r t
        of None going less after = record { on = λ f. tt; keeps = tt; rests = λ f. tt }
        of (Some y) going less after =
            record { on = λ f. (after, tt, rw going less); keeps = after; rests = λ f. tt }

-- If a part of the state is borrowed, a step is one of the iterator that keeps the whole state.
module _ {S C T X Y : Type 0} (whole : WithCache S C → T) (calls : CallsOf T X Y) (s t : Steps (WithCache S C))
    (r : Option (Result Y SearchError))
    (st : takes_steps calls.span (asks_in whole calls) (λ q. calls.gives (whole q)) s r t) where
  pub takes-whole : steps_by calls (steps_whole whole s) r (steps_whole whole t)
  takes-whole = grind (arith, step-whole)

  pub progress-whole : can_step calls.accepts calls.asks calls.span (steps_whole whole s)
      → MakesProgress (can_step calls.accepts calls.asks calls.span) steps_left (steps_whole whole s) r
      (steps_whole whole t)
  progress-whole may = takes-progress calls (AnswerIsInside calls.span) (steps_whole whole s) (steps_whole whole t) r
      may takes-whole

-- if no call fails, the matches stay in the span
pub surely-inside : {S X Y : Type 0} (accepts : S → Search → Type 0) (asks : S → Search → Answer X → S → Type 0)
    (span : X → Span) (view : Y → X) (s : Steps S) → can_step_infallibly accepts asks span s
    → can_step accepts asks span s
surely-inside accepts asks span view s h = Along-weaker (λ t a p. p.0) h

-- A call of an iterator over matches whose finder never fails.
pub record SureCall {A X F : Type 0} (view : A → X) (span : X → Span)
    (g : Mut F (Bor Input × Unit {0}) (Result (Option A) SearchError)) (s : Steps F)
    (r : Option (Result A SearchError)) (t : Steps F) : Type 0 where
  pub may : can_step_infallibly (IsCallableOn g) (Finds view g) span s
  pub took : stored_match_steps view span g s r t

module _ {A X F : Type 0} {view : A → X} {span : X → Span}
    {g : Mut F (Bor Input × Unit {0}) (Result (Option A) SearchError)} {s t : Steps F}
    {r : Option (Result A SearchError)} (call : SureCall view span g s r t) where
  -- it gives no error
  pub never-err : (e : SearchError) → r ≡ Some (Err e) → ⊥
  never-err e is = elim (chosen s.done call.took) [
    | inl p ↦ let k : None ≡ Some (Err e) = sym p.1.0 ∙ is in cc
    | inr p ↦ let gives = p.1.item in no_err p.1.answer e (Along-answer p.1.step call.may).1.1 (rw is at gives)
  ]

  -- after a match the iterator may go on, and fewer ends are left: progress
  pub sure-some : (m : A) (r' : Option A) → r ≡ Some (Ok m) → r' ≡ Some m
      → MakesProgress (can_step_infallibly (IsCallableOn g) (Finds view g) span) infallible_left s r' t
  sure-some m r' is is' = elim (chosen s.done call.took) [
    | inl p ↦ let k : None ≡ Some (Ok m) = sym p.1.0 ∙ is in cc
    | inr p ↦
        let some = p.1.fewer in
        let going : t.done ≡ false = p.1.ends ∙ ap ends_at is in
        let fewer : items_left t.done (steps_iter_state t) < items_left false (steps_iter_state s) = rw is at some in
        let ends : ends_left (steps_iter_state t) + 1 < ends_left (steps_iter_state s) + 1 = rw going at fewer in
        let less : matches_left t.done (steps_iter_state t) < matches_left s.done (steps_iter_state s) =
        rw (p.0, going) (omega arith) in
        let can = Along-turn p.1.step call.may p.1.same in
        rw is' (record { on = λ f. (can, tt, less); keeps = can; rests = λ f. tt })
  ]

  -- and so is none
  pub sure-none : (r' : Option A) → r' ≡ None
      → MakesProgress (can_step_infallibly (IsCallableOn g) (Finds view g) span) infallible_left s r' t
  sure-none r' is = rw is (record { on = λ f. tt; keeps = tt; rests = λ f. tt })

-- The items of an iterator whose calls never fail are the matches among those of the iterator that it was.
module _ {S X Y : Type 0} (accepts : S → Search → Type 0) (asks : S → Search → Answer X → S → Type 0) (span : X → Span)
    (view : Y → X) where
  abbrev steps : Steps S → Option (Result Y SearchError) → Steps S → Type 0
  steps s r t = takes_steps span asks (λ q. GivesItem view) s r t

  abbrev sure_steps : Steps S → Option Y → Steps S → Type 0
  sure_steps s r t = takes_infallible_steps span asks (λ q. GivesItem view) s r t

  -- if there is no step, any list is given
  no_steps : (zs : List X) (s : Steps S) → ((j : Steps S) → ¬ (sure_steps s None j))
      → ((x : Y) (j : Steps S) → ¬ (sure_steps s (Some x) j)) → AlwaysYields sure_steps view s zs
  no_steps [] s none some = some
  no_steps (z ∷ zs) s none some = (none, λ x j st. absurd (some x j st))

  -- the matches are those of the items
  yields : (ys : List (Item X)) (s : Steps S) → AlwaysYields steps (item_by view) s ys
      → AlwaysYields sure_steps view s (matches_in ys)
  yields [] s h = λ x j st. h (Ok x) j st
  yields (Ok y ∷ ys) s h = (
    (λ j st. h.0 j st),
    (λ x j st. let k = h.1 (Ok x) j st in let e : Ok (view x) ≡ Ok y = k.0 in let same : view x ≡ y = cc in
        (same, yields ys j k.1)),
  )
  yields (Err e ∷ ys) s h = no_steps (matches_in ys) s (λ j st. h.0 j st)
      (λ x j st. let k : Ok (view x) ≡ Err e = (h.1 (Ok x) j st).0 in cc)

  -- so they are the matches of the greedy list, if calls answer as h does
  pub sure-yields : (h : Search → Answer X) (s : Steps S)
      → ServesOnAlong accepts asks SameButStart (λ t a. a ≡ h t) s.backend (steps_iter_state s).at
      → YieldsList sure_steps view s (matches_in (greedy_unless span s.done h (steps_iter_state s)))
  sure-yields h s computes = record {
    runs = yields (greedy_unless span s.done h (steps_iter_state s)) s
        (try-yields accepts asks span view h s computes).runs;
  }
