-- the iterators over captures
use Rattle.nfa_paths.proofs.Common.{IsCollectResult, ◌≡◌, ℕ, zero, suc, ◌+◌, ◌<◌, true, false, Bool, Option, None, Some, Result, Ok, Err, IsOk, IfErr, IfOk, IfSome, List, [], ◌∷◌, map, refl, sym, ◌∙◌, ap, subst, inl, inr, arith, Search, search_of, Captured, Input}
use Rattle.nfa_search_base.specs.Common.{SameButStart, IterState, Answer, ends_left, Item, item_by, items_left, items_from, items_within, step_answer, step_iter_state, greedy, greedy_unless, ends_at, steps_iter_state, can_step_infallibly, Row, row_of, row_span, WithCaptures, GivesCaptures, UpToRefusal, YieldsUpToRefusal, filled_answer, CanFill, Fills, FillsAlong, FillsBy, takes_infallible_captures, Called, Mut, Bor, MutBor, Drains, Yields, Vec, vec_items, SearchError, Memory, Steps, stored_captures_steps}
use Rattle.nfa_search_base.proofs.AskingLemmas.{ServesOnAlong-by}
use Rattle.nfa_search_base.proofs.StepLemmas.{chosen, step-taken, Along-answer, Along-turn}
use Rattle.nfa_search_base.proofs.GreedyLemmas.{step-computes}

abbrev Caught : Type 0
Caught = Result Captured SearchError

abbrev value : Caught → Item Row
value r = item_by row_of r

-- no item came: the step had no match
at_none : {F : Type 0} (c : WithCaptures F) (a : Answer Row) (rest : List (Item Row)) → GivesCaptures c a None
    → UpToRefusal (items_from row_span a rest) []
at_none c (Ok (Some m)) rest (inl h) = cc
at_none c (Ok (Some m)) rest (inr h) = cc
at_none c (Ok None) rest h = tt
at_none c (Err e) rest h = cc

-- an item came: it is the step's, or a refusal
at_some : {F : Type 0} (c : WithCaptures F) (a : Answer Row) (rest : List (Item Row)) (x : Caught)
    (xs : List (Item Row))
    → GivesCaptures c a (Some x)
    → (ends_at (Some x) ≡ true → xs ≡ []) → (ends_at (Some x) ≡ false → UpToRefusal rest xs)
    → UpToRefusal (items_from row_span a rest) (value x ∷ xs)
at_some c (Ok (Some m)) rest (Ok d) xs (inl h) end onward = grind (arith)
at_some c (Ok (Some m)) rest (Err e) xs (inr h) end onward =
    let same : e ≡ Memory = cc in inr (refl, ap (λ (z : SearchError). Err z) same, end refl)
at_some c (Err e) rest (Err f) xs h end onward =
    let same : f ≡ e = cc in inl (ap (λ (z : SearchError). Err z) same, rw (end refl) tt)
at_some c (Ok (Some m)) rest x xs (inl h) end onward = cc
at_some c (Ok (Some m)) rest x xs (inr h) end onward = cc
at_some c a rest x xs h end onward = cc

-- if the finder does not fail, the only error is `Memory`
at_most : {F : Type 0} (c : WithCaptures F) (a : Answer Row) (r : Option Caught) → IsOk a → GivesCaptures c a r
    → IfSome r (λ item. IfErr item (λ error. error ≡ Memory))
at_most c a None ok h = tt
at_most c a (Some (Ok d)) ok h = tt
at_most c (Ok (Some m)) (Some (Err e)) ok (inl h) = cc
at_most c (Ok (Some m)) (Some (Err e)) ok (inr h) = cc
at_most c a (Some (Err e)) ok h = cc

module _ {F : Type 0} (g : Mut F (Bor Input × (MutBor Captured × Unit {0}))
    (Result (Unit {0}) SearchError × (MutBor Captured × Unit {0}))) where
  -- if the finder never fails, the only error of a step is `Memory`
  pub sure-step : (s t : Steps (WithCaptures F)) (r : Option Caught)
      → can_step_infallibly (CanFill g) (Fills g) row_span s
      → stored_captures_steps g s r t → takes_infallible_captures g s r t
  sure-step s t r can st = (
    st,
    elim (chosen s.done st) [
      | inl p ↦ rw p.1.0 tt
      | inr p ↦ at_most t.backend p.1.answer r (Along-answer p.1.step can).1.1 p.1.item
    ],
  )

  module _ (h : Search → Answer Row) where
    -- R takes these steps
    module _ (R : Steps (WithCaptures F) → Option Caught → Steps (WithCaptures F) → Type 0)
        (takes : (s : Steps (WithCaptures F)) (r : Option Caught) (t : Steps (WithCaptures F)) → R s r t
        → stored_captures_steps g s r t) where
      after_end : (s t : Steps (WithCaptures F)) (xs : List Caught) → s.done ≡ true → Yields R s xs t → xs ≡ []
      after_end s t [] d ran = refl
      after_end s t (x ∷ xs) d ran =
          let st = rw d at (takes s (Some x) ran.0 ran.1) in let e : Some x ≡ None = st.0 in cc

      within : (n : ℕ) (s : Steps (WithCaptures F)) (xs : List Caught) → FillsBy g h s.backend (steps_iter_state s).at
          → s.done ≡ false → ends_left (steps_iter_state s) < n → Drains R s xs
          → UpToRefusal (items_within row_span h n (steps_iter_state s)) (map value xs)
      within zero s xs computes d lt drains = absurd (omega arith)
      within (suc n) s [] computes d lt drains =
          let x = step-taken d (takes s None drains.0 (rw drains.1.1 drains.1.2)) in
          at_none drains.0.backend (step_answer row_span h (steps_iter_state s))
          (items_within row_span h n (step_iter_state row_span h (steps_iter_state s)))
          (rw (step-computes computes x.step).0 at x.item)
      within (suc n) s (y ∷ xs) computes d lt drains =
          let ran = drains.1.1 in
          let q = ran.0 in
          let x = step-taken d (takes s (Some y) q ran.1) in
          let e = step-computes computes x.step in
          at_some q.backend (step_answer row_span h (steps_iter_state s))
          (items_within row_span h n (step_iter_state row_span h (steps_iter_state s))) y (map value xs)
          (rw e.0 at x.item)
          (λ ends. ap (map value) (after_end q drains.1.0 xs (x.ends ∙ ends) ran.2))
          (λ on.
          let going : q.done ≡ false = x.ends ∙ on in
          let less : items_left q.done (steps_iter_state q) < items_left false (steps_iter_state s) = x.fewer in
          let fewer : ends_left (steps_iter_state q) + 1 < ends_left (steps_iter_state s) + 1 = rw going at less in
          subst (λ (w : IterState). UpToRefusal (items_within row_span h n w) (map value xs)) e.1
          (within n q xs (Along-turn x.step computes x.same) going (omega arith)
          (drains.0, (drains.1.0, ran.2, drains.1.2))))

      -- an iterator that runs to its end gives the greedy list, up to a failed allocation
      pub captures-listed : (s : Steps (WithCaptures F)) → FillsBy g h s.backend (steps_iter_state s).at
          → YieldsUpToRefusal R value s (greedy_unless row_span s.done h (steps_iter_state s))
      unfolding greedy
      captures-listed s computes = record { at = λ xs drains. at_done s.done refl xs drains }
        where
          at_done : (b : Bool) → s.done ≡ b → (xs : List Caught) → Drains R s xs
              → UpToRefusal (greedy_unless row_span b h (steps_iter_state s)) (map value xs)
          at_done true d xs drains = subst (λ (zs : List Caught). UpToRefusal [] (map value zs))
              (sym (after_end s drains.1.0 xs d drains.1.1)) tt
          at_done false d xs drains = within (suc (ends_left (steps_iter_state s))) s xs computes d (omega arith) drains

-- if an invariant of the finder and its captures holds now and after each call, what it implies holds along the calls
module _ {F : Type 0} (g : Mut F (Bor Input × (MutBor Captured × Unit {0}))
    (Result (Unit {0}) SearchError × (MutBor Captured × Unit {0}))) (P : Search → Answer Row → Type 0) where
  pub FillsAlong-by : (Inv : F → Captured → Type 0) (c : WithCaptures F) (s : Search) → Inv c.finder c.captures
      → ((f : F) (p : Bor Input) (q : MutBor Captured) → SameButStart s (search_of p.now) → Inv f q.now
      → g.pre f (p, (q, tt)))
      → ((f : F) (p : Bor Input) (q : MutBor Captured) (reply : Result (Unit {0}) SearchError) (left : MutBor Captured)
      (f' : F) → SameButStart s (search_of p.now) → Inv f q.now
      → Called g f (p, (q, tt)) (reply, (left, tt)) f' → P (search_of p.now) (filled_answer left.now reply)
      × Inv f' left.now)
      → FillsAlong g P c s
  FillsAlong-by Inv c s now may says = ServesOnAlong-by
      (λ (q : WithCaptures F). Inv q.finder q.captures) c s now
      (λ q t same inv p m e k. may q.finder p m (rw e same) (rw k inv))
      (λ q t a q' same inv filled.
      let told = says q.finder filled.shown filled.lent filled.reply filled.left q'.finder in
      let k = told (rw filled.shows same) (rw filled.lends inv) filled.called in
      (rw filled.answers (rw (filled.shows, filled.leaves) at k.0), rw filled.leaves at k.1))

-- what `collect` makes of such an iterator
pub refusal_from_collect : {T R X Z E : Type 0} {steps : T → Option R → T → Type 0} {worth : R → Item X} {s : T}
    {all : List (Item X)} (r : Result (Vec R Z) E)
    → IsCollectResult steps s r → YieldsUpToRefusal steps worth s all
    → IfOk r (λ w. UpToRefusal all (map worth (vec_items w)))
refusal_from_collect {R = R} {worth = worth} {all = all} (Ok w) d e = grind (arith)
refusal_from_collect (Err x) d e = tt
