-- Items that are all `Ok`, and the one error that may end them.
use Rattle.nfa_paths.proofs.Common.{◌≡◌, ◌≤◌, inl, inr, refl, ap, subst, arith, Option, None, Some, Result, Ok, Err, List, [], ◌∷◌, ◌++◌, map, All, IfOk, IfErr, All-nil, All-cons, Search, Span}
use Rattle.nfa_search_base.specs.Common.{item_by, IsStep, Fails, ItemsGiven, ItemsNext, ItemsLast, OksGiven, IterState, Answer, AnswerIsInside, fresh, after, answer_span, SearchError, Memory}
use Rattle.nfa_search_base.proofs.IterStateLemmas.{IsOrdered}
use Rattle.nfa_search_base.proofs.ItemLemmas.{EndsAt, ItemsOf, Last, Next}
use Rattle.nfa_search_base.proofs.ListLemmas.{as_items, last-next, step-asked, step-lies}
use Rattle.nfa_search_base.proofs.StepLemmas.{chosen}

-- values as items
abbrev pub oked : {Y : Type 0} → List Y → List (Result Y SearchError)
oked ys = map Ok ys

pub oked-more : {Y : Type 0} (ys : List Y) (y : Y) → oked ys ++ Ok y ∷ [] ≡ oked (ys ++ y ∷ [])
oked-more [] y = refl
oked-more {Y} (x ∷ ys) y = ap (λ (l : List (Result Y SearchError)). Ok x ∷ l) (oked-more ys y)

oks : {Y : Type 0} (xs : List (Result Y SearchError)) (ys : List Y) (i : Result Y SearchError) (y : Y) → xs ≡ oked ys
    → i ≡ Ok y → xs ++ i ∷ [] ≡ oked (ys ++ y ∷ [])
oks xs ys i y is ok = rw (is, ok) (oked-more ys y)

pub no-items : {X Y : Type 0} (view : Y → X) (xs : List (Result Y SearchError)) → map (item_by view) xs ≡ [] → xs ≡ []
no-items view [] h = refl
no-items view (y ∷ ys) h = cc

-- What the calls of an iterator give, if its items are all `Ok`.
pub record OkedAs {Y : Type 0} (First Whole : List (Result Y SearchError) → Type 0) (FirstOk WholeOk : List Y → Type 0)
    : Type 0 where
  pub first : (ys : List Y) → First (oked ys) → FirstOk ys
  pub whole : (ys : List Y) → Whole (oked ys) → WholeOk ys

pub oks-given : {T Y : Type 0} {First Whole : List (Result Y SearchError) → Type 0} {FirstOk WholeOk : List Y → Type 0}
    {steps : T → Option (Result Y SearchError) → T → Type 0} {s : T} → OkedAs First Whole FirstOk WholeOk
    → ItemsGiven steps First Whole s → OksGiven steps FirstOk WholeOk s
oks-given {First = First} {Whole = Whole} taken given = record {
  runs = λ p seen from ys are.
      let k = given.runs p seen from in
      (taken.first ys (subst First are k.0), λ whole. taken.whole ys (subst Whole are (k.1 whole)));
  first = λ xs t ys ran are. taken.first ys (subst First are (given.first xs t ran));
  next = λ xs t i u ys y ran st are ok.
      taken.first (ys ++ y ∷ []) (subst First (oks xs ys i y are ok) (given.next xs t i u ran st));
  all = λ xs t u ys ran st are. taken.whole ys (subst Whole are (given.all xs t u ran st));
}

-- What searches answer, as their contracts say. Without an error, that is the answer of a `clean` search, which is in
-- its span.
pub record ResultsOf {X : Type 0} (span : X → Span) : Type 1 where
  pub tells : Search → Answer X → Type 0
  pub clean : Search → Answer X → Type 0
  pub ok : (t : Search) (o : Option X) → tells t (Ok o) → clean t (Ok o)
  pub lies : (t : Search) (a : Answer X) → clean t a → AnswerIsInside span t a × IsOrdered (answer_span span a)

module _ {S X Y : Type 0} (items : ItemsOf S X Y) (results : ResultsOf items.span) where
  -- what a step answers
  abbrev Tells : IterState → Answer X → Type 0
  Tells = IsStep items.span results.tells

  abbrev Clean : IterState → Answer X → Type 0
  Clean = IsStep items.span results.clean

  -- a step without an error is a clean one
  pub ok-step : (w : IterState) (o : Option X) → Tells w (Ok o) → Clean w (Ok o)
  ok-step w o h = grind (arith, chosen)

  -- so items that are all `Ok` are those of clean searches
  pub next-clean : (w : IterState) (ys : List Y) → Next items results.tells w (oked ys)
      → ItemsNext items.span results.clean (Fails items.span results.clean) w (as_items (map items.view ys))
  next-clean w [] h = tt
  next-clean w (y ∷ ys) h =
      (ok-step w (Some (items.view y)) h.0, next-clean (after w (Some (items.span (items.view y)))) ys h.1)

  pub last-clean : (w : IterState) (ys : List Y) → Last items results.tells w (oked ys)
      → ItemsLast items.span results.clean (Fails items.span results.clean) w (as_items (map items.view ys))
  last-clean w [] h = ok-step w None h
  last-clean w (y ∷ ys) h =
      (ok-step w (Some (items.view y)) h.0, last-clean (after w (Some (items.span (items.view y)))) ys h.1)

  -- if the search can only give one error, so can its first step
  module _ (x : Search) (error : SearchError) (only : (a : Answer X) → results.tells x a → a ≡ Err error) where
    pub only-step : (a : Answer X) → Tells (fresh x) a → a ≡ Err error
    only-step a h = grind (arith)

    -- and this error is the only item
    pub only-next : (y : Result Y SearchError) (xs : List (Result Y SearchError))
        → Next items results.tells (fresh x) (y ∷ xs) → y ∷ xs ≡ Err error ∷ []
    only-next (Ok y) xs h = let k = only-step (Ok (Some (items.view y))) h.0 in cc
    only-next (Err r) xs h = elim (items.refused (Tells (fresh x)) r h.0) [
      | inl step ↦
          let is = only-step (Err r) step in
          let same : r ≡ error = cc in
          rw (same, no-items items.view xs h.1) refl
      | inr other ↦ let k = only-step (Ok (Some other.1)) other.2 in cc
    ]

    pub only-item : (xs : List (Result Y SearchError)) → Last items results.tells (fresh x) xs → xs ≡ Err error ∷ []
    only-item [] h = let k = only-step (Ok None) h in cc
    only-item (y ∷ xs) h = only-next y xs
        (last-next items.span results.tells (EndsAt items results.tells) (fresh x)
        (map (item_by items.view) (y ∷ xs)) h)

  -- Of an iteration over x.
  module _ (x : Search) where
    -- it goes on in the span of x
    abbrev pub GoesOnIn : IterState → Type 0
    GoesOnIn w = (x.start ≤ w.at.start) × (w.at.end ≡ x.end)

    after-step : (w : IterState) (y : Y) → GoesOnIn w → Clean w (Ok (Some (items.view y)))
        → GoesOnIn (after w (Some (items.span (items.view y))))
    after-step w y in_span step = grind (arith, step-lies)

    -- what steps in the span show of their items is true of all items
    module _ (Holds : Result Y SearchError → Type 0)
        (shows : (w : IterState) (y : Y) → GoesOnIn w → Clean w (Ok (Some (items.view y))) → Holds (Ok y))
        (ends : (w : IterState) (r : SearchError) → GoesOnIn w → EndsAt items results.tells w r → Holds (Err r)) where
      items-hold : (xs : List (Result Y SearchError)) (w : IterState) → GoesOnIn w → Next items results.tells w xs
          → All Holds xs
      items-hold [] w in_span h = All-nil Holds
      items-hold (Ok y ∷ xs) w in_span h =
          let step = ok-step w (Some (items.view y)) h.0 in
          All-cons Holds (Ok y) xs (shows w y in_span step)
          (items-hold xs (after w (Some (items.span (items.view y)))) (after-step w y in_span step) h.1)
      items-hold (Err r ∷ xs) w in_span h = rw (no-items items.view xs h.1)
          (All-cons Holds (Err r) [] (ends w r in_span h.0) (All-nil Holds))

    -- and so is what they show of values
    pub values-hold : (Holds : Y → Type 0)
        → ((w : IterState) (y : Y) → GoesOnIn w → Clean w (Ok (Some (items.view y))) → Holds y)
        → (xs : List (Result Y SearchError)) → Next items results.tells (fresh x) xs → All (λ item. IfOk item Holds) xs
    values-hold Holds shows xs h =
        items-hold (λ item. IfOk item Holds) shows (λ w r in_span ends. tt) xs (fresh x) (omega arith, refl) h

    -- if the only error of a search in the span is `Memory`, it is the only error of an item
    module _ (memory : (t : Search) (e : SearchError) → x.start ≤ t.start → t.end ≡ x.end → results.tells t (Err e)
        → e ≡ Memory) where
      pub error-memory : (w : IterState) (r : SearchError) → GoesOnIn w → EndsAt items results.tells w r → r ≡ Memory
      error-memory w r in_span h = grind (arith, step-asked)

      pub errors-memory : (xs : List (Result Y SearchError)) → Next items results.tells (fresh x) xs
          → All (λ item. IfErr item (λ error. error ≡ Memory)) xs
      errors-memory xs h = items-hold (λ item. IfErr item (λ error. error ≡ Memory)) (λ w y in_span step. tt)
          error-memory xs (fresh x) (omega arith, refl) h
