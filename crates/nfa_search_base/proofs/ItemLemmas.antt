-- The items that the steps of an iteration give, and what each says about the answer of its step; and an iterator
-- around another one. Each is one value.
use Rattle.nfa_paths.proofs.Common.{◌≡◌, ◌⊎◌, inl, inr, refl, sym, ap, Option, None, Some, Result, Ok, Err, List, map, Search, Captured, Span, subst, [], ◌∷◌, option_map, arith}
use Rattle.nfa_search_base.specs.Common.{item_by, IsStep, ItemsLast, ItemsNext, GivesItem, takes_steps, GivesCopy, Row, row_of, row_span, Answer, IterState, SearchError, Memory, Steps, WithCache, TakesStepWith, steps_with_state, Yields}

-- What an item says about the answer of its step, if an error `ends` it.
module _ {X Y : Type 0} (view : Y → X) (a : Answer X) (ends : SearchError → Type 0) where
  abbrev pub Says : Option (Result Y SearchError) → Type 0
  Says None = a ≡ Ok None
  Says (Some (Ok y)) = a ≡ Ok (Some (view y))
  Says (Some (Err e)) = ends e

-- an item that is its answer says that it is
pub item-says : {X Y : Type 0} (view : Y → X) (step : Answer X → Type 0) (a : Answer X)
    (r : Option (Result Y SearchError))
    → GivesItem view a r → step a → Says view a (λ e. step (Err e)) r
item-says view step (Ok (Some x)) (Some (Ok y)) gives is = cc
item-says view step (Ok None) None gives is = refl
item-says {X} view step (Err q) (Some (Err e)) gives is =
    let same : (let a : Answer X = Err q in let b : Answer X = Err e in a ≡ b) = cc in rw (← same) is
item-says view step a r gives is = cc

-- a step fails, or has a match whose copy could not be allocated
abbrev pub FailsOrRefuses : {X : Type 0} → (Answer X → Type 0) → SearchError → Type 0
FailsOrRefuses {X} step e = step (Err e) ⊎ ((e ≡ Memory) × (x : X) × step (Ok (Some x)))

-- an item says what its step answers; an error may be a refusal of the copy
pub copy-says : (step : Answer Row → Type 0) (c : Captured) (a : Answer Row)
    (r : Option (Result Captured SearchError))
    → GivesCopy c a r → step a → Says row_of a (FailsOrRefuses step) r
copy-says step c (Ok (Some row)) (Some (Ok d)) (inl h) is = grind (arith)
copy-says step c (Ok (Some row)) (Some (Err e)) (inr h) is = let same : e ≡ Memory = cc in inr (same, row, is)
copy-says step c (Ok None) None h is = refl
copy-says step c (Err q) (Some (Err e)) h is =
    let same : (let a : Answer Row = Err q in let b : Answer Row = Err e in a ≡ b) = cc in inl (rw (← same) is)
copy-says step c (Ok (Some row)) r (inl h) is = cc
copy-says step c (Ok (Some row)) r (inr h) is = cc
copy-says step c a r h is = cc

-- a copy is of the captures that were left
pub copy-of : (c : Captured) (a : Answer Row) (d : Captured) → GivesCopy c a (Some (Ok d)) → d ≡ c
copy-of c (Ok (Some row)) d (inl h) = cc
copy-of c (Ok (Some row)) d (inr h) = cc
copy-of c a d h = cc

-- The items of an iteration whose state is an S. A match is an X, and an item holds a Y.
pub record ItemsOf (S X Y : Type 0) : Type 1 where
  -- the span of a match, and the match that an item holds
  pub span : X → Span
  pub view : Y → X
  -- in this state, the answer of a step gives this item
  pub gives : S → Answer X → Option (Result Y SearchError) → Type 0
  -- an error that may end the items at a step, and that a step fails with or a copy is refused by
  pub ends : (Answer X → Type 0) → SearchError → Type 0
  pub refused : (step : Answer X → Type 0) (e : SearchError) → ends step e → FailsOrRefuses step e
  -- an item says what its step answers
  pub says : (step : Answer X → Type 0) (s : S) (a : Answer X) (r : Option (Result Y SearchError)) → gives s a r
      → step a → Says view a (ends step) r

-- items that are the answers
abbrev pub items_as : {S X Y : Type 0} → (X → Span) → (Y → X) → ItemsOf S X Y
items_as span view = record {
  span = span;
  view = view;
  gives = λ s. GivesItem view;
  ends = λ step e. step (Err e);
  refused = λ step e fails. inl fails;
  says = λ step s. item-says view step;
}

-- items that are copies of the captures in the state
abbrev pub copies_of : {S : Type 0} → (S → Captured) → ItemsOf S Row Captured
copies_of captures = record {
  span = row_span;
  view = row_of;
  gives = λ s. GivesCopy (captures s);
  ends = FailsOrRefuses;
  refused = λ step e refused. refused;
  says = λ step s. copy-says step (captures s);
}

module _ {S X Y : Type 0} (items : ItemsOf S X Y) where
  -- a call of the steps
  abbrev pub StepsBy : (S → Search → Answer X → S → Type 0) → Steps S → Option (Result Y SearchError) → Steps S → Type 0
  StepsBy asks = takes_steps items.span asks items.gives

  -- Searches answer as `tells` says.
  module _ (tells : Search → Answer X → Type 0) where
    -- which error may end the items at w
    abbrev pub EndsAt : IterState → SearchError → Type 0
    EndsAt w = items.ends (IsStep items.span tells w)

    -- the next items from w on
    abbrev pub Next : IterState → List (Result Y SearchError) → Type 0
    Next w xs = ItemsNext items.span tells EndsAt w (map (item_by items.view) xs)

    -- the last items
    abbrev pub Last : IterState → List (Result Y SearchError) → Type 0
    Last w xs = ItemsLast items.span tells EndsAt w (map (item_by items.view) xs)

-- An iterator T around one whose calls are `steps`. Each item of T is an `item` of the other.
pub record ShellOf {U R I : Type 0} (steps : U → Option I → U → Type 0) (item : R → I) (T : Type 0) : Type 1 where
  pub calls : T → Option R → T → Type 0
  pub inner : T → U
  pub is : (s : T) (r : Option R) (t : T) → calls s r t → steps (inner s) (option_map item r) (inner t)

-- items as they are
pub same-item : {R : Type 0} (r : Option R) → option_map (λ (i : R). i) r ≡ r
same-item None = refl
same-item (Some i) = refl

pub same-items : {R : Type 0} (xs : List R) → map (λ (i : R). i) xs ≡ xs
same-items [] = refl
same-items {R} (x ∷ xs) = ap (λ (l : List R). x ∷ l) (same-items xs)

-- an iterator that gives the items of the other
abbrev pub plain_shell : {T U I : Type 0} {steps : U → Option I → U → Type 0} → (calls : T → Option I → T → Type 0)
    → (inner : T → U)
    → ((s : T) (r : Option I) (t : T) → calls s r t → steps (inner s) r (inner t))
    → ShellOf steps (λ (i : I). i) T
plain_shell {I = I} {steps = steps} calls inner is = record {
  calls = calls;
  inner = inner;
  is = λ s r t st. subst (λ (q : Option I). steps (inner s) q (inner t)) (sym (same-item r)) (is s r t st);
}

-- the iterator itself
abbrev pub no_shell : {U I : Type 0} → (steps : U → Option I → U → Type 0) → ShellOf steps (λ (i : I). i) U
no_shell steps = plain_shell steps (λ q. q) (λ s r t st. st)

-- the shell of an iterator that borrows a cache, as one around its steps
abbrev pub steps_in : {A C X Y R T : Type 0} {span : X → Span}
    {asks : WithCache A C → Search → Answer X → WithCache A C → Type 0}
    {gives : A → Answer X → Option (Result Y SearchError) → Type 0} {item : R → Result Y SearchError}
    → ShellOf (TakesStepWith span asks gives) item T → ShellOf (takes_steps span asks (λ q. gives q.backend)) item T
steps_in shell = record {
  calls = shell.calls;
  inner = λ q. steps_with_state (shell.inner q);
  is = λ s r t st. (shell.is s r t st).step;
}

module _ {U R I T : Type 0} {steps : U → Option I → U → Type 0} {item : R → I} (shell : ShellOf steps item T) where
  -- the calls of a shell are those of the iterator in it
  pub yields-inner : (xs : List R) (s t : T) → Yields shell.calls s xs t
      → Yields steps (shell.inner s) (map item xs) (shell.inner t)
  yields-inner [] s t ran = ap shell.inner ran
  yields-inner (x ∷ xs) s t ran =
      (shell.inner ran.0, shell.is s (Some x) ran.0 ran.1, yields-inner xs ran.0 t ran.2)
