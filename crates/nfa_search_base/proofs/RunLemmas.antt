-- The calls of an iterator that keeps its finder or engine give the items of its list.
use Rattle.nfa_paths.proofs.Common.{◌≡◌, ◌⊎◌, inl, inr, true, false, refl, sym, ap, Option, None, Some, Result, Ok, Err, List, [], ◌∷◌, ◌++◌, map, Search, Span, arith}
use Rattle.std.specs.Iterator.Runs.{YieldsRun}
use Rattle.nfa_search_base.specs.Common.{SameButStart, item_by, CallsLead, IsStep, ItemsBy, ItemsGiven, RunsGive, GivesFirst, GivesNext, ends_at, steps_iter_state, IterState, Answer, Advances, fresh, shifted, after, answer_span, Yields, SearchError, Steps}
use Rattle.nfa_search_base.proofs.AskingLemmas.{same_start-self, same_start-then}
use Rattle.nfa_search_base.proofs.ItemLemmas.{EndsAt, ItemsOf, Last, Next, Says, StepsBy, ShellOf, yields-inner}
use Rattle.nfa_search_base.proofs.StepLemmas.{chosen, same_start-after, step-shown, step-taken}

-- What is shown of the items of calls, as clauses.
module _ {T R : Type 0} (steps : T → Option R → T → Type 0) where
  -- one item more
  pub yields-more : (xs : List R) (s t u : T) (r : R) → Yields steps s xs t → steps t (Some r) u
      → Yields steps s (xs ++ r ∷ []) u
  yields-more [] s t u r ran st = (u, rw ran st, refl)
  yields-more (x ∷ xs) s t u r ran st = (ran.0, ran.1, yields-more xs ran.0 t u r ran.2 st)

  module _ (First Whole : List R → Type 0) (s : T) (first : GivesFirst steps First s)
      (all : (xs : List R) (t u : T) → Yields steps s xs t → steps t None u → Whole xs) where
    runs-give : RunsGive steps First Whole s
    unfolding YieldsRun
    runs-give = grind (arith)

    gives-next : GivesNext steps First s
    gives-next = λ xs t r u ran st. first (xs ++ r ∷ []) u (yields-more xs s t u r ran st)

    pub given : ItemsGiven steps First Whole s
    given = record { runs = runs-give; first = first; next = gives-next; all = all }

  -- the items may be known as what they imply
  pub given-as : {First Whole First' Whole' : List R → Type 0} {s : T} → ItemsGiven steps First Whole s
      → ((xs : List R) → First xs → First' xs) → ((xs : List R) → Whole xs → Whole' xs)
      → ItemsGiven steps First' Whole' s
  given-as {First' = First'} {Whole' = Whole'} {s = s} k first whole = given First' Whole' s
      (λ xs t ran. first xs (k.first xs t ran)) (λ xs t u ran st. whole xs (k.all xs t u ran st))

  -- what each call keeps, all calls keep
  module _ (Keeps : T → T → Type 0) (self : (s : T) → Keeps s s) (then : (s t u : T) → Keeps s t
      → Keeps t u → Keeps s u)
      (step : (s : T) (r : Option R) (t : T) → steps s r t → Keeps s t) where
    run-keeps : (s : T) (xs : List R) (t : T) → Yields steps s xs t → Keeps s t
    run-keeps s [] t e = rw (← e) (self s)
    run-keeps s (x ∷ xs) t e = then s e.0 t (step s (Some x) e.0 e.1) (run-keeps e.0 xs t e.2)

    pub calls-keep : (s : T) (xs : List R) (t : T) (r : Option R) (u : T) → Yields steps s xs t → steps t r u
        → Keeps s u
    calls-keep s xs t r u ran st = then s t u (run-keeps s xs t ran) (step t r u st)

-- values that calls gave, and one call more
pub calls-led : {T Y : Type 0} {steps : T → Option (Result Y SearchError) → T → Type 0} {s t : T} (ys : List Y)
    (last : T) (r : Option (Result Y SearchError)) → Yields steps s (map Ok ys) last → steps last r t
    → CallsLead steps s t
calls-led ys last r ran over = record { items = map Ok ys; last = last; item = r; ran = ran; over = over }

-- the calls of a shell give what those of the iterator in it give
pub given-inner : {U R I T : Type 0} {steps : U → Option I → U → Type 0} {item : R → I}
    (shell : ShellOf steps item T) {First Whole : List I → Type 0} {s : T}
    → ItemsGiven steps First Whole (shell.inner s)
    → ItemsGiven shell.calls (λ xs. First (map item xs)) (λ xs. Whole (map item xs)) s
given-inner {item = item} shell {First = First} {Whole = Whole} {s = s} k =
    given shell.calls (λ xs. First (map item xs)) (λ xs. Whole (map item xs)) s
    (λ xs t ran. k.first (map item xs) (shell.inner t) (yields-inner shell xs s t ran))
    (λ xs t u ran st. k.all (map item xs) (shell.inner t) (shell.inner u) (yields-inner shell xs s t ran)
    (shell.is t None u st))

-- an iterator that has ended gives nothing, and stays as it is
pub no-more : {S X Y : Type 0} (items : ItemsOf S X Y) (asks : S → Search → Answer X → S → Type 0)
    (xs : List (Result Y SearchError)) (s t : Steps S) → s.done ≡ true → Yields (StepsBy items asks) s xs t
    → (xs ≡ []) × (t ≡ s)
no-more items asks [] s t d ran = (refl, sym ran)
no-more items asks (y ∷ ys) s t d ran = let k = rw d at ran.1 in let never : Some y ≡ None = k.0 in cc

-- What answers the searches of an iteration over x, whose state is an S. It stays `Good`, and on searches like x it
-- answers as `tells` says.
pub record AnswersOf (S : Type 0) {X : Type 0} (x : Search) (tells : Search → Answer X → Type 0) : Type 1 where
  pub asks : S → Search → Answer X → S → Type 0
  pub Good : S → Type 0
  pub acts : (s : S) (t : Search) (a : Answer X) (s' : S) → SameButStart x t → Good s → asks s t a s'
      → tells t a × Good s'

-- an iterator that begins at x
pub record Begins {S : Type 0} (Good : S → Type 0) (x : Search) (s : Steps S) : Type 0 where
  pub iter_state : steps_iter_state s ≡ fresh x
  pub going : s.done ≡ false
  pub good : Good s.backend

-- the iterator goes on at w
pub record GoesOn {S : Type 0} (Good : S → Type 0) (x : Search) (w : IterState) (s : Steps S) : Type 0 where
  pub iter_state : steps_iter_state s ≡ w
  pub going : s.done ≡ false
  pub good : Good s.backend
  pub like : SameButStart x w.at

module _ {S X Y : Type 0} (items : ItemsOf S X Y) {x : Search} {tells : Search → Answer X → Type 0}
    (answers : AnswersOf S x tells) where
  abbrev steps : Steps S → Option (Result Y SearchError) → Steps S → Type 0
  steps = StepsBy items answers.asks

  abbrev IsAt : IterState → Steps S → Type 0
  IsAt = GoesOn answers.Good x

  -- a step of the iteration gives its answer, and the state after a match
  advance : {w w' : IterState} {s s' : S} {a : Answer X} → SameButStart x w.at → answers.Good s
      → Advances items.span answers.asks s w a s' w'
      → IsStep items.span tells w a × answers.Good s' × ((w' ≡ after w (answer_span items.span a))
      ⊎ (w' ≡ after (shifted w) (answer_span items.span a)))
  advance {w = w} {w' = w'} {s' = s'} {a = a} like good step = grind (arith, step-shown, same_start-then, chosen)

  -- the result of a call
  abbrev Leads : IterState → Option (Result Y SearchError) → Steps S → Type 0
  Leads w None t = IsStep items.span tells w (Ok None)
  Leads w (Some (Ok y)) t =
      IsStep items.span tells w (Ok (Some (items.view y))) × IsAt (after w (Some (items.span (items.view y)))) t
  Leads w (Some (Err e)) t = EndsAt items tells w e × (t.done ≡ true)

  -- a call leads to the state that its item says
  leads : (w : IterState) (s : Steps S) (r : Option (Result Y SearchError)) (t : Steps S) → IsAt w s → steps s r t
      → Leads w r t
  leads w s r t at st =
      let turn = step-taken at.going st in
      let k = advance at.like at.good (rw at.iter_state at turn.step) in
      of r turn.answer k.0 k.1 k.2 turn.ends
      (items.says (IsStep items.span tells w) t.backend turn.answer r turn.item k.0)
    where
      of : (r : Option (Result Y SearchError)) (a : Answer X) → IsStep items.span tells w a → answers.Good t.backend
          → ((steps_iter_state t ≡ after w (answer_span items.span a))
          ⊎ (steps_iter_state t ≡ after (shifted w) (answer_span items.span a)))
          → t.done ≡ ends_at r → Says items.view a (EndsAt items tells w) r → Leads w r t
      of None a step good moved done is = rw is at step
      of (Some (Ok y)) a step good moved done is = (
        rw is at step,
        record {
          iter_state = elim moved [ inl one ↦ rw is at one | inr two ↦ rw is at two ];
          going = done;
          good = good;
          like = same_start-then x w.at (after w (Some (items.span (items.view y)))).at at.like
              (same_start-after w (Some (items.span (items.view y))));
        },
      )
      of (Some (Err e)) a step good moved done is = (is, done)

  -- the items of calls that lead to t, whose list is `over` where it may end there
  items-from : (over : IterState → Type 0) (t : Steps S) → ((w : IterState) → IsAt w t → over w)
      → (xs : List (Result Y SearchError)) (w : IterState) (s : Steps S) → IsAt w s → Yields steps s xs t
      → ItemsBy items.span tells over (EndsAt items tells) w (map (item_by items.view) xs)
  items-from over t close [] w s at ran = close w (rw (← ran) at)
  items-from over t close (Ok y ∷ xs) w s at ran =
      let k = leads w s (Some (Ok y)) ran.0 at ran.1 in
      (k.0, items-from over t close xs (after w (Some (items.span (items.view y)))) ran.0 k.1 ran.2)
  items-from over t close (Err e ∷ xs) w s at ran =
      let k = leads w s (Some (Err e)) ran.0 at ran.1 in
      (k.0, ap (map (item_by items.view)) (no-more items answers.asks xs ran.0 t k.1 ran.2).0)

  -- so the calls of an iterator at w give the next items, and at `None` the last ones
  pub given-at : (w : IterState) (s : Steps S) → IsAt w s → ItemsGiven steps (Next items tells w) (Last items tells w) s
  given-at w s at = given steps (Next items tells w) (Last items tells w) s
      (λ xs t ran. items-from (λ v. Unit {0}) t (λ v here. tt) xs w s at ran)
      (λ xs t u ran st.
      items-from (λ v. IsStep items.span tells v (Ok None)) t (λ v here. leads v t None u here st) xs w s at ran)

  -- The calls of a shell are those of an iterator in it that begins at x.
  module _ {T R : Type 0} {item : R → Result Y SearchError} (shell : ShellOf steps item T) (s : T)
      (begins : Begins answers.Good x (shell.inner s)) where
    pub items-given : ItemsGiven shell.calls (λ xs. Next items tells (fresh x) (map item xs))
        (λ xs. Last items tells (fresh x) (map item xs)) s
    items-given = given-inner shell (given-at (fresh x) (shell.inner s) (record {
      iter_state = begins.iter_state;
      going = begins.going;
      good = begins.good;
      like = same_start-self x;
    }))

-- What each search like that of the iteration leaves, a step leaves.
module _ {S X : Type 0} {span : X → Span} {asks : S → Search → Answer X → S → Type 0} {s s' : S} {w w' : IterState}
    {a : Answer X} (Holds : S → Type 0) where
  pub step-holds
      : ((q : S) (t : Search) (b : Answer X) (q' : S) → SameButStart w.at t → Holds q → asks q t b q' → Holds q')
      → Holds s → Advances span asks s w a s' w' → Holds s'
  step-holds leaves holds step = grind (arith, step-shown)
