-- The iterators: those that keep their finder or engine, and those of an engine that borrows a cache for each step.
use Rattle.std.specs.Prelude.{◌≡◌, ◌<◌, ℕ, true, false, MatchBool, Option, None, OnSome, IsSomeAnd, Result, Ok, is_none, option_map}
use Rattle.nfa_paths.specs.Common.{MutBor, Count, at_most, Captured, Match, Search, Span, search_of}
use Rattle.nfa_search_base.specs.Finders.{ServesOnAlong, match_span}
use Rattle.nfa_search_base.specs.Items.{ends_at, items_left, matches_left}
use Rattle.nfa_search_base.specs.IterStates.{Advances, Answer, AnswerIsInside, ComesAfter, IsInfalliblyInside, IsPast, IterState, LeavesFewer, SameButStart, SearchError, after, answer_span, repeats, shifted}
use Rattle.nfa_search_base.specs.Runs.{GivesKept}
use Rattle.nfa_search_base.specs.WithCaptures.{WithCaptures, held_unless}
use Rattle.nfa_search_base.specs.declared.iter.searcher.Offered.{Offered}
use Rattle.nfa_search_base.specs.declared.iter.searcher.Offered.TheVariants.{Done, Again}
use Rattle.nfa_search_base.specs.declared.iter.searcher.Searcher.{Searcher}
pub use Rattle.nfa_search_base.specs.declared.iter.steps.Steps.{Steps}

-- the iteration of the searcher
abbrev pub iter_state_of : Searcher → IterState
iter_state_of s = record { at = search_of s.input; last = s.last_match_end }

-- The result of offering an answer. Either it is done, and moves the iteration, or it is an empty match at the last
-- end, and the start moves one byte on.
abbrev pub OfferGives : IterState → Option Match → Offered → IterState → Type 0
OfferGives w o (Done p) w' = (p ≡ o) × (repeats w (match_span (Ok o)) ≡ false) × (w' ≡ after w (match_span (Ok o)))
OfferGives w o Again w' = (repeats w (match_span (Ok o)) ≡ true) × (w' ≡ shifted w) × IsPast w'

-- the answer is done
abbrev pub IsDone : Offered → Type 0
IsDone (Done p) = Unit {0}
IsDone Again = ⊥

-- the span of the match that is done
abbrev pub offered_span : Offered → Option Span
offered_span (Done p) = match_span (Ok p)
offered_span Again = None

-- the iteration of the iterator
abbrev pub steps_iter_state : {S : Type 0} → Steps S → IterState
steps_iter_state s = iter_state_of s.searcher

-- the iterator that begins with this searcher
abbrev pub steps_from : {S : Type 0} → Searcher → S → Steps S
steps_from searcher backend = record { searcher = searcher; backend = backend; done = false }

-- the maximum number of items still to come
abbrev pub steps_left : {S : Type 0} → Steps S → Count
steps_left s = at_most (items_left s.done (steps_iter_state s))

-- the maximum number of matches still to come
abbrev pub infallible_left : {S : Type 0} → Steps S → Count
infallible_left s = at_most (matches_left s.done (steps_iter_state s))

module _ {S X : Type 0} (accepts : S → Search → Type 0) (asks : S → Search → Answer X → S → Type 0)
    (span : X → Span) where
  -- after any calls, the next call on a search of the iteration may be made, and its match is in the span
  abbrev pub can_step : Steps S → Type 0
  can_step s = ServesOnAlong accepts asks SameButStart (AnswerIsInside span) s.backend (steps_iter_state s).at

  -- and its answer is not an error
  abbrev pub can_step_infallibly : Steps S → Type 0
  can_step_infallibly s = ServesOnAlong accepts asks SameButStart (IsInfalliblyInside span) s.backend
      (steps_iter_state s).at

-- A match is an X, and `span` gives its span. `asks` is a call.
module _ {S X : Type 0} (span : X → Span) (asks : S → Search → Answer X → S → Type 0) where
  -- A step of an iterator that has not ended gave this answer, and no item is made of it. The iterator ends if the
  -- answer has no match.
  pub record TakesBareStep (s : Steps S) (a : Answer X) (t : Steps S) : Type 0 where
    pub step : Advances span asks s.backend (steps_iter_state s) a t.backend (steps_iter_state t)
    pub ends : t.done ≡ is_none (answer_span span a)
    pub rises : ComesAfter (steps_iter_state s) (answer_span span a)
    pub fewer : LeavesFewer (steps_iter_state s) (answer_span span a) (steps_iter_state t)
    pub same : SameButStart (steps_iter_state s).at (steps_iter_state t).at

  -- if the iterator has ended, there is no reply and nothing changes; otherwise it takes a step, and the reply `shows`
  -- its answer
  abbrev pub takes_bare_steps : {R : Type 0} → (S → R → Answer X) → Steps S → Option R → Steps S → Type 0
  takes_bare_steps shows s r t = MatchBool s.done ((r ≡ None) × (t ≡ s))
      (IsSomeAnd r (λ reply. TakesBareStep s (shows t.backend reply) t))

-- A match is an X, and `span` gives its span. `asks` is a call. An item is a Y, and `gives` says which item an answer
-- gives in the state that the call left.
module _ {S X Y : Type 0} (span : X → Span) (asks : S → Search → Answer X → S → Type 0)
    (gives : S → Answer X → Option (Result Y SearchError) → Type 0) where
  -- a step of an iterator that has not ended
  pub record TakesStep (s : Steps S) (r : Option (Result Y SearchError)) (t : Steps S) : Type 0 where
    pub answer : Answer X
    pub step : Advances span asks s.backend (steps_iter_state s) answer t.backend (steps_iter_state t)
    pub item : gives t.backend answer r
    pub ends : t.done ≡ ends_at r
    pub rises : ComesAfter (steps_iter_state s) (answer_span span answer)
    pub same : SameButStart (steps_iter_state s).at (steps_iter_state t).at
    pub fewer : OnSome r (items_left t.done (steps_iter_state t) < items_left false (steps_iter_state s))

  -- if the iterator has ended, it gives nothing and nothing changes; otherwise it takes a step
  abbrev pub takes_steps : Steps S → Option (Result Y SearchError) → Steps S → Type 0
  takes_steps s r t = MatchBool s.done ((r ≡ None) × (t ≡ s)) (TakesStep s r t)

  -- a step without an error
  abbrev pub takes_infallible_steps : Steps S → Option Y → Steps S → Type 0
  takes_infallible_steps s r t = takes_steps s (option_map (λ m. Ok m) r) t

-- what an iteration keeps, and what it borrows for each call: an engine and its cache, or captures and a finder
pub record WithCache (S C : Type 0) : Type 0 where
  pub backend : S
  pub cache : C

-- For iterations that borrow a part of their state for each call: the two relations on the `whole` state.
module _ {S C T : Type 0} (whole : WithCache S C → T) where
  abbrev pub accepts_whole : (T → Search → Type 0) → WithCache S C → Search → Type 0
  accepts_whole accepts s x = accepts (whole s) x

  abbrev pub asks_whole : {R : Type 0} → (T → Search → R → T → Type 0) → WithCache S C → Search → R
      → WithCache S C → Type 0
  asks_whole asks s x reply t = asks (whole s) x reply (whole t)

  -- the iterator that keeps the whole state
  abbrev pub steps_whole : Steps (WithCache S C) → Steps T
  steps_whole s = record { searcher = s.searcher; backend = whole s.backend; done = s.done }

-- the whole state is what is borrowed
abbrev pub only_cache : {S C : Type 0} → WithCache S C → C
only_cache s = s.cache

-- the captures that an iteration keeps, with a finder that it borrows
abbrev pub with_finder : {F : Type 0} → WithCache Captured F → WithCaptures F
with_finder s = record { finder = s.cache; captures = s.backend }

-- the iterator with its cache, as an iterator that keeps both
abbrev pub with_cache : {S C : Type 0} → Steps S → C → Steps (WithCache S C)
with_cache s cache = record {
  searcher = s.searcher;
  backend = record { backend = s.backend; cache = cache };
  done = s.done;
}

-- steps with an A, and a cache whose value is a C
pub record StepsWith (A C : Type 0) : Type 0 where
  pub steps : Steps A
  pub cache : MutBor C

-- the steps with the value of the cache
abbrev pub steps_with_state : {A C : Type 0} → StepsWith A C → Steps (WithCache A C)
steps_with_state s = with_cache s.steps s.cache.now

-- the maximum number of items still to come from these steps
abbrev pub count_left : {A C : Type 0} → StepsWith A C → ℕ
count_left s = items_left s.steps.done (steps_iter_state s.steps)

-- the item of an iterator over captures that lends those which its steps hold
abbrev pub held_item : {F C : Type 0} → StepsWith (WithCaptures F) C → Option (Result Captured SearchError)
held_item s = held_unless s.steps.done s.steps.backend.captures

-- A match is an X with this `span`, and an item is a Y. `asks` is a search. `gives` says which item an answer gives.
module _ {A C X Y : Type 0} (span : X → Span) (asks : WithCache A C → Search → Answer X → WithCache A C → Type 0)
    (gives : A → Answer X → Option (Result Y SearchError) → Type 0) where
  -- A call. If the iterator has ended, it gives nothing and changes nothing. Otherwise it takes a step by searches with
  -- its cache.
  pub record TakesStepWith (s : StepsWith A C) (r : Option (Result Y SearchError)) (t : StepsWith A C) : Type 0 where
    pub step : takes_steps span asks (λ q. gives q.backend) (steps_with_state s) r (steps_with_state t)
    pub cache : t.cache.ghost_name ≡ s.cache.ghost_name

-- the cache is the same one, and `Keeps` holds of its values
pub record KeepsStepsWith {A C : Type 0} (Keeps : C → C → Type 0) (s t : StepsWith A C) : Type 0 where
  pub cache : t.cache.ghost_name ≡ s.cache.ghost_name
  pub keeps : Keeps s.cache.now t.cache.now

-- the calls of an iterator around such steps keep the cache so
abbrev pub GivesStepsWith : {T R A C : Type 0} → (T → Option R → T → Type 0) → (T → StepsWith A C) → (C → C → Type 0)
    → T → Type 0
GivesStepsWith calls inner Keeps s = GivesKept calls (λ p q. KeepsStepsWith Keeps (inner p) (inner q)) s
