-- The items of an iterator over the matches of a haystack, and those of half matches as the ends of matches.
use Rattle.std.specs.Prelude.{◌≡◌, ℕ, zero, suc, ◌+◌, ◌≤◌, Bool, true, false, if◌then◌else◌, List, [], ◌∷◌, map, Option, None, Some, Result, Ok, Err, IfOk, IfSome, IsOkAnd, IsSome, is_err, option_map}
use Rattle.std.specs.Result.{result_transpose}
use Rattle.nfa_paths.specs.Common.{Found, HalfFound, Search, Span}
use Rattle.nfa_search_base.specs.IterStates.{Answer, EndsBy, IterState, SameButStart, SearchError, after, answer_span, ends_left, half_span_of, repeats, shifted, span_of}

-- a match, or the error that ends the iterator
abbrev pub Item : Type 0 → Type 0
Item X = Result X SearchError

-- the item as a value
abbrev pub item_by : {A X : Type 0} → (A → X) → Result A SearchError → Item X
item_by view (Ok m) = Ok (view m)
item_by view (Err e) = Err e

-- the answer as a value
abbrev pub answer_by : {A X : Type 0} → (A → X) → Answer A → Answer X
answer_by view (Ok (Some m)) = Ok (Some (view m))
answer_by view (Ok None) = Ok None
answer_by view (Err e) = Err e

-- the matches among the items
abbrev pub matches_in : {X : Type 0} → List (Item X) → List X
matches_in [] = []
matches_in (Ok x ∷ items) = x ∷ matches_in items
matches_in (Err e ∷ items) = matches_in items

-- the maximum number of items still to come, by whether the iterator has ended: one for each end that is left, and an
-- error
abbrev pub items_left : Bool → IterState → ℕ
items_left true w = 0
items_left false w = ends_left w + 1

-- and the same without an error
abbrev pub matches_left : Bool → IterState → ℕ
matches_left true w = 0
matches_left false w = ends_left w

-- A match is an X. `span` gives its span.
module _ {X : Type 0} (span : X → Span) where
  -- the answer of a step, if the search is the function h
  abbrev pub step_answer : (Search → Answer X) → IterState → Answer X
  step_answer h w = if repeats w (answer_span span (h w.at)) then h (shifted w).at else h w.at

  -- the iteration after that step
  abbrev pub step_iter_state : (Search → Answer X) → IterState → IterState
  step_iter_state h w = if repeats w (answer_span span (h w.at)) then
      after (shifted w) (answer_span span (h (shifted w).at)) else after w (answer_span span (h w.at))

  -- a match and the items after it; only an error; or nothing
  abbrev pub items_from : Answer X → List (Item X) → List (Item X)
  items_from (Ok (Some x)) rest = Ok x ∷ rest
  items_from (Ok None) rest = []
  items_from (Err e) rest = Err e ∷ []

  -- the items of at most n steps
  abbrev pub items_within : (Search → Answer X) → ℕ → IterState → List (Item X)
  items_within h zero w = []
  items_within h (suc n) w = items_from (step_answer h w) (items_within h n (step_iter_state h w))

  -- All items from w on, from left to right, if the search is the function h. Each step leaves fewer ends, so this
  -- number of steps is enough.
  unfoldable pub greedy : (Search → Answer X) → IterState → List (Item X)
  greedy h w = items_within h (suc (ends_left w)) w

  -- the items of an iterator, by whether it has ended
  abbrev pub greedy_unless : Bool → (Search → Answer X) → IterState → List (Item X)
  greedy_unless true h w = []
  greedy_unless false h w = greedy h w

-- an item that is not an error is that of a match
abbrev pub ComesOfMatch : {X Y : Type 0} → Answer X → Option (Result Y SearchError) → Type 0
ComesOfMatch a item = IfSome item (λ given. IfOk given (λ y. IsOkAnd a IsSome))

-- the iterator ends with this item: `None` or an error
abbrev pub ends_at : {Y : Type 0} → Option (Result Y SearchError) → Bool
ends_at None = true
ends_at (Some item) = is_err item

-- the item is the answer's
abbrev pub GivesItem : {X Y : Type 0} → (Y → X) → Answer X → Option (Result Y SearchError) → Type 0
GivesItem view a r = option_map (item_by view) r ≡ result_transpose a

-- the end of a match
abbrev pub end_of : Found → HalfFound
end_of m = record { pattern = m.pattern; offset = m.end }

-- the answer's match, if there is one, is in the span of the search, and its start is at most its end
abbrev pub IsFoundIn : Search → Answer Found → Type 0
IsFoundIn s a = IfOk a (λ found. IfSome found (λ m. (s.start ≤ m.start) × (m.start ≤ m.end) × (m.end ≤ s.end)))

-- a searcher may have this iteration
pub record IsIterState (w : IterState) : Type 0 where
  pub behind : EndsBy w.last w.at.start
  pub ordered : w.at.start ≤ w.at.end + 1

-- on each search like s, h finds a match in the span, and k finds the end of that match
pub record FindsEnds (h : Search → Answer Found) (k : Search → Answer HalfFound) (s : Search) : Type 0 where
  pub inside : (t : Search) → SameButStart s t → t.start ≤ t.end + 1 → IsFoundIn t (h t)
  pub ends : (t : Search) → SameButStart s t → t.start ≤ t.end + 1 → k t ≡ answer_by end_of (h t)

-- an iteration over half matches gives the ends of the iteration over full matches
abbrev pub HalfAndFullAgree : Type 0
HalfAndFullAgree = (h : Search → Answer Found) (k : Search → Answer HalfFound) (w : IterState) → IsIterState w
    → FindsEnds h k w.at → greedy half_span_of k w ≡ map (item_by end_of) (greedy span_of h w)
