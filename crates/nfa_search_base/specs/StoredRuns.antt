-- What the calls of an iterator over a stored finder have given so far.
use Rattle.std.specs.Prelude.{◌≡◌, List, map, Option, Result, Ok, IfErr, IfSome}
use Rattle.nfa_paths.specs.Common.{Bor, MutBor, Mut, EachRunFrom, Captured, Input, Search, Span}
use Rattle.nfa_search_base.specs.Finders.{Finds, IsCallableOn, MayReply}
use Rattle.nfa_search_base.specs.Items.{GivesItem, item_by, matches_in}
use Rattle.nfa_search_base.specs.IterStates.{Answer, IterState, Memory, SameButStart, SearchError}
use Rattle.nfa_search_base.specs.Lists.{AreAllStoredCaptures, AreAllStoredMatches, AreFirstStoredCaptures, AreFirstStoredMatches, AreSpansDisjoint}
use Rattle.nfa_search_base.specs.Stored.{Steps, takes_infallible_steps, takes_steps}
use Rattle.nfa_search_base.specs.WithCaptures.{CanFill, Fills, GivesCaptures, Row, WithCaptures, row_span}

-- the spans of the matches among the items
abbrev pub spans_in : {Y X : Type 0} → (Y → X) → (X → Span) → List (Result Y SearchError) → List Span
spans_in view span items = map span (matches_in (map (item_by view) items))

-- in each run of these calls the matches, which have these `spans`, are in the span of the iteration, in order and
-- without overlap
abbrev pub RunsApart : {T R : Type 0} → (T → Option R → T → Type 0) → (List R → List Span) → IterState → T → Type 0
RunsApart steps spans w s = EachRunFrom steps s (λ p. AreSpansDisjoint w.at w.last (spans p.items))

-- A finder replies with an A. `view` is its match, and `span` gives the span of the match.
module _ {A X F : Type 0} (view : A → X) (span : X → Span)
    (g : Mut F (Bor Input × Unit {0}) (Result (Option A) SearchError)) where
  -- after some calls of f on searches like x, the next call may give this answer; this is what f answers on a search
  abbrev pub MayAnswer : F → Search → Search → Answer X → Type 0
  MayAnswer f x = MayReply (IsCallableOn g) (Finds view g) SameButStart f x

  -- a call of the iterator
  abbrev pub stored_match_steps : Steps F → Option (Result A SearchError) → Steps F → Type 0
  stored_match_steps s r t = takes_steps span (Finds view g) (λ _. GivesItem view) s r t

  -- a call of the iterator whose finder never fails
  abbrev pub infallible_match_steps : Steps F → Option A → Steps F → Type 0
  infallible_match_steps s r t = takes_infallible_steps span (Finds view g) (λ _. GivesItem view) s r t

  module _ (f : F) (w : IterState) where
    -- the first items from w on, as f answers, and all items
    abbrev pub FirstFound : List (Result A SearchError) → Type 0
    FirstFound = AreFirstStoredMatches span (MayAnswer f w.at) view w

    abbrev pub AllFound : List (Result A SearchError) → Type 0
    AllFound = AreAllStoredMatches span (MayAnswer f w.at) view w

    -- the same for the matches of an iterator whose finder never fails
    abbrev pub FirstSure : List A → Type 0
    FirstSure ms = FirstFound (map (λ m. Ok m) ms)

    abbrev pub AllSure : List A → Type 0
    AllSure ms = AllFound (map (λ m. Ok m) ms)

-- A finder fills captures that it borrows.
module _ {F : Type 0} (g : Mut F (Bor Input × (MutBor Captured × Unit {0}))
    (Result (Unit {0}) SearchError × (MutBor Captured × Unit {0}))) where
  -- after some calls of c on searches like x, the next call may give this answer; this is what c answers on a search
  abbrev pub MayAnswerRow : WithCaptures F → Search → Search → Answer Row → Type 0
  MayAnswerRow c x = MayReply (CanFill g) (Fills g) SameButStart c x

  -- a call of the iterator
  abbrev pub stored_captures_steps : Steps (WithCaptures F) → Option (Result Captured SearchError)
      → Steps (WithCaptures F) → Type 0
  stored_captures_steps s r t = takes_steps row_span (Fills g) GivesCaptures s r t

  -- a call of the iterator whose finder never fails: its only error is that of memory
  abbrev pub takes_infallible_captures : Steps (WithCaptures F) → Option (Result Captured SearchError)
      → Steps (WithCaptures F) → Type 0
  takes_infallible_captures s r t =
      stored_captures_steps s r t × IfSome r (λ item. IfErr item (λ error. error ≡ Memory))

  module _ (c : WithCaptures F) (w : IterState) where
    -- the first captures from w on, as c answers, and all captures
    abbrev pub FirstFilled : List (Result Captured SearchError) → Type 0
    FirstFilled = AreFirstStoredCaptures (MayAnswerRow c w.at) w

    abbrev pub AllFilled : List (Result Captured SearchError) → Type 0
    AllFilled = AreAllStoredCaptures (MayAnswerRow c w.at) w
