-- The items that the calls of an iterator over a backtracker's matches have given, wherever they stop.
use Rattle.std.specs.Prelude.{◌≡◌, true, false, List, [], ◌∷◌, map, All, None, Some, Result, Ok, Err, IfOk, IfErr, Option}
use Rattle.nfa_search_base.specs.Common.{EachRunFrom, found_of, Search, Match, span_len, LeftmostFirst, AreAllStoredMatches, AreFirstStoredMatches, AreFirstMatches, AreMatches, AreDisjoint, IsInside, OksAll, fresh, span_of, Yields}
use Rattle.nfa_search_base.specs.declared.error.SearchError.{SearchError}
use Rattle.nfa_search_base.specs.declared.error.SearchError.TheVariants.{HaystackTooLong, Memory}
use Rattle.nfa_backtrack.specs.Backtrack.{Backtracker, IsTooLong}
use Rattle.nfa_backtrack.specs.Iterators.{backtrack_matches_next}
use Rattle.nfa_backtrack.specs.Finding.{AnswersByLength, IsTryFindAnswer}
use Rattle.nfa_backtrack.specs.declared.find_iter.TryFindMatches.{TryFindMatches}

-- the first items of an iteration over x
abbrev pub AreFirstItems : Backtracker → Search → List (Result Match SearchError) → Type 0
AreFirstItems e x = AreFirstStoredMatches span_of (IsTryFindAnswer e) found_of (fresh x)

-- all items of an iteration over x
abbrev pub AreAllItems : Backtracker → Search → List (Result Match SearchError) → Type 0
AreAllItems e x = AreAllStoredMatches span_of (IsTryFindAnswer e) found_of (fresh x)

-- If the span is too long, the only item of a whole run is that refusal. Otherwise every error is `Memory`.
pub record AreRefused {Y : Type 0} (e : Backtracker) (x : Search) (whole : Type 0)
    (items : List (Result Y SearchError)) : Type 0 where
  pub long : IsTooLong e x → whole → items ≡ Err (HaystackTooLong (span_len x)) ∷ []
  pub memory : ¬ (IsTooLong e x) → All (λ item. IfErr item (λ error. error ≡ Memory)) items

-- in each run errors follow that rule
abbrev pub RunsRefused : {T Y : Type 0} → (T → Option (Result Y SearchError) → T → Type 0) → Backtracker → Search → T
    → Type 0
RunsRefused steps e x s = EachRunFrom steps s (λ p. AreRefused e x (p.whole ≡ true) p.items)

-- items that are all `Ok`, as the first matches of x, and as all of them
abbrev pub OksAreFirst : Backtracker → Search → List Match → Type 0
OksAreFirst e x ms = AreFirstMatches e.nfa LeftmostFirst false x (map found_of ms)

abbrev pub OksAreAll : Backtracker → Search → List Match → Type 0
OksAreAll e x ms = AreMatches e.nfa LeftmostFirst false x (map found_of ms)

-- each match is inside the span
abbrev pub RunsInside : Search → TryFindMatches → Type 0
RunsInside x s = EachRunFrom backtrack_matches_next s (λ p. All (λ item. IfOk item (λ m. IsInside x (found_of m)))
    p.items)

-- if the items of a run are all `Ok`, their matches are apart and in order
abbrev pub RunsDisjoint : Search → TryFindMatches → Type 0
RunsDisjoint x s = EachRunFrom backtrack_matches_next s (λ p. (ms : List Match) → p.items ≡ map Ok ms
    → AreDisjoint x None (map found_of ms))

-- an item is `Ok` only if the span is not too long, and otherwise a refusal
abbrev pub GivesByLength : Backtracker → Search → TryFindMatches → Type 0
GivesByLength e x s = (xs : List (Result Match SearchError)) (t : TryFindMatches) (i : Result Match SearchError)
    (u : TryFindMatches) → Yields backtrack_matches_next s xs t → backtrack_matches_next t (Some i) u
    → AnswersByLength e x i

-- What the calls of an iterator at s give depends on the length of the span.
pub record GivenByLength (e : Backtracker) (x : Search) (s : TryFindMatches) : Type 0 where
  -- a match is given, and the items end without an error, only if the span is not too long; an error is a refusal
  pub items : GivesByLength e x s
  pub end : OksAll backtrack_matches_next (λ ms. ¬ (IsTooLong e x)) s
  -- in each run errors follow that rule
  pub refused : RunsRefused backtrack_matches_next e x s
