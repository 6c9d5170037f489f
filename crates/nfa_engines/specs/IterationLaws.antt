-- Laws of iterations, of the lists of matches and captures, of the work of these by the totals of a cache, of loops of
-- searches, and of the sets that overlapping searches fill.
use Rattle.std.specs.Prelude.{◌≡◌, ◌⊎◌, ℕ, ◌+◌, ◌<◌, ◌≤◌, Bool, List, [], ◌∷◌, map, length, Option, None, Some, Ok, Result, ⊤, ◌*◌, ◌^◌, ◌&&◌, not, if◌then◌else◌, unwrap_or, ◌↔◌}
use Rattle.regex_search_core.specs.declared.search.MatchKind.TheVariants.{All}
use Rattle.nfa_paths.specs.Overlaps.{IsInsertable}
use Rattle.nfa_search_base.specs.Common.{ForSome, Found, Search, Span, Captured, MatchKind, Automaton, span_len, is_anchored, is_utf8_empty, total_degree, size_of_set, IsAutomaton, Pair, HoldsPattern, IsEarliestInsertable, IsPermitted, IsPatternOf, IsOverlapResult, edges, starts, path_pattern, LeftmostFirst, AreAllCaptures, AreDisjoint, AreFirstMatches, AreFirstRows, AreMatches, AreRows, AnswersRow, Row, UpToRefusal, item_by, row_found, row_of, IterState, fresh, after, shifted, ComesAfter, LeavesFewer}
use Rattle.nfa_search_base.specs.declared.error.SearchError.{SearchError}
use Rattle.nfa_backtrack.specs.Backtrack.{Backtracker, BacktrackCache, HoldsNoMore, IsTooLong, capacity_of, default_capacity, max_haystack_len_of, min_capacity_of}
use Rattle.nfa_pikevm.specs.Engines.{Fits, PikeCache, SameCapacities}

-- What each call that gets the next match from a `Searcher` ensures of its state before the call, of the span of its
-- match (`None` if there is no match), and of its state after the call.
pub record IsCall (w : IterState) (reply_span : Option Span) (w' : IterState) : Type 0 where
  pub rises : ComesAfter w reply_span
  pub fewer : LeavesFewer w reply_span w'
  pub moves : (w' ≡ after w reply_span) ⊎ (w' ≡ after (shifted w) reply_span)

-- These calls were made from w on, one after the other: for each, the span of its match, and the state after it.
abbrev pub AreCalls : IterState → List (Option Span × IterState) → Type 0
AreCalls w [] = ⊤
AreCalls w (call ∷ calls) = IsCall w call.0 call.1 × AreCalls call.1 calls

-- the spans of the matches that the calls gave
abbrev pub match_spans_of : List (Option Span × IterState) → List Span
match_spans_of [] = []
match_spans_of ((Some p, w) ∷ calls) = p ∷ match_spans_of calls
match_spans_of ((None, w) ∷ calls) = match_spans_of calls

-- each match starts at or after the end of the one before, and ends after that end
abbrev pub EndsRise : Option ℕ → List Span → Type 0
EndsRise last [] = ⊤
EndsRise last (p ∷ spans) = ForSome last (λ e. (e ≤ p.start) × (e < p.end)) × EndsRise (Some p.end) spans

-- over all calls of one iteration the ends increase
abbrev pub EndsIncrease : Type 0
EndsIncrease =
    (x : Search) (calls : List (Option Span × IterState)) → AreCalls (fresh x) calls
    → EndsRise None (match_spans_of calls)

-- and there are at most `more` matches more than the span has bytes
abbrev pub AtMostMatches : ℕ → Type 0
AtMostMatches more =
    (x : Search) (calls : List (Option Span × IterState)) → AreCalls (fresh x) calls
    → length (match_spans_of calls) ≤ span_len x + more

-- the first matches of a search, all or some, are inside its span, in order, and do not overlap
abbrev pub MatchesAreDisjoint : Type 0
MatchesAreDisjoint =
    (nfa : Automaton) (x : Search) (kind : MatchKind) (earliest : Bool) (ms : List Found)
    → AreFirstMatches nfa kind earliest x ms → AreDisjoint x None ms

-- there are at most `more` matches more than the span has bytes
abbrev pub AtMostInList : ℕ → Type 0
AtMostInList more =
    (nfa : Automaton) (x : Search) (kind : MatchKind) (earliest : Bool) (ms : List Found)
    → AreFirstMatches nfa kind earliest x ms → length ms ≤ span_len x + more

-- the matches of the rows of a search are its matches, in the same order
abbrev pub RowsAreMatches : Type 0
RowsAreMatches =
    (nfa : Automaton) (x : Search) (kind : MatchKind) (earliest : Bool) (rows : List Row) (ms : List Found)
    → AreRows nfa kind earliest x rows → AreMatches nfa kind earliest x ms → map row_found rows ≡ ms

-- the matches of its first rows are its first matches
abbrev pub FirstRowsAreMatches : Type 0
FirstRowsAreMatches =
    (nfa : Automaton) (x : Search) (kind : MatchKind) (earliest : Bool) (rows : List Row)
    → AreFirstRows nfa kind earliest x rows → AreFirstMatches nfa kind earliest x (map row_found rows)

-- the captures of a search have its rows; or, if a copy failed, those before it and then the error
abbrev pub CapturesUpToRefusal : Type 0
CapturesUpToRefusal =
    (nfa : Automaton) (x : Search) (kind : MatchKind) (earliest : Bool) (rows : List Row)
    (items : List (Result Captured SearchError))
    → AreRows nfa kind earliest x rows → AreAllCaptures (AnswersRow nfa kind earliest) x items
    → UpToRefusal (map (λ row. Ok row) rows) (map (item_by row_of) items)

-- the totals of a cache: the scans and turns of all its searches
pub record Totals : Type 0 where
  pub scans : ℕ
  pub turns : ℕ

-- those of a PikeVM's cache
abbrev pub pike_totals : PikeCache → Totals
pike_totals cache = record { scans = cache.all_scans; turns = cache.all_turns }

-- those of a backtracker's cache
abbrev pub backtracker_totals : BacktrackCache → Totals
backtracker_totals cache = record { scans = cache.all_scans; turns = cache.all_turns }

-- the totals rose by at most `limit` scans of the span of x, and by no more turns than these may make
pub record AddsAtMost (limit : ℕ) (nfa : Automaton) (x : Search) (old new : Totals) : Type 0 where
  pub scans : new.scans ≤ old.scans + limit
  pub turns : new.turns ≤ old.turns + limit * ((1 + total_degree nfa) * (span_len x + 1))

-- The maximum number of scans of an iteration over x that ends after `count` matches. If a search may restart: one for
-- each byte of the span and for each match, and two more. Otherwise: two for each match, and one more.
abbrev pub list_scan_limit : Automaton → Search → ℕ → ℕ
list_scan_limit nfa x count =
    if is_utf8_empty nfa && not (is_anchored x.anchored) then (span_len x + count + 2) else (2 * count + 1)

-- Laws of iterations by an engine E, with caches C.
module _ {E C : Type 0} (nfa_of : E → Automaton) (totals : C → Totals) where
  -- an iteration that goes to its end, past all these matches or rows of captures, is within a limit
  abbrev pub ListsAreWithin : {X : Type 0} → (Automaton → Search → ℕ → ℕ) → (E → Search → List X → C → C → Type 0)
      → Type 0
  ListsAreWithin {X} limit GoesToEnd =
      (e : E) (x : Search) (found : List X) (old new : C) → GoesToEnd e x found old new
      → AddsAtMost (limit (nfa_of e) x (length found)) (nfa_of e) x (totals old) (totals new)

  -- However far an iteration goes, and also if it ends with an error, it makes at most two scans for each byte of the
  -- span, and `more` besides.
  abbrev pub IterationsAreWithin : ℕ → (E → Search → C → C → Type 0) → Type 0
  IterationsAreWithin more GoesOn =
      (e : E) (x : Search) (old new : C) → GoesOn e x old new
      → AddsAtMost (2 * span_len x + more) (nfa_of e) x (totals old) (totals new)

-- `Keeps` relates what a cache shows before a search, or a choice does, to what it shows after it.
module _ {C : Type 0} (Keeps : C → C → Type 0) where
  -- no search keeps it
  abbrev pub IsKeptByNone : Type 0
  IsKeptByNone = (c : C) → Keeps c c

  -- two searches keep what each of them keeps
  abbrev pub IsKeptByTwo : Type 0
  IsKeptByTwo = (a b c : C) → Keeps a b → Keeps b c → Keeps a c

  -- n searches keep what each of them keeps: search k leads from `at k` to `at (k + 1)`
  abbrev pub IsKeptByLoop : Type 0
  IsKeptByLoop = (n : ℕ) (at : ℕ → C) → ((k : ℕ) → k < n → Keeps (at k) (at (k + 1))) → Keeps (at 0) (at n)

-- a cache of the same sizes fits the same NFAs
abbrev pub FitsAsBefore : Type 0
FitsAsBefore = (old new : PikeCache) (nfa : Automaton) → SameCapacities old new → Fits old nfa → Fits new nfa

-- a loop of searches holds no more than each of them may
abbrev pub LoopHoldsNoMore : Type 0
LoopHoldsNoMore = (needed : ℕ) → IsKeptByLoop (HoldsNoMore needed)

-- A search with the least capacity of its input, less `less` bytes, is not refused for its length. The pairs of the
-- search have to fit a `usize`; otherwise its input has no least capacity.
abbrev pub LeastCapacityIsEnough : ℕ → Type 0
LeastCapacityIsEnough less =
    (e : Backtracker) (x : Search) → length e.nfa.states * (span_len x + 1) < 2 ^ 64
    → min_capacity_of e.nfa x ≤ unwrap_or e.visited_capacity default_capacity + less → ¬ (IsTooLong e x)

-- if there is a bit for each state, no span up to the longest length, plus `more` bytes, is refused
abbrev pub LongestLengthFits : ℕ → Type 0
LongestLengthFits more =
    (e : Backtracker) (x : Search) → length e.nfa.states ≤ capacity_of e → span_len x ≤ max_haystack_len_of e + more
    → ¬ (IsTooLong e x)

-- each longer span is
abbrev pub LongerIsRefused : Type 0
LongerIsRefused =
    (e : Backtracker) (x : Search) → 0 < length e.nfa.states → max_haystack_len_of e < span_len x → IsTooLong e x

-- a search of the kind makes one set from a set
abbrev pub OneSet : MatchKind → Type 0
OneSet kind =
    (nfa : Automaton) (x : Search) (earliest : Bool) (old new other : List Bool)
    → IsOverlapResult nfa x kind earliest old new → IsOverlapResult nfa x kind earliest old other → new ≡ other

-- Afterwards the set has exactly the patterns that it had, and each pattern below its capacity that has an accepting
-- path with a permitted end.
abbrev pub SetIsComplete : Bool → Type 0
SetIsComplete earliest =
    (nfa : Automaton) (x : Search) (old new : List Bool) → IsOverlapResult nfa x All earliest old new
    → (k : ℕ) → HoldsPattern new k ↔ (HoldsPattern old k ⊎ ((k < length old) × IsPatternOf nfa x (IsPermitted nfa x) k))

-- if the set has room for each pattern, no pattern of such a path is left out
abbrev pub SetHoldsEachPattern : Bool → Type 0
SetHoldsEachPattern earliest =
    (nfa : Automaton) (x : Search) (old new : List Bool) → IsAutomaton nfa → length nfa.patterns ≤ length old
    → IsOverlapResult nfa x All earliest old new
    → (k : ℕ) → HoldsPattern new k ↔ (HoldsPattern old k ⊎ IsPatternOf nfa x (IsPermitted nfa x) k)

-- under leftmost first a set that holds a pattern does not change
abbrev pub FullSetStays : Type 0
FullSetStays =
    (nfa : Automaton) (x : Search) (earliest : Bool) (old new : List Bool) → 0 < size_of_set old
    → IsOverlapResult nfa x LeftmostFirst earliest old new → new ≡ old

-- the pattern of the first of the paths with the least end, of those that count
abbrev pub IsPatternOfEarliest : Automaton → Search → ℕ → ℕ → Type 0
IsPatternOfEarliest nfa x capacity k =
    (p : List Pair) × IsEarliestInsertable nfa x capacity (Some p) × (path_pattern nfa p ≡ Some k)

-- An empty set gains exactly these patterns: those of the first paths before some limit (`IsFirstBefore`), or with
-- `earliest` only that of the earliest path.
abbrev pub EmptySetGains : Bool → (Automaton → Search → ℕ → ℕ → Type 0) → Type 0
EmptySetGains earliest IsGained =
    (nfa : Automaton) (x : Search) (old new : List Bool) → size_of_set old ≡ 0
    → IsOverlapResult nfa x LeftmostFirst earliest old new
    → (k : ℕ) → HoldsPattern new k ↔ IsGained nfa x (length old) k

-- If the set has room for each pattern, the path that counts is that of all paths with a permitted end. It `IsChosen`:
-- the first, or the earliest.
abbrev pub IsOfAllPaths
    : ((Pair → List Pair) → List Pair → (Pair → Type 0) → Option (List Pair) → Type 0) → Type 0
IsOfAllPaths IsChosen =
    (nfa : Automaton) (x : Search) (capacity : ℕ) (path : Option (List Pair)) → IsAutomaton nfa
    → length nfa.patterns ≤ capacity
    → IsChosen (edges nfa x) (starts nfa x) (IsInsertable nfa x capacity) path
    ↔ IsChosen (edges nfa x) (starts nfa x) (IsPermitted nfa x) path
