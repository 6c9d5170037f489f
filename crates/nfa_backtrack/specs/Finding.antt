-- The answers of a backtracker to searches for a match or for captures.
use Rattle.std.specs.Prelude.{◌≡◌, ◌≤◌, ◌*◌, ◌+◌, ℕ, ◌⊎◌, ◌↔◌, false, length, List, Result, Ok, Err, IfErr, IsErrOf, OnErr, OnOk}
use Rattle.nfa_search_base.specs.Common.{Found, Search, IsFindAnswer, IsWithinScans, IsWork, max_scans, span_len, total_degree, LeftmostFirst, IsSureMatch, max_scan_turns, Row, row_span, AnswersRow, DoesSearch, FindsLeave, FindsLeaveAtEnd, Leaves, LeavesAtEnd, Answer}
use Rattle.nfa_search_base.specs.declared.error.SearchError.{SearchError}
use Rattle.nfa_search_base.specs.declared.error.SearchError.TheVariants.{HaystackTooLong, Memory}
use Rattle.nfa_backtrack.specs.Backtrack.{Backtracker, BacktrackCache, AddsBacktrackWork, CountsAnswer, CountsRefusal, GrowsBlocks, HoldsNoMore, IsTooLong, refused_early}

-- the error of a search: `HaystackTooLong` if it is too long, otherwise `Memory`
abbrev pub IsRefusal : Backtracker → Search → SearchError → Type 0
IsRefusal e x error = (IsTooLong e x × (error ≡ HaystackTooLong (span_len x)))
    ⊎ (¬ (IsTooLong e x) × (error ≡ Memory))

-- there is an answer only if the span is not too long, and an error is a refusal
abbrev pub AnswersByLength : {Y : Type 0} → Backtracker → Search → Result Y SearchError → Type 0
AnswersByLength e x (Ok y) = ¬ (IsTooLong e x)
AnswersByLength e x (Err error) = IsRefusal e x error

-- the answer of one search for a match: its match, or a refusal
abbrev pub IsTryFindAnswer : Backtracker → Search → Answer Found → Type 0
IsTryFindAnswer e x (Ok found) = ¬ (IsTooLong e x) × IsFindAnswer e.nfa LeftmostFirst false x found
IsTryFindAnswer e x (Err error) = IsRefusal e x error

-- the answer of one search for captures: its row, or a refusal
abbrev pub IsTryCapturesAnswer : Backtracker → Search → Answer Row → Type 0
IsTryCapturesAnswer e x (Ok row) = ¬ (IsTooLong e x) × AnswersRow e.nfa LeftmostFirst false x (Ok row)
IsTryCapturesAnswer e x (Err error) = IsRefusal e x error

-- a match that is sure to be found, by a search that is not too long
abbrev pub IsSureAt : Backtracker → Search → Found → Type 0
IsSureAt e x m = ¬ (IsTooLong e x) × IsSureMatch e.nfa LeftmostFirst false x m

-- What each search refuses, counts and grows, whatever it answers. It uses at most `needed` slots of the cache.
pub record IsCounted {Y : Type 0} (e : Backtracker) (x : Search) (needed : ℕ) (r : Result Y SearchError)
    (old new : BacktrackCache) : Type 0 where
  -- the error is `HaystackTooLong`, with the length of the span, exactly if the span is too long
  pub too_long : IsErrOf r (HaystackTooLong (span_len x)) ↔ IsTooLong e x
  -- any other error is `Memory`
  pub errors : IfErr r (λ error. (error ≡ Memory) ⊎ (error ≡ HaystackTooLong (span_len x)))
  -- an answer took exactly one scan more than restarts, and a turn at least for each pair of its path
  pub work : OnOk r (IsWork e.nfa LeftmostFirst false x new.scans new.turns)
  -- a refused search made no more scans than an answer takes
  pub within : OnErr r (IsWithinScans e.nfa LeftmostFirst false x new.scans)
  -- the scans and the turns are bounded
  pub scans : new.scans ≤ max_scans e.nfa x
  pub turns : new.turns ≤ new.scans * max_scan_turns e.nfa x
  -- the search is counted once, as answered or as refused
  pub answered : OnOk r (CountsAnswer old new)
  pub refused : OnErr r (CountsRefusal old new)
  -- the totals rise by this search only
  pub total : AddsBacktrackWork old new
  -- the cache frees no marks, and has no more than it had or the pairs need
  pub blocks : GrowsBlocks e.nfa x old.blocks new.blocks
  -- it holds no frame that it did not hold before, and no more slots than it had or are needed
  pub holds : HoldsNoMore needed old new
  -- if the span is too long, the search is counted as refused, with no scans and no turns, and nothing else changes
  pub early : IsTooLong e x → new ≡ refused_early old

-- an answer is counted as an answer, and an error as a refusal
abbrev pub Counts : {X : Type 0} → Answer X → BacktrackCache → BacktrackCache → Type 0
Counts (Ok found) old new = CountsAnswer old new
Counts (Err error) old new = CountsRefusal old new

-- the work of an answer is exact, and a refusal took no more scans than an answer would
abbrev pub DoesWork : {X : Type 0} → Backtracker → Search → Answer X → BacktrackCache → Type 0
DoesWork e x (Ok found) new = IsWork e.nfa LeftmostFirst false x new.scans new.turns
DoesWork e x (Err error) new = IsWithinScans e.nfa LeftmostFirst false x new.scans

-- one search was made with the cache, and its work and the cache's size are within their bounds
pub record SearchesOnce {X : Type 0} (e : Backtracker) (x : Search) (a : Answer X) (old new : BacktrackCache)
    : Type 0 where
  pub total : AddsBacktrackWork old new
  pub counts : Counts a old new
  pub exact : DoesWork e x a new
  pub scans : new.scans ≤ max_scans e.nfa x
  pub turns : new.turns ≤ new.scans * ((1 + total_degree e.nfa) * (span_len x + 1))
  pub blocks : GrowsBlocks e.nfa x old.blocks new.blocks
  pub holds : HoldsNoMore (2 * length e.nfa.groups) old new
  pub early : IsTooLong e x → new ≡ refused_early old

-- the scans of the last search with the cache
abbrev pub backtracker_scans : BacktrackCache → ℕ
backtracker_scans cache = cache.scans

-- an iteration over the matches of x led from one cache to the other only by its searches, as far as it went
abbrev pub BacktrackerFindsOn : Backtracker → Search → BacktrackCache → BacktrackCache → Type 0
BacktrackerFindsOn e x old new =
    FindsLeave (IsTryFindAnswer e) (λ y a. SearchesOnce e y a) backtracker_scans x old new

-- the same, and the iteration went to its end, past these matches
abbrev pub BacktrackerFindsToEnd : Backtracker → Search → List Found → BacktrackCache → BacktrackCache → Type 0
BacktrackerFindsToEnd e x ms old new =
    FindsLeaveAtEnd (IsTryFindAnswer e) (λ y a. SearchesOnce e y a) backtracker_scans x ms old new

-- an iteration over the captures of x led from one cache to the other only by its searches, as far as it went
abbrev pub BacktrackerCapturesOn : Backtracker → Search → BacktrackCache → BacktrackCache → Type 0
BacktrackerCapturesOn e x old new = Leaves row_span (DoesSearch (IsTryCapturesAnswer e)
    (λ y a. SearchesOnce e y a)) x old new

-- the same, and the iteration went to its end, past these rows
abbrev pub BacktrackerCapturesToEnd : Backtracker → Search → List Row → BacktrackCache → BacktrackCache → Type 0
BacktrackerCapturesToEnd e x rows old new =
    LeavesAtEnd row_span (DoesSearch (IsTryCapturesAnswer e) (λ y a. SearchesOnce e y a)) x rows old new
