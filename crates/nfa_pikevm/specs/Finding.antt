-- The answers of a PikeVM to searches for a match or for captures.
use Rattle.std.specs.Prelude.{◌≤◌, ◌*◌, ◌+◌, ℕ, List}
use Rattle.nfa_search_base.specs.Common.{Found, Search, IsWork, max_scans, span_len, total_degree, IsSureMatch, Row, row_span, AnswersRow, DoesSearch, FindsLeave, FindsLeaveAtEnd, Leaves, LeavesAtEnd, AnswersMatch, Answer}
use Rattle.nfa_pikevm.specs.Engines.{Pike, PikeCache, AddsPikeWork, SameCapacities, kind_of}

-- the answer of one search for a match: the match of its kind and its `earliest`, and never an error
abbrev pub PikeAnswersMatch : Pike → Search → Answer Found → Type 0
PikeAnswersMatch vm x a = AnswersMatch vm.nfa (kind_of vm) x.earliest x a

-- the answer of one search for captures: the row of its kind and its `earliest`, and never an error
abbrev pub PikeAnswersRow : Pike → Search → Answer Row → Type 0
PikeAnswersRow vm x a = AnswersRow vm.nfa (kind_of vm) x.earliest x a

-- a match that is sure to be found
abbrev pub IsSureOf : Pike → Search → Found → Type 0
IsSureOf vm x m = IsSureMatch vm.nfa (kind_of vm) x.earliest x m

-- What each search counts and keeps, whatever it answers.
pub record PikeSearches (vm : Pike) (x : Search) (old new : PikeCache) : Type 0 where
  -- the totals rise by this search only
  pub total : AddsPikeWork old new
  -- it took exactly one scan more than restarts, and a turn at least for each pair of its path
  pub work : IsWork vm.nfa (kind_of vm) x.earliest x new.scans new.turns
  -- the scans and the turns are bounded
  pub scans : new.scans ≤ max_scans vm.nfa x
  pub turns : new.turns ≤ new.scans * ((1 + total_degree vm.nfa) * (span_len x + 1))
  -- the sizes of the cache stay, so it fits what it fitted
  pub capacities : SameCapacities old new

-- the scans of the last search with the cache
abbrev pub pike_scans : PikeCache → ℕ
pike_scans cache = cache.scans

-- an iteration over the matches of x led from one cache to the other only by its searches, as far as it went
abbrev pub PikeFindsOn : Pike → Search → PikeCache → PikeCache → Type 0
PikeFindsOn vm x old new = FindsLeave (PikeAnswersMatch vm) (λ y a. PikeSearches vm y) pike_scans x old new

-- the same, and the iteration went to its end, past these matches
abbrev pub PikeFindsToEnd : Pike → Search → List Found → PikeCache → PikeCache → Type 0
PikeFindsToEnd vm x ms old new =
    FindsLeaveAtEnd (PikeAnswersMatch vm) (λ y a. PikeSearches vm y) pike_scans x ms old new

-- an iteration over the captures of x led from one cache to the other only by its searches, as far as it went
abbrev pub PikeCapturesOn : Pike → Search → PikeCache → PikeCache → Type 0
PikeCapturesOn vm x old new = Leaves row_span (DoesSearch (PikeAnswersRow vm) (λ y a. PikeSearches vm y)) x old new

-- the same, and the iteration went to its end, past these rows
abbrev pub PikeCapturesToEnd : Pike → Search → List Row → PikeCache → PikeCache → Type 0
PikeCapturesToEnd vm x rows old new =
    LeavesAtEnd row_span (DoesSearch (PikeAnswersRow vm) (λ y a. PikeSearches vm y)) x rows old new
