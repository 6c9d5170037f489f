-- The iterators over the matches, and over the captures, of a backtracker.
use Rattle.std.specs.Prelude.{◌≡◌, List, map, Option, None, Result, Ok, ⊤}
use Rattle.nfa_search_base.specs.Common.{Found, found_of, Search, Match, Captured, AsksEngine, Knowing, MayFind, WithCache, StepsWith, TakesStepWith, GivesKept, GivesItem, Answer, span_of, Yields, WithCaptures, GivesCaptures, Row, row_span, AsksEngineRow}
use Rattle.nfa_search_base.specs.declared.error.SearchError.{SearchError}
use Rattle.nfa_backtrack.specs.Backtrack.{Backtracker, IsTooLong, BacktrackCache, refused_early}
use Rattle.nfa_backtrack.specs.Finding.{BacktrackerFindsOn, BacktrackerFindsToEnd, IsTryFindAnswer, IsSureAt, SearchesOnce, backtracker_scans, BacktrackerCapturesOn, IsTryCapturesAnswer}
use Rattle.nfa_backtrack.specs.declared.find_iter.Finder.{Finder}
use Rattle.nfa_backtrack.specs.declared.find_iter.TryFindMatches.{TryFindMatches}
use Rattle.nfa_backtrack.specs.declared.captures_iter.TryCapturesMatches.{TryCapturesMatches}

-- the backtracker of an iteration, and the match that is known
abbrev pub backtracker_knowing : Finder → Knowing Backtracker
backtracker_knowing a = record { engine = a.engine.now; known = a.known }

-- the steps of the iterator, and the cache that it borrows
abbrev pub backtrack_matches : TryFindMatches → StepsWith Finder BacktrackCache
backtrack_matches s = record { steps = s.steps; cache = s.cache }

-- each cache fits
abbrev pub fits_always : BacktrackCache → Backtracker → Type 0
fits_always w e = ⊤

-- the backtracker may search if the known match is right
abbrev pub MayFindByBacktracker : WithCache Finder BacktrackCache → Search → Type 0
MayFindByBacktracker = MayFind IsSureAt backtracker_knowing fits_always

-- a search by the backtracker may answer this
abbrev pub AsksBacktracker : WithCache Finder BacktrackCache → Search → Answer Found
    → WithCache Finder BacktrackCache → Type 0
AsksBacktracker =
    AsksEngine IsSureAt backtracker_knowing IsTryFindAnswer (λ e x a. SearchesOnce e x a) backtracker_scans

-- a call
pub record backtrack_matches_next (s : TryFindMatches) (r : Option (Result Match SearchError))
    (t : TryFindMatches) : Type 0 where
  pub takes : TakesStepWith span_of AsksBacktracker (λ _. GivesItem found_of) (backtrack_matches s)
      r (backtrack_matches t)

-- The calls keep the cache, and change it only by the searches of an iteration over x. A search that is too long is
-- only counted as refused, with no scans and no turns. At `None` the iteration went to its end, past the matches given.
pub record FindsBySearches (e : Backtracker) (x : Search) (s : TryFindMatches) : Type 0 where
  pub keeps : GivesKept backtrack_matches_next (λ p q. q.cache.ghost_name ≡ p.cache.ghost_name) s
  pub on : GivesKept backtrack_matches_next (λ p q. BacktrackerFindsOn e x p.cache.now q.cache.now) s
  pub early : GivesKept backtrack_matches_next
      (λ p q. IsTooLong e x → q.cache.now ≡ refused_early p.cache.now) s
  pub to_end : (xs : List (Result Match SearchError)) (t u : TryFindMatches) (ms : List Match)
      → Yields backtrack_matches_next s xs t → backtrack_matches_next t None u → xs ≡ map Ok ms
      → BacktrackerFindsToEnd e x (map found_of ms) s.cache.now u.cache.now

-- the steps of the iterator, and the cache that it borrows
abbrev pub backtrack_captures : TryCapturesMatches → StepsWith (WithCaptures Backtracker) BacktrackCache
backtrack_captures s = record { steps = s.steps; cache = s.cache }

-- a search by the backtracker may answer this
abbrev pub AsksBacktrackerRow : WithCache (WithCaptures Backtracker) BacktrackCache → Search → Answer Row
    → WithCache (WithCaptures Backtracker) BacktrackCache → Type 0
AsksBacktrackerRow = AsksEngineRow (λ e. e.nfa) IsTryCapturesAnswer (λ e x a. SearchesOnce e x a)

-- a call
pub record backtrack_captures_next (s : TryCapturesMatches) (r : Option (Result Captured SearchError))
    (t : TryCapturesMatches) : Type 0 where
  pub takes : TakesStepWith row_span AsksBacktrackerRow GivesCaptures (backtrack_captures s) r (backtrack_captures t)

-- the calls change the cache only by the searches of an iteration over x
pub record CapturesBySearches (e : Backtracker) (x : Search) (s : TryCapturesMatches) : Type 0 where
  pub on : GivesKept backtrack_captures_next (λ p q. BacktrackerCapturesOn e x p.cache.now q.cache.now) s
