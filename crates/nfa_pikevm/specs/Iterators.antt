-- The iterators over the matches, and over the captures, of a PikeVM.
use Rattle.std.specs.Prelude.{ℕ, [], List, map, Option, None, Ok, option_map, Result}
use Rattle.std.specs.Borrow.{Bor, Fml, MutBor}
use Rattle.std.specs.Io.BufRead.{Rests}
use mir.Syntax.{named}
use Rattle.nfa_search_base.specs.Common.{LendsItem, count_left, Found, found_of, Search, Match, Captured, AsksEngine, Knowing, MayFind, WithCache, StepsWith, TakesStepWith, GivesKept, GivesItem, Answer, span_of, Yields, WithCaptures, GivesCaptures, Row, row_span, AsksEngineRow}
use Rattle.nfa_search_base.specs.declared.error.SearchError.{SearchError}
use Rattle.nfa_pikevm.specs.Engines.{Fits, Pike, PikeCache}
use Rattle.nfa_pikevm.specs.Finding.{IsSureOf, PikeFindsOn, PikeFindsToEnd, PikeSearches, PikeAnswersMatch, pike_scans, PikeCapturesOn, PikeAnswersRow}
use Rattle.nfa_pikevm.specs.declared.find_iter.FindMatches.{FindMatches}
use Rattle.nfa_pikevm.specs.declared.find_iter.Finder.{Finder}
use Rattle.nfa_pikevm.specs.declared.captures_iter.CapturesMatches.{CapturesMatches}
use Rattle.nfa_pikevm.specs.contracts.captures_iter.CapturesMatches.{the_row}

-- the PikeVM of an iteration, and the match that is known
abbrev pub pike_knowing : Finder → Knowing Pike
pike_knowing a = record { engine = a.engine.now; known = a.known }

-- the steps of the iterator, and the cache that it borrows
abbrev pub pike_matches : FindMatches → StepsWith Finder PikeCache
pike_matches s = record { steps = s.steps; cache = s.cache }

-- the cache fits the PikeVM
abbrev pub fits_pike : PikeCache → Pike → Type 0
fits_pike cache vm = Fits cache vm.nfa

-- the PikeVM may search if the cache fits and the known match is right
abbrev pub MayFindByPike : WithCache Finder PikeCache → Search → Type 0
MayFindByPike = MayFind IsSureOf pike_knowing fits_pike

-- a search by the PikeVM may answer this
abbrev pub AsksPike : WithCache Finder PikeCache → Search → Answer Found → WithCache Finder PikeCache → Type 0
AsksPike = AsksEngine IsSureOf pike_knowing PikeAnswersMatch (λ vm x a. PikeSearches vm x) pike_scans

-- a call
pub record pike_matches_next (s : FindMatches) (r : Option Match) (t : FindMatches) : Type 0 where
  pub takes : TakesStepWith span_of AsksPike (λ _. GivesItem found_of) (pike_matches s)
      (option_map (λ m. Ok m) r) (pike_matches t)

-- The calls change the cache only by the searches of an iteration over x. At `None` the iteration went to its end, past
-- the matches so far.
pub record FindsBySearches (vm : Pike) (x : Search) (s : FindMatches) : Type 0 where
  pub on : GivesKept pike_matches_next (λ p q. PikeFindsOn vm x p.cache.now q.cache.now) s
  pub to_end : (xs : List Match) (t u : FindMatches) → Yields pike_matches_next s xs t → pike_matches_next t None u
      → PikeFindsToEnd vm x (map found_of xs) s.cache.now u.cache.now

-- the steps of the iterator, and the cache that it borrows
abbrev pub pike_captures : CapturesMatches → StepsWith (WithCaptures Pike) PikeCache
pike_captures s = record { steps = s.steps; cache = s.cache }

-- a search by the PikeVM may answer this
abbrev pub AsksPikeRow : WithCache (WithCaptures Pike) PikeCache → Search → Answer Row
    → WithCache (WithCaptures Pike) PikeCache → Type 0
AsksPikeRow = AsksEngineRow (λ vm. vm.nfa) PikeAnswersRow (λ vm x a. PikeSearches vm x)

-- a call
pub record pike_captures_next (s : CapturesMatches) (r : Option (Result Captured SearchError))
    (t : CapturesMatches) : Type 0 where
  pub takes : TakesStepWith row_span AsksPikeRow GivesCaptures (pike_captures s) r (pike_captures t)

-- the calls change the cache only by the searches of an iteration over x
pub record CapturesBySearches (vm : Pike) (x : Search) (s : CapturesMatches) : Type 0 where
  pub on : GivesKept pike_captures_next (λ p q. PikeCapturesOn vm x p.cache.now q.cache.now) s

-- the maximum number of items still to come
abbrev pub pike_captures_left : CapturesMatches → ℕ
pike_captures_left s = count_left (pike_captures s)

-- once the captures that a call lent are no longer borrowed, it was a call that gave them
abbrev pub PikeLendsNext : MutBor CapturesMatches → Option (Bor Captured) → Fml
PikeLendsNext s lent =
    Rests (the_row (record { mir = named 0; lft = [] }) (record { mir = named 1; lft = [] })
    (record { mir = named 2; lft = [] })) s
    (LendsItem pike_captures_next pike_captures_left s.now lent)
