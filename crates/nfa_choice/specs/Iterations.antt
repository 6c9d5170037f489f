-- Iterators that search with a choice, or with an engine that shows itself as one.
use Rattle.std.specs.Prelude.{◌*◌, ℕ, [], length, List, map, None, Ok, Option, Result, option_map}
use Rattle.std.specs.Borrow.{Bor, Fml, MutBor}
use Rattle.std.specs.Io.BufRead.{Rests}
use mir.Syntax.{named}
use Rattle.nfa_search_base.specs.Common.{LendsItem, count_left, Yields, Found, found_of, Search, Captured, Match, WithCaptures, GivesCaptures, Row, row_span, HasGroups, AnswersRow, DoesSearch, Leaves, LeavesAtEnd, AnswersMatch, WithCache, StepsWith, TakesStepWith, GivesKept, GivesItem, Answer, span_of}
use Rattle.nfa_search_base.specs.declared.error.SearchError.{SearchError}
use Rattle.nfa_backtrack.specs.Backtrack.{HoldsNoMore}
use Rattle.nfa_choice.specs.ChoiceState.{ChoiceState, kind_in, KeepsEngines, SearchedByRule}
use Rattle.nfa_choice.specs.declared.choose.captures_iter.ChoiceCaptures.{ChoiceCaptures}
use Rattle.nfa_choice.specs.contracts.choose.captures_iter.ChoiceCaptures.{the_row}
use Rattle.nfa_choice.specs.declared.choose.find_iter.ByRule.{ByRule}
use Rattle.nfa_choice.specs.declared.choose.find_iter.ChoiceMatches.{ChoiceMatches}

-- the answer of one search for a match: the match of the kind and its `earliest`, and never an error
abbrev pub TellsMatch : ChoiceState → Search → Answer Found → Type 0
TellsMatch c x a = AnswersMatch c.nfa (kind_in c) x.earliest x a

-- the answer of one search for captures: the row of the kind and its `earliest`, and never an error
abbrev pub TellsRow : ChoiceState → Search → Answer Row → Type 0
TellsRow c x a = AnswersRow c.nfa (kind_in c) x.earliest x a

-- An engine that shows itself as a choice. Contracts see a C of it.
pub record ChoiceEngine (C : Type 0) : Type 1 where
  -- the choice
  pub choice : C → ChoiceState
  -- what a search ran
  pub Runs : Search → C → C → Type 0
  -- what a search keeps
  pub Keeps : C → C → Type 0

-- a choice itself: it searches by its rule
abbrev pub by_rule : ChoiceEngine ChoiceState
by_rule = record { choice = λ c. c; Runs = SearchedByRule; Keeps = KeepsEngines }

module _ {C : Type 0} (e : ChoiceEngine C) where
  -- one search for a match
  pub record FindsBy (x : Search) (old new : C) : Type 0 where
    pub runs : e.Runs x old new
    pub holds : HoldsNoMore (2 * length (e.choice old).nfa.groups) (e.choice old).back (e.choice new).back
    pub keeps : e.Keeps old new

  -- one search in which the cache of the backtracker gains no slots: for captures, or for a half match
  pub record SearchesBy (x : Search) (old new : C) : Type 0 where
    pub runs : e.Runs x old new
    pub holds : HoldsNoMore 0 (e.choice old).back (e.choice new).back
    pub keeps : e.Keeps old new

  -- an iteration over the matches of x led from one engine to the other only by its searches, as far as it went
  abbrev pub FindsOn : Search → C → C → Type 0
  FindsOn x old new = Leaves span_of (DoesSearch (TellsMatch (e.choice old)) (λ y a. FindsBy y)) x old new

  -- the same, and the iteration went to its end, past these matches
  abbrev pub FindsToEnd : Search → List Found → C → C → Type 0
  FindsToEnd x ms old new =
      LeavesAtEnd span_of (DoesSearch (TellsMatch (e.choice old)) (λ y a. FindsBy y)) x ms old new

  -- an iteration over the captures of x led from one engine to the other only by its searches, as far as it went
  abbrev pub CapturesOn : Search → C → C → Type 0
  CapturesOn x old new = Leaves row_span (DoesSearch (TellsRow (e.choice old)) (λ y a. SearchesBy y)) x old new

  -- the same, and the iteration went to its end, past these rows
  abbrev pub CapturesToEnd : Search → List Row → C → C → Type 0
  CapturesToEnd x rows old new =
      LeavesAtEnd row_span (DoesSearch (TellsRow (e.choice old)) (λ y a. SearchesBy y)) x rows old new

  -- an iterator over captures may search if these have the groups of the NFA
  abbrev pub MayFillCaptures : WithCache (WithCaptures (Unit {0})) C → Type 0
  MayFillCaptures s = HasGroups (e.choice s.cache).nfa s.backend.captures

  -- One search for captures may answer this. It keeps their groups.
  pub record AsksRowBy (s : WithCache (WithCaptures (Unit {0})) C) (x : Search) (a : Answer Row)
      (t : WithCache (WithCaptures (Unit {0})) C) : Type 0 where
    pub tells : TellsRow (e.choice s.cache) x a
    pub holds : HasGroups (e.choice s.cache).nfa t.backend.captures
    pub work : SearchesBy x s.cache t.cache

  -- An iterator T over captures, with its steps.
  module _ {T : Type 0} (steps : T → StepsWith (WithCaptures (Unit {0})) C) where
    -- a call
    pub record CapturesNextBy (s : T) (r : Option (Result Captured SearchError)) (t : T) : Type 0 where
      pub takes : TakesStepWith row_span AsksRowBy GivesCaptures (steps s) r (steps t)

    -- the calls change the engine only by the searches of an iteration over x
    pub record CapturesLead (x : Search) (s : T) : Type 0 where
      pub on : GivesKept CapturesNextBy (λ p q. CapturesOn x (steps p).cache.now (steps q).cache.now) s

-- An iterator T over matches, with its steps. `asks` is a search.
module _ {A C T : Type 0} (asks : WithCache A C → Search → Answer Found → WithCache A C → Type 0)
    (steps : T → StepsWith A C) where
  -- a call
  pub record FindsNextBy (s : T) (r : Option Match) (t : T) : Type 0 where
    pub takes : TakesStepWith span_of asks (λ _. GivesItem found_of) (steps s) (option_map (λ m. Ok m) r) (steps t)

-- the steps of the iterator over the matches of a choice, and the choice that it borrows
abbrev pub choice_matches : ChoiceMatches → StepsWith ByRule ChoiceState
choice_matches s = record { steps = s.steps; cache = s.choice }

-- one search by the engine that the rule names may answer this
abbrev pub AsksByRule : WithCache ByRule ChoiceState → Search → Answer Found → WithCache ByRule ChoiceState → Type 0
AsksByRule s x a t = DoesSearch (TellsMatch s.cache) (λ y b. FindsBy by_rule y) s.cache x a t.cache

-- a call
abbrev pub choice_matches_next : ChoiceMatches → Option Match → ChoiceMatches → Type 0
choice_matches_next s r t = FindsNextBy AsksByRule choice_matches s r t

-- The calls change the choice only by the searches of an iteration over x. At `None` the iteration went to its end,
-- past the matches so far.
pub record ChoiceFindsBySearches (x : Search) (s : ChoiceMatches) : Type 0 where
  pub on : GivesKept choice_matches_next (λ p q. FindsOn by_rule x p.choice.now q.choice.now) s
  pub to_end : (xs : List Match) (t u : ChoiceMatches) → Yields choice_matches_next s xs t
      → choice_matches_next t None u
      → FindsToEnd by_rule x (map found_of xs) s.choice.now u.choice.now

-- the steps of the iterator over its captures, and the choice that it borrows
abbrev pub choice_captures : ChoiceCaptures → StepsWith (WithCaptures (Unit {0})) ChoiceState
choice_captures s = record { steps = s.steps; cache = s.choice }

-- a call
abbrev pub choice_captures_next : ChoiceCaptures → Option (Result Captured SearchError) → ChoiceCaptures → Type 0
choice_captures_next s r t = CapturesNextBy by_rule choice_captures s r t

-- the maximum number of items still to come
abbrev pub choice_captures_left : ChoiceCaptures → ℕ
choice_captures_left s = count_left (choice_captures s)

-- once the captures that a call lent are no longer borrowed, it was a call that gave them
abbrev pub ChoiceLendsNext : MutBor ChoiceCaptures → Option (Bor Captured) → Fml
ChoiceLendsNext s lent = Rests (the_row (record { mir = named 0; lft = [] }) (record { mir = named 1; lft = [] })) s
    (LendsItem choice_captures_next choice_captures_left s.now lent)
