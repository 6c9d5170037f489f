-- The searches of an iteration by an engine: what they need, answer and leave.
use Rattle.std.specs.Prelude.{◌≡◌, ◌+◌, ◌-◌, ℕ, if◌then◌else◌, List, [], ◌∷◌, Option, None, Some, option_map, Ok, Err, ◌==◌}
use Rattle.std.specs.Result.{result_unwrap_or}
use Rattle.nfa_paths.specs.Common.{ForSome, Automaton, Found, Match, Search, Span, found_of}
use Rattle.nfa_search_base.specs.IterStates.{Advances, Answer, IterState, fresh, span_of}
use Rattle.nfa_search_base.specs.Lists.{HasGroups}
use Rattle.nfa_search_base.specs.Stored.{WithCache}
use Rattle.nfa_search_base.specs.WithCaptures.{Row, WithCaptures}

-- an engine of an iteration, and the match of the next search if it is already known
pub record Knowing (E : Type 0) : Type 0 where
  pub engine : E
  pub known : Option Match

-- a cache, and the match of the next search if it is already known
pub record Keeping (C : Type 0) : Type 0 where
  pub cache : C
  pub known : Option Found

-- the match, if it ends at n
abbrev pub if_ends_at : ℕ → Option Found → Option Found
if_ends_at n None = None
if_ends_at n (Some m) = if m.end == n then Some m else None

-- the match of the answer
abbrev pub found_in : Answer Found → Option Found
found_in a = result_unwrap_or a None

-- where the last scan started, of a search that made this many
abbrev pub last_start : Search → ℕ → ℕ
last_start x scans = x.start + (scans - 1)

-- A search does `Work` with the cache, which counts its `scans`.
module _ {C : Type 0} (Work : Search → Answer Found → C → C → Type 0) (scans : C → ℕ) (x : Search)
    (a : Answer Found) where
  -- If a match is known, it is the answer, and nothing changes. Otherwise one search is made, and its match becomes
  -- known for the next search if it ends where the last scan started.
  abbrev pub AnswersBy : Option Found → Keeping C → Keeping C → Type 0
  AnswersBy (Some m) s t = (a ≡ Ok (Some m)) × (t ≡ s)
  AnswersBy None s t = Work x a s.cache t.cache × (t.known ≡ if_ends_at (last_start x (scans t.cache)) (found_in a))

  -- The known match is the answer exactly if it ends at the start of x.
  pub record SearchesUnlessKnown (s t : Keeping C) : Type 0 where
    pub by_known : AnswersBy (if_ends_at x.start s.known) s t

-- the cache, and the match that is known to the engine that searches with it
abbrev pub keeping : {E A C : Type 0} → (A → Knowing E) → WithCache A C → Keeping C
keeping shown s = record { cache = s.cache; known = option_map found_of (shown s.backend).known }

-- A `Sure` match is the only one that a search can find.
module _ {E : Type 0} (Sure : E → Search → Found → Type 0) where
  -- what is known about searches like x: nothing, or the match of the search that starts where this match ends
  abbrev pub IsKnownFrom : E → Search → Option Match → Type 0
  IsKnownFrom e x known = ForSome known (λ m. Sure e (record x { start = (found_of m).end }) (found_of m))

  -- `shown` is the engine, and what is known.
  module _ {A C : Type 0} (shown : A → Knowing E) where
    -- the cache fits, and what is known holds of searches like this one
    pub record MayFind (Fits : C → E → Type 0) (s : WithCache A C) (x : Search) : Type 0 where
      pub fits : Fits s.cache (shown s.backend).engine
      pub knows : IsKnownFrom (shown s.backend).engine x (shown s.backend).known

    -- A search by the engine may give an answer that it `Tells`. Exactly if that answer was known, no search is made.
    -- Otherwise the search does `Work` with the cache, once.
    pub record AsksEngine (Tells : E → Search → Answer Found → Type 0)
        (Work : E → Search → Answer Found → C → C → Type 0) (scans : C → ℕ) (s : WithCache A C) (x : Search)
        (a : Answer Found) (t : WithCache A C) : Type 0 where
      pub finds : Tells (shown s.backend).engine x a
      pub engine : (shown t.backend).engine ≡ (shown s.backend).engine
      pub knows : IsKnownFrom (shown t.backend).engine x (shown t.backend).known
      pub work : SearchesUnlessKnown (Work (shown s.backend).engine) scans x a (keeping shown s) (keeping shown t)

-- An engine that fills captures, with its NFA.
module _ {E C : Type 0} (nfa : E → Automaton) where
  -- the cache fits, and the captures have the groups of the NFA
  pub record MayFill (Fits : C → E → Type 0) (s : WithCache (WithCaptures E) C) : Type 0 where
    pub fits : Fits s.cache s.backend.finder
    pub holds : HasGroups (nfa s.backend.finder) s.backend.captures

  -- A search by the engine may give an answer that it `Tells`. It does `Work` with the cache once, and keeps the groups
  -- of the captures.
  pub record AsksEngineRow (Tells : E → Search → Answer Row → Type 0)
      (Work : E → Search → Answer Row → C → C → Type 0) (s : WithCache (WithCaptures E) C) (x : Search) (a : Answer Row)
      (t : WithCache (WithCaptures E) C) : Type 0 where
    pub tells : Tells s.backend.finder x a
    pub engine : t.backend.finder ≡ s.backend.finder
    pub holds : HasGroups (nfa s.backend.finder) t.backend.captures
    pub work : Work s.backend.finder x a s.cache t.cache

-- One search of x gives this answer, as `Tells` says, and does its `Work` with the borrowed state.
pub record DoesSearch {C X : Type 0} (Tells : Search → Answer X → Type 0)
    (Work : Search → Answer X → C → C → Type 0) (old : C) (x : Search) (a : Answer X) (new : C) : Type 0 where
  pub tells : Tells x a
  pub work : Work x a old new

-- the answers of an iteration that runs to its end: these matches, and then none
abbrev pub answers_to_end : {X : Type 0} → List X → List (Answer X)
answers_to_end [] = Ok None ∷ []
answers_to_end (m ∷ ms) = Ok (Some m) ∷ answers_to_end ms

-- A match is an X. `span` gives its span. `asks` is a search.
module _ {S X : Type 0} (span : X → Span) (asks : S → Search → Answer X → S → Type 0) where
  -- Steps from w on gave these answers in order, and only their searches led from s to t. An answer without a match is
  -- the last one.
  abbrev pub StepsLead : IterState → S → List (Answer X) → S → Type 0
  StepsLead w s [] t = t ≡ s
  StepsLead w s (Ok (Some x) ∷ rest) t =
      (u : S) × (v : IterState) × Advances span asks s w (Ok (Some x)) u v × StepsLead v u rest t
  StepsLead w s (Ok None ∷ rest) t = (v : IterState) × Advances span asks s w (Ok None) t v × (rest ≡ [])
  StepsLead w s (Err e ∷ rest) t = (v : IterState) × Advances span asks s w (Err e) t v × (rest ≡ [])

  -- only the searches of the steps of an iteration over x led from s to t, as far as the iteration went
  pub record Leaves (x : Search) (s t : S) : Type 0 where
    pub answers : List (Answer X)
    pub steps : StepsLead (fresh x) s answers t

  -- the iteration went to its end, and found these matches
  pub record LeavesAtEnd (x : Search) (ms : List X) (s t : S) : Type 0 where
    pub steps : StepsLead (fresh x) s (answers_to_end ms) t

-- An iteration over matches, at first with none known, by searches that do `Work` with a cache, which counts `scans`.
module _ {C : Type 0} (Tells : Search → Answer Found → Type 0) (Work : Search → Answer Found → C → C → Type 0)
    (scans : C → ℕ) where
  -- one search of such an iteration
  abbrev pub asks_keeping : Keeping C → Search → Answer Found → Keeping C → Type 0
  asks_keeping = DoesSearch Tells (SearchesUnlessKnown Work scans)

  -- the iteration led from the old cache to the new one, as far as it went
  pub record FindsLeave (x : Search) (old new : C) : Type 0 where
    pub known : Option Found
    pub left : Leaves span_of asks_keeping x (record { cache = old; known = None })
        (record { cache = new; known = known })

  -- the iteration went to its end, and found these matches
  pub record FindsLeaveAtEnd (x : Search) (ms : List Found) (old new : C) : Type 0 where
    pub known : Option Found
    pub left : LeavesAtEnd span_of asks_keeping x ms (record { cache = old; known = None })
        (record { cache = new; known = known })
