-- What the calls of an iterator have given so far, as clauses that a caller's loops and folds can use.
use Rattle.std.specs.Prelude.{◌≡◌, Bool, true, List, [], ◌∷◌, ◌++◌, map, All, Option, None, Some, Result, Ok, Err, IfOk, IfErr}
use Rattle.nfa_paths.specs.Common.{Yields, EachRunFrom, ItemsMapTo, Automaton, Captured, Found, Match, MatchKind, Search, found_of, match_of}
use Rattle.nfa_search_base.specs.IterStates.{Answer, Memory, SearchError}
use Rattle.nfa_search_base.specs.Lists.{AreAllCaptures, AreDisjoint, AreFirstCaptures, AreFirstMatches, AreFirstRows, AreMatches, AreRows, HasGroups, IsInside, IsSlotInside, SpansInside}
use Rattle.nfa_search_base.specs.WithCaptures.{Row, row_found, row_of}

-- `steps` is a call of the iterator. `First` are the first items of a search, and `Whole` are all of them.
module _ {T R : Type 0} (steps : T → Option R → T → Type 0) where
  -- the items of each run of calls are first items, and all of them if the run reaches `None`
  abbrev pub RunsGive : (List R → Type 0) → (List R → Type 0) → T → Type 0
  RunsGive First Whole s = EachRunFrom steps s (λ p. First p.items × (p.whole ≡ true → Whole p.items))

  -- the items so far are first items
  abbrev pub GivesFirst : (List R → Type 0) → T → Type 0
  GivesFirst First s = (xs : List R) (t : T) → Yields steps s xs t → First xs

  -- after an item, the items so far with that item are first items
  abbrev pub GivesNext : (List R → Type 0) → T → Type 0
  GivesNext First s = (xs : List R) (t : T) (r : R) (u : T) → Yields steps s xs t → steps t (Some r) u
      → First (xs ++ r ∷ [])

  -- at `None` the items so far are all
  abbrev pub GivesAll : (List R → Type 0) → T → Type 0
  GivesAll Whole s = (xs : List R) (t u : T) → Yields steps s xs t → steps t None u → Whole xs

  -- calls lead only to states that `Keeps` relates to s
  abbrev pub GivesKept : (T → T → Type 0) → T → Type 0
  GivesKept Keeps s = (xs : List R) (t : T) (r : Option R) (u : T) → Yields steps s xs t → steps t r u → Keeps s u

  -- all of this but `GivesKept`
  pub record ItemsGiven (First Whole : List R → Type 0) (s : T) : Type 0 where
    pub runs : RunsGive First Whole s
    pub first : GivesFirst First s
    pub next : GivesNext First s
    pub all : GivesAll Whole s

-- The same for an iterator whose items may be errors, if they are all `Ok`. `First` and `Whole` are of their values.
module _ {T Y E : Type 0} (steps : T → Option (Result Y E) → T → Type 0) where
  abbrev pub OksRun : (List Y → Type 0) → (List Y → Type 0) → T → Type 0
  OksRun First Whole s = EachRunFrom steps s (λ p. (ys : List Y) → p.items ≡ map Ok ys
      → First ys × (p.whole ≡ true → Whole ys))

  abbrev pub OksFirst : (List Y → Type 0) → T → Type 0
  OksFirst First s = (xs : List (Result Y E)) (t : T) (ys : List Y) → Yields steps s xs t → xs ≡ map Ok ys → First ys

  abbrev pub OksNext : (List Y → Type 0) → T → Type 0
  OksNext First s = (xs : List (Result Y E)) (t : T) (i : Result Y E) (u : T) (ys : List Y) (y : Y)
      → Yields steps s xs t → steps t (Some i) u → xs ≡ map Ok ys → i ≡ Ok y → First (ys ++ y ∷ [])

  abbrev pub OksAll : (List Y → Type 0) → T → Type 0
  OksAll Whole s = (xs : List (Result Y E)) (t u : T) (ys : List Y) → Yields steps s xs t → steps t None u
      → xs ≡ map Ok ys → Whole ys

  -- all four
  pub record OksGiven (First Whole : List Y → Type 0) (s : T) : Type 0 where
    pub runs : OksRun First Whole s
    pub first : OksFirst First s
    pub next : OksNext First s
    pub all : OksAll Whole s

-- `steps` is a call of the iterator. The calls begin at s.
module _ {T Y : Type 0} (steps : T → Option (Result Y SearchError) → T → Type 0) (s : T) where
  -- the calls give these items, all `Ok`, and the last call gives `None` and leaves t
  pub record DrainsAll (ys : List Y) (t : T) : Type 0 where
    pub last : T
    pub ran : Yields steps s (map Ok ys) last
    pub over : steps last None t

  -- after items that are `Ok`, the last call gives this error and leaves t
  pub record DrainsToError (error : SearchError) (t : T) : Type 0 where
    pub items : List Y
    pub last : T
    pub ran : Yields steps s (map Ok items) last
    pub over : steps last (Some (Err error)) t

  -- at least one call led to t
  pub record CallsLead (t : T) : Type 0 where
    pub items : List (Result Y SearchError)
    pub last : T
    pub item : Option (Result Y SearchError)
    pub ran : Yields steps s items last
    pub over : steps last item t

-- An iterator over the matches of an NFA.
module _ (nfa : Automaton) (kind : MatchKind) (x : Search) where
  -- these items are the first matches of x
  abbrev pub AreFirst : List Match → Type 0
  AreFirst xs = AreFirstMatches nfa kind x.earliest x (map found_of xs)

  -- these items are all matches of x
  abbrev pub AreAll : List Match → Type 0
  AreAll xs = AreMatches nfa kind x.earliest x (map found_of xs)

  -- All that the calls of an iterator at s have given.
  pub record MatchesGiven {T : Type 0} (steps : T → Option Match → T → Type 0) (s : T) : Type 0 where
    -- the items of each run of calls are the first matches of x, and all of them if the run reaches `None`
    pub runs : RunsGive steps AreFirst AreAll s
    -- the items so far are the first matches, and so they are with the next item
    pub first : GivesFirst steps AreFirst s
    pub next : GivesNext steps AreFirst s
    -- if a list is that of the matches of x, the items are its first elements, and all of them at `None`
    pub are : EachRunFrom steps s (λ p. (all : List Found) → AreMatches nfa kind x.earliest x all
        → ItemsMapTo p found_of all)
    -- the items are in the span, in order and without overlap
    pub disjoint : EachRunFrom steps s (λ p. AreDisjoint x None (map found_of p.items)
        × All (λ m. IsInside x (found_of m)) p.items)

-- the match of captures that have one
abbrev pub match_in : Captured → Found
match_in c = row_found (row_of c)

-- captures that have a match, with the match, the slots and the spans of groups in the span
pub record CapturesInside (x : Search) (c : Captured) : Type 0 where
  pub is_match : match_of c.pattern c.slots ≡ Some (match_in c)
  pub inside : IsInside x (match_in c)
  pub slots : All (IsSlotInside x) c.slots
  pub spans : SpansInside x c

-- captures whose rows and matches are those of x, from the first on
module _ (nfa : Automaton) (kind : MatchKind) (earliest : Bool) (x : Search) where
  abbrev pub RowsAreFirst : List Captured → Type 0
  RowsAreFirst cs = AreFirstRows nfa kind earliest x (map row_of cs)

  abbrev pub RowsAreAll : List Captured → Type 0
  RowsAreAll cs = AreRows nfa kind earliest x (map row_of cs)

  abbrev pub MatchesAreFirst : List Captured → Type 0
  MatchesAreFirst cs = AreFirstMatches nfa kind earliest x (map match_in cs)

  abbrev pub MatchesAreAll : List Captured → Type 0
  MatchesAreAll cs = AreMatches nfa kind earliest x (map match_in cs)

-- An iterator over captures.
module _ {T : Type 0} (steps : T → Option (Result Captured SearchError) → T → Type 0) where
  -- the captures of each run have all groups of the NFA
  abbrev pub CapturesGroups : Automaton → T → Type 0
  CapturesGroups nfa s = EachRunFrom steps s (λ p. All (λ item. IfOk item (HasGroups nfa)) p.items)

  -- the captures are in the span
  abbrev pub CapturesWithin : Search → T → Type 0
  CapturesWithin x s = EachRunFrom steps s (λ p. All (λ item. IfOk item (CapturesInside x)) p.items)

  -- if the items are all `Ok`, their matches are in order and do not overlap
  abbrev pub CapturesDisjoint : Search → T → Type 0
  CapturesDisjoint x s = EachRunFrom steps s (λ p. (cs : List Captured) → p.items ≡ map Ok cs
      → AreDisjoint x None (map match_in cs))

  -- the only error is `Memory`
  abbrev pub CapturesMemory : T → Type 0
  CapturesMemory s = EachRunFrom steps s (λ p. All (λ item. IfErr item (λ error. error ≡ Memory)) p.items)

  -- All that the calls of an engine's iterator at s have given. `Tells` gives the answers of searches: rows, or errors.
  pub record CapturesGiven (nfa : Automaton) (kind : MatchKind) (earliest : Bool)
      (Tells : Search → Answer Row → Type 0) (x : Search) (s : T) : Type 0 where
    -- the items of each run of calls are the first captures of x, and all of them if the run reaches `None`
    pub runs : RunsGive steps (AreFirstCaptures Tells x) (AreAllCaptures Tells x) s
    -- the items so far are the first captures, and so they are with the next item
    pub first : GivesFirst steps (AreFirstCaptures Tells x) s
    pub next : GivesNext steps (AreFirstCaptures Tells x) s
    -- the same for the rows of the items, if all are `Ok`, and at `None` they are all rows of x
    pub rows : OksRun steps (RowsAreFirst nfa kind earliest x) (RowsAreAll nfa kind earliest x) s
    pub first_rows : OksFirst steps (RowsAreFirst nfa kind earliest x) s
    pub next_row : OksNext steps (RowsAreFirst nfa kind earliest x) s
    pub all_rows : OksAll steps (RowsAreAll nfa kind earliest x) s
    -- and for their matches
    pub matches : OksRun steps (MatchesAreFirst nfa kind earliest x) (MatchesAreAll nfa kind earliest x) s
    pub first_matches : OksFirst steps (MatchesAreFirst nfa kind earliest x) s
    pub next_match : OksNext steps (MatchesAreFirst nfa kind earliest x) s
    pub all_matches : OksAll steps (MatchesAreAll nfa kind earliest x) s
    -- the captures have the groups of the NFA, and spans inside that of x, and their matches do not overlap
    pub groups : CapturesGroups nfa s
    pub inside : CapturesWithin x s
    pub disjoint : CapturesDisjoint x s
