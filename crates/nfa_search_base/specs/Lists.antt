-- The items of an iteration as one list, from left to right. It is defined by the steps only. The lists of the matches
-- and of the captures of a search of an NFA are such lists.
use Rattle.std.specs.Prelude.{◌≡◌, ◌⊎◌, ◌<◌, ◌≤◌, ℕ, Bool, MatchBool, List, [], ◌∷◌, length, map, Option, None, Some, IfSome, Result, Ok, Err, ⊤, is_some}
use Rattle.nfa_paths.specs.Common.{ForSome, Automaton, Captured, Found, IsAnswer, IsFindAnswer, MatchKind, Search, Span, group_span, match_of, named_span, slot_count}
use Rattle.nfa_paths.proofs.ExistenceLemmas.{search_answer-exists}
use Rattle.nfa_search_base.specs.Items.{Item, item_by}
use Rattle.nfa_search_base.specs.IterStates.{Answer, IterState, Memory, SearchError, after, answer_span, fresh, repeats, shifted, span_of}
use Rattle.nfa_search_base.specs.WithCaptures.{Row, row_found, row_of, row_span}
use Rattle.nfa_search_base.specs.Finders.{IsInSpan}

-- the match is in the span
pub record IsInside (x : Search) (m : Found) : Type 0 where
  pub from : x.start ≤ m.start
  pub ordered : m.start ≤ m.end
  pub to : m.end ≤ x.end

-- each match is in the span, starts at or after the end of the one before, and ends after it
abbrev pub AreDisjoint : Search → Option ℕ → List Found → Type 0
AreDisjoint x last [] = ⊤
AreDisjoint x last (m ∷ ms) = IsInside x m × ForSome last (λ e. (e ≤ m.start) × (e < m.end))
    × AreDisjoint x (Some m.end) ms

-- the same for the spans of the matches of any finder
abbrev pub AreSpansDisjoint : Search → Option ℕ → List Span → Type 0
AreSpansDisjoint x last [] = ⊤
AreSpansDisjoint x last (p ∷ ps) = ((x.start ≤ p.start) × (p.start ≤ p.end) × (p.end ≤ x.end))
    × ForSome last (λ e. (e ≤ p.start) × (e < p.end)) × AreSpansDisjoint x (Some p.end) ps

-- the slot is none, or its offset is in the span
abbrev pub IsSlotInside : Search → Option ℕ → Type 0
IsSlotInside x slot = IfSome slot (IsInSpan x)

-- the span is in that of the search
pub record IsSpanInside (x : Search) (s : Span) : Type 0 where
  pub from : x.start ≤ s.start
  pub ordered : s.start ≤ s.end
  pub to : s.end ≤ x.end

-- Each span that the captures give is in that of the search: the match, and the spans of each group and each name.
-- `get_match`, `get_group` and `get_group_by_name` of `Captures` return these.
pub record SpansInside (x : Search) (c : Captured) : Type 0 where
  pub found : IfSome (match_of c.pattern c.slots) (IsInside x)
  pub group : (k : ℕ) → IfSome (group_span c k) (IsSpanInside x)
  pub named : (name : List ℕ) → IfSome (named_span c name) (IsSpanInside x)

-- A match is an X, and `span` gives its span. The relation says what a search may answer.
module _ {X : Type 0} (span : X → Span) (tells : Search → Answer X → Type 0) where
  -- A step from w gives this answer: the answer of its search, or, if that is an empty match at the last end, the
  -- answer of a search from one byte further on.
  pub record IsStep (w : IterState) (a : Answer X) : Type 0 where
    pub first : Answer X
    pub is_first : tells w.at first
    pub rest : MatchBool (repeats w (answer_span span first)) (tells (shifted w).at a) (a ≡ first)

  -- the step fails
  abbrev pub Fails : IterState → SearchError → Type 0
  Fails w error = IsStep w (Err error)

  -- the step fails, or has a match whose copy could not be allocated
  abbrev pub FailsOrIsRefused : IterState → SearchError → Type 0
  FailsOrIsRefused w error = IsStep w (Err error) ⊎ ((error ≡ Memory) × (x : X) × IsStep w (Ok (Some x)))

  -- `over` says where the list may end without an error, and `ends` which error may end it.
  module _ (over : IterState → Type 0) (ends : IterState → SearchError → Type 0) where
    -- these items from w on: matches in order, and maybe an error as the last item
    abbrev pub ItemsBy : IterState → List (Item X) → Type 0
    ItemsBy w [] = over w
    ItemsBy w (Ok x ∷ items) = IsStep w (Ok (Some x)) × ItemsBy (after w (Some (span x))) items
    ItemsBy w (Err error ∷ items) = ends w error × (items ≡ [])

  module _ (ends : IterState → SearchError → Type 0) where
    -- these are the next items
    abbrev pub ItemsNext : IterState → List (Item X) → Type 0
    ItemsNext = ItemsBy (λ w. ⊤) ends

    -- these are the last items
    abbrev pub ItemsLast : IterState → List (Item X) → Type 0
    ItemsLast = ItemsBy (λ w. IsStep w (Ok None)) ends

  -- An item holds a Y, and `view` is its match. An error comes if a step fails.
  module _ {Y : Type 0} (view : Y → X) (w : IterState) where
    -- these are the first items from w on
    pub record AreFirstStoredMatches (items : List (Result Y SearchError)) : Type 0 where
      pub come : ItemsNext Fails w (map (item_by view) items)

    -- these are all items from w on
    pub record AreAllStoredMatches (items : List (Result Y SearchError)) : Type 0 where
      pub come : ItemsLast Fails w (map (item_by view) items)

-- Whether a search finds a match, as a function. Each search has exactly one answer, which is a path or none. So
-- `IsBoolAnswer nfa kind earliest x b` holds for this `b` and for no other.
unfoldable pub finds : Automaton → MatchKind → Bool → Search → Bool
finds nfa kind earliest x = is_some (search_answer-exists nfa kind earliest x).1

module _ (nfa : Automaton) (kind : MatchKind) (earliest : Bool) where
  -- a search gives its match, and never fails
  abbrev pub AnswersMatch : Search → Answer Found → Type 0
  AnswersMatch x (Ok found) = IsFindAnswer nfa kind earliest x found
  AnswersMatch x (Err error) = ⊥

  -- these are the first matches of x
  pub record AreFirstMatches (x : Search) (ms : List Found) : Type 0 where
    pub come : ItemsNext span_of AnswersMatch (Fails span_of AnswersMatch) (fresh x) (map (λ m. Ok m) ms)

  -- these are all matches of x
  pub record AreMatches (x : Search) (ms : List Found) : Type 0 where
    pub come : ItemsLast span_of AnswersMatch (Fails span_of AnswersMatch) (fresh x) (map (λ m. Ok m) ms)

-- the captures have the groups of the NFA, and two slots for each group
pub record HasGroups (nfa : Automaton) (c : Captured) : Type 0 where
  pub groups : c.groups ≡ nfa.groups
  pub count : length c.slots ≡ slot_count nfa.groups

module _ (nfa : Automaton) (kind : MatchKind) (earliest : Bool) where
  -- the row is that of the search's answer, has all slots of the NFA, and has a match
  pub record IsRow (x : Search) (row : Row) : Type 0 where
    pub answer : IsAnswer nfa kind earliest x row.pattern row.slots
    pub count : length row.slots ≡ slot_count nfa.groups
    pub is_match : match_of row.pattern row.slots ≡ Some (row_found row)

  -- the search's answer is its row if it has a match, and is never an error
  abbrev pub AnswersRow : Search → Answer Row → Type 0
  AnswersRow x (Ok (Some row)) = IsRow x row
  AnswersRow x (Ok None) = IsFindAnswer nfa kind earliest x None
  AnswersRow x (Err error) = ⊥

  -- these are the first rows of x
  pub record AreFirstRows (x : Search) (rows : List Row) : Type 0 where
    pub come : ItemsNext row_span AnswersRow (Fails row_span AnswersRow) (fresh x) (map (λ row. Ok row) rows)

  -- these are all rows of x
  pub record AreRows (x : Search) (rows : List Row) : Type 0 where
    pub come : ItemsLast row_span AnswersRow (Fails row_span AnswersRow) (fresh x) (map (λ row. Ok row) rows)

-- The relation says what a search may answer. The allocation of a copy of captures may fail.
module _ (tells : Search → Answer Row → Type 0) where
  -- these are the first items of the captures from w on
  pub record AreFirstStoredCaptures (w : IterState) (items : List (Result Captured SearchError)) : Type 0 where
    pub come : ItemsNext row_span tells (FailsOrIsRefused row_span tells) w (map (item_by row_of) items)

  -- these are all items
  pub record AreAllStoredCaptures (w : IterState) (items : List (Result Captured SearchError)) : Type 0 where
    pub come : ItemsLast row_span tells (FailsOrIsRefused row_span tells) w (map (item_by row_of) items)

  -- the same for the captures of x
  abbrev pub AreFirstCaptures : Search → List (Result Captured SearchError) → Type 0
  AreFirstCaptures x = AreFirstStoredCaptures (fresh x)

  abbrev pub AreAllCaptures : Search → List (Result Captured SearchError) → Type 0
  AreAllCaptures x = AreAllStoredCaptures (fresh x)
