-- What a search of a choice, or of an engine that shows itself as one, writes besides its answer, and its lists.
use Rattle.std.specs.Prelude.{◌≡◌, ◌<◌, ℕ, List, [], map, length, replicate, All, Option, None, IfNone, IfSome, Result, IfOk, IsOk}
use Rattle.std.specs.Global.{Vec}
use Rattle.nfa_search_base.specs.Common.{found_of, number_of, Automaton, Captured, Match, PatternID, Search, AreRows, HasGroups, match_in, AreDisjoint, AreMatches, IsSlotInside, SpansInside, row_of}
use Rattle.nfa_search_base.specs.declared.error.SearchError.{SearchError}
use Rattle.nfa_choice.specs.ChoiceState.{ChoiceState, kind_in}

-- a search of x in the NFA found a match of this pattern, or none, and wrote slots in place of the old ones
pub record WritesSlots (nfa : Automaton) (x : Search) (found : Option PatternID) (old new : List (Option ℕ))
    : Type 0 where
  -- without a match no slot is set
  pub unmatched : IfNone found (new ≡ replicate (length old) None)
  -- the pattern is one of the NFA
  pub pattern : IfSome found (λ p. number_of p < length nfa.patterns)
  -- a slot that is set is inside the span
  pub inside : All (IsSlotInside x) new

-- a search of x in the NFA made captures of the old ones
pub record FillsCaptures (nfa : Automaton) (x : Search) (old new : Captured) : Type 0 where
  -- the groups stay, and so does the number of slots
  pub groups : new.groups ≡ old.groups
  pub count : length new.slots ≡ length old.slots
  -- without a match no slot is set
  pub unmatched : IfNone new.pattern (new.slots ≡ replicate (length old.slots) None)
  -- the pattern is one of the NFA
  pub pattern : IfSome new.pattern (λ p. p < length nfa.patterns)
  -- a slot that is set is inside the span, and so is each span that the captures give
  pub inside : All (IsSlotInside x) new.slots
  pub spans : SpansInside x new

-- All matches of x, by the engine c.
module _ (c : ChoiceState) (x : Search) where
  -- the result is their list, or an error if allocation failed
  pub record ListsMatches (result : Result (Vec Match) SearchError) : Type 0 where
    -- nothing is allocated if there is no match
    pub granted : AreMatches c.nfa (kind_in c) x.earliest x [] → IsOk result
    -- the list holds all matches, from left to right
    pub all : IfOk result (λ found. AreMatches c.nfa (kind_in c) x.earliest x (map found_of found.items))
    -- they do not overlap
    pub disjoint : IfOk result (λ found. AreDisjoint x None (map found_of found.items))

  -- the result is the list of their captures, or an error if allocation failed
  pub record ListsCaptures (result : Result (Vec Captured) SearchError) : Type 0 where
    -- the list holds the rows of all matches, from left to right, and so the matches
    pub rows : IfOk result (λ all. AreRows c.nfa (kind_in c) x.earliest x (map row_of all.items))
    pub matches : IfOk result (λ all. AreMatches c.nfa (kind_in c) x.earliest x (map match_in all.items))
    -- the captures have all groups of the NFA
    pub groups : IfOk result (λ all. All (HasGroups c.nfa) all.items)
    -- the matches do not overlap
    pub disjoint : IfOk result (λ all. AreDisjoint x None (map match_in all.items))
