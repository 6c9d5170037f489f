-- The patterns that a search for overlapping matches puts into a set of patterns.
use Rattle.std.specs.Prelude.{◌≡◌, ◌↔◌, ◌⊎◌, ℕ, ◌<◌, Bool, true, false, List, length, Option, Some, None, slice_index_or}
use Rattle.regex_search_core.specs.Boundary.{IsBoundary}
use Rattle.regex_search_core.specs.PatternSets.{size_of_set}
use Rattle.regex_search_core.specs.Search.{Search}
use Rattle.regex_search_core.specs.declared.search.MatchKind.{MatchKind}
use Rattle.regex_search_core.specs.declared.search.MatchKind.TheVariants.{All, LeftmostFirst}
use Rattle.thompson_nfa.specs.Automaton.{Automaton}
use Rattle.nfa_paths.specs.Graphs.{Pair, WantedAt, IsFirstTo, IsLeastEnd, IsFirstPath, IsEarliestPath}
use Rattle.nfa_paths.specs.Kinds.{IsReached, WantedBefore}
use Rattle.nfa_paths.specs.Paths.{node_at, pattern_of, is_utf8_empty, IsMatch, edges, starts, last_of, path_pattern}

-- the set holds the pattern
abbrev pub HoldsPattern : List Bool → ℕ → Type 0
HoldsPattern set pattern = slice_index_or set pattern false ≡ true

-- the pattern of the pair, if its state is a Match
abbrev pub pattern_at : Automaton → Pair → Option ℕ
pattern_at nfa v = pattern_of (node_at nfa v.0)

module _ (nfa : Automaton) (x : Search) where
  -- a match may end at the position: at any one, or only on a boundary if empty matches are possible and the NFA is in
  -- UTF-8 mode
  abbrev pub IsPermittedEnd : ℕ → Type 0
  IsPermittedEnd at = is_utf8_empty nfa ≡ true → IsBoundary x.haystack at

  -- a match that ends where a match may end
  pub record IsPermitted (v : Pair) : Type 0 where
    pub matches : IsMatch nfa v
    pub ends : IsPermittedEnd v.1

  -- such a match, of a pattern below the capacity
  pub record IsInsertable (capacity : ℕ) (v : Pair) : Type 0 where
    pub permitted : IsPermitted v
    pub pattern : ℕ
    pub pattern_is : pattern_at nfa v ≡ Some pattern
    pub below : pattern < capacity

  -- some accepting path of the pattern ends at a wanted pair
  abbrev pub IsPatternOf : (Pair → Type 0) → ℕ → Type 0
  IsPatternOf Wanted pattern = IsReached (edges nfa x) (starts nfa x) Wanted (pattern_at nfa) pattern

  -- of such paths with the least end, the first, or none if there is none
  abbrev pub IsEarliestInsertable : ℕ → Option (List Pair) → Type 0
  IsEarliestInsertable capacity = IsEarliestPath (edges nfa x) (starts nfa x) (IsInsertable capacity)

  -- `All` adds this pattern: some accepting path of it has a permitted end. With `earliest`, that end is the least one
  -- of all patterns below the capacity.
  abbrev pub IsSelectedByAll : Bool → ℕ → ℕ → Type 0
  IsSelectedByAll false capacity pattern = IsPatternOf IsPermitted pattern
  IsSelectedByAll true capacity pattern = (e : ℕ) × IsLeastEnd (edges nfa x) (starts nfa x) (IsInsertable capacity) e
      × IsPatternOf (WantedAt IsPermitted e) pattern

  -- Among patterns below the capacity, the pattern of the first accepting path with a permitted end before some limit.
  -- A search that ends just before the limit would answer it.
  pub record IsFirstBefore (capacity pattern : ℕ) : Type 0 where
    pub limit : ℕ
    pub along : List Pair
    pub first : IsFirstTo (edges nfa x) (starts nfa x) (WantedBefore (IsInsertable capacity) limit) along
    pub pattern_is : path_pattern nfa along ≡ Some pattern

  -- The set holds the pattern of the path. Its other patterns have accepting paths with a permitted end before that of
  -- the path, which are the first paths before some limit.
  pub record HoldsUpTo (path : List Pair) (set : List Bool) : Type 0 where
    pub end : Pair
    pub ends : last_of path ≡ Some end
    pub pattern : ℕ
    pub pattern_is : pattern_at nfa end ≡ Some pattern
    pub holds : HoldsPattern set pattern
    pub others : (k : ℕ) → HoldsPattern set k → (k ≡ pattern) ⊎ IsPatternOf (WantedBefore IsPermitted end.1) k
    pub exact : (k : ℕ) → HoldsPattern set k ↔ IsFirstBefore (length set) k

  -- the set holds the pattern of the path, and no other
  pub record HoldsOnly (path : List Pair) (set : List Bool) : Type 0 where
    pub end : Pair
    pub ends : last_of path ≡ Some end
    pub pattern : ℕ
    pub pattern_is : pattern_at nfa end ≡ Some pattern
    pub holds : (k : ℕ) → HoldsPattern set k ↔ (k ≡ pattern)

  -- the set that the empty set becomes, given the path that is meant, if there is one
  abbrev pub HoldsPath : Bool → Option (List Pair) → List Bool → Type 0
  HoldsPath earliest None set = size_of_set set ≡ 0
  HoldsPath false (Some path) set = HoldsUpTo path set
  HoldsPath true (Some path) set = HoldsOnly path set

  -- The path that `LeftmostFirst` means. Matches of patterns at or above the capacity do not count. There are none of
  -- these if the capacity covers each pattern of the NFA.
  abbrev pub IsSelectedPath : Bool → ℕ → Option (List Pair) → Type 0
  IsSelectedPath false capacity path = IsFirstPath (edges nfa x) (starts nfa x) (IsInsertable capacity) path
  IsSelectedPath true capacity path = IsEarliestInsertable capacity path

  -- the set that `LeftmostFirst` makes of the empty set of this capacity
  pub record HoldsSelected (earliest : Bool) (capacity : ℕ) (set : List Bool) : Type 0 where
    pub path : Option (List Pair)
    pub meant : IsSelectedPath earliest capacity path
    pub holds : HoldsPath earliest path set

  -- the patterns that the set gains
  pub record GainsAll (earliest : Bool) (old new : List Bool) : Type 0 where
    pub gained : (k : ℕ) → HoldsPattern new k
        ↔ (HoldsPattern old k ⊎ ((k < length old) × IsSelectedByAll earliest (length old) k))

  pub record GainsFirst (earliest : Bool) (old new : List Bool) : Type 0 where
    -- a set that holds a pattern gains nothing
    pub full : 0 < size_of_set old → new ≡ old
    pub empty : size_of_set old ≡ 0 → HoldsSelected earliest (length old) new

  -- the patterns that the set gains, by match kind
  abbrev pub Gains : MatchKind → Bool → List Bool → List Bool → Type 0
  Gains All earliest old new = GainsAll earliest old new
  Gains LeftmostFirst earliest old new = GainsFirst earliest old new

  -- The search turns the old set into the new one. The set keeps its capacity and its patterns. It gains only patterns
  -- below its capacity, each of an accepting path with a permitted end.
  pub record IsOverlapResult (kind : MatchKind) (earliest : Bool) (old new : List Bool) : Type 0 where
    pub capacity : length new ≡ length old
    pub keeps : (k : ℕ) → HoldsPattern old k → HoldsPattern new k
    pub sound : (k : ℕ) → HoldsPattern new k → HoldsPattern old k ⊎ ((k < length old) × IsPatternOf IsPermitted k)
    pub gains : Gains kind earliest old new
