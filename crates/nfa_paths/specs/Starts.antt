-- What the paths of a search match and write, where its answer may start, and NFAs that try their patterns in order.
use Rattle.std.specs.Prelude.{◌≡◌, ◌==◌, ℕ, ◌+◌, ◌*◌, ◌<◌, ◌≤◌, false, List, Option, Some, ◌⊎◌, [], ◌∷◌, None, slice_get}
use Rattle.nfa_paths.specs.Common.{Search, Automaton, byte_at, is_utf8_empty, No, Yes, Node, Pair, HeadIs, NoPath, PathTo, edges, node_at, path_pattern, slot_among, starts, IsMatch, Union, BinaryUnion}
use Rattle.nfa_paths.specs.Paths.{NoMatchBegins}

-- the search has no accepting path
pub record MatchesNothing (nfa : Automaton) (x : Search) : Type 0 where
  pub no_path : NoPath (edges nfa x) (starts nfa x) (IsMatch nfa)

-- the search has an accepting path
pub record MatchesSomething (nfa : Automaton) (x : Search) : Type 0 where
  pub end : Pair
  pub along : List Pair
  pub path : PathTo (edges nfa x) (starts nfa x) end along
  pub accepts : IsMatch nfa end

-- the search has an accepting path of the pattern
pub record MatchesPattern (nfa : Automaton) (x : Search) (pattern : ℕ) : Type 0 where
  pub end : Pair
  pub along : List Pair
  pub path : PathTo (edges nfa x) (starts nfa x) end along
  pub accepts : IsMatch nfa end
  pub pattern_is : path_pattern nfa along ≡ Some pattern

-- the path writes its start and its end into the two slots of its pattern
pub record WritesItsEnds (nfa : Automaton) (end : Pair) (p : List Pair) : Type 0 where
  pub start : Pair
  pub head : HeadIs start p
  pub pattern : ℕ
  pub pattern_is : path_pattern nfa p ≡ Some pattern
  pub start_slot : slot_among nfa p (2 * pattern) ≡ Some start.1
  pub end_slot : slot_among nfa p (2 * pattern + 1) ≡ Some end.1

-- the search from another start
abbrev pub from_start : Search → ℕ → Search
from_start x s = record x { start = s }

-- the anchored search there
abbrev pub anchored_at : Search → ℕ → Search
anchored_at x s = record x { start = s; anchored = Yes }

-- A match of the search may start at each position of its span, and end anywhere: neither the search nor the NFA is
-- anchored, and no match has to end on a boundary.
pub record IsUnbound (nfa : Automaton) (x : Search) : Type 0 where
  pub unanchored : x.anchored ≡ No
  pub prefixed : (nfa.anchored == nfa.unanchored) ≡ false
  pub anywhere : is_utf8_empty nfa ≡ false

-- the start is not before that of the search, and no anchored search at an earlier start has an accepting path
pub record IsFirstStart (nfa : Automaton) (x : Search) (s : ℕ) : Type 0 where
  pub from : x.start ≤ s
  pub nothing : (i : ℕ) → x.start ≤ i → i < s → MatchesNothing nfa (anchored_at x i)

-- At a position with a byte that no match begins with, the anchored search has no accepting path.
abbrev pub NothingAtByte : Type 0
NothingAtByte =
    (nfa : Automaton) (x : Search) (i byte : ℕ) → NoMatchBegins nfa byte → byte_at x i ≡ Some byte
    → MatchesNothing nfa (anchored_at x i)

-- the start of a search is such a start
abbrev pub StartIsFirst : Type 0
StartIsFirst = (nfa : Automaton) (x : Search) → IsFirstStart nfa x x.start

-- the NFA of one pattern: its anchored start is that of the pattern
abbrev pub started_at : Automaton → ℕ → Automaton
started_at nfa state = record nfa { anchored = state }

-- the states that a union tries, in order
abbrev pub alternates_of : Node → Option (List ℕ)
alternates_of (Union alternates) = Some alternates
alternates_of (BinaryUnion alt1 alt2) = Some (alt1 ∷ alt2 ∷ [])
alternates_of _ = None

-- the anchored start is a union of the patterns' starts, in their order, and no path from one of these leads to it
pub record IsUnionOfPatterns (nfa : Automaton) (x : Search) : Type 0 where
  pub union : alternates_of (node_at nfa nfa.anchored) ≡ Some nfa.patterns
  pub apart : (k state at : ℕ) (p : List Pair) → slice_get nfa.patterns k ≡ Some state
      → PathTo (edges nfa x) (starts (started_at nfa state) x) (nfa.anchored, at) p → ⊥

-- the same, or the anchored start is that of the only pattern
abbrev pub TriesPatternsInOrder : Automaton → Search → Type 0
TriesPatternsInOrder nfa x = (nfa.patterns ≡ nfa.anchored ∷ []) ⊎ IsUnionOfPatterns nfa x

-- A pattern that is searched alone matches as no other: its start leads only to Matches of this pattern.
abbrev pub StartsMatchTheirPatterns : Automaton → Search → Type 0
StartsMatchTheirPatterns nfa x =
    (k state pattern : ℕ) → slice_get nfa.patterns k ≡ Some state → MatchesPattern (started_at nfa state) x pattern
    → pattern ≡ k
