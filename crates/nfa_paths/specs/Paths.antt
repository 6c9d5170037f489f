-- The answer of a search of an NFA, in terms of the NFA's paths.
use Rattle.std.specs.Prelude.{◌≡◌, ℕ, zero, suc, ◌+◌, ◌-◌, ◌<◌, ◌≤◌, ◌⊎◌, Bool, true, false, ◌&&◌, ◌||◌, MatchBool, not, is_some, replicate, List, [], ◌∷◌, length, map, count_by, Option, Some, None, option_map, option_and_then, option_to_list, if◌then◌else◌, ◌==◌, nat_lt, nat_le, slice_get, slice_index_or, ⊤}
use Rattle.std.specs.List.{range_with_len, sum_by, last_or}
use Rattle.std.specs.Option.{option_or, option_map_or}
use Rattle.regex_search_core.specs.Boundary.{IsBoundary}
use Rattle.regex_search_core.specs.Found.{Found, HalfFound}
use Rattle.regex_search_core.specs.Groups.{slot_count}
use Rattle.regex_search_core.specs.Search.{Search, is_anchored}
use Rattle.regex_search_core.specs.Slots.{match_of}
use Rattle.regex_search_core.specs.PatternSets.{number_of}
use Rattle.regex_search_core.specs.declared.search.Anchored.{Anchored}
use Rattle.regex_search_core.specs.declared.search.Anchored.TheVariants.{No, Yes, Pattern}
use Rattle.regex_search_core.specs.declared.search.MatchKind.{MatchKind}
use Rattle.regex_search_core.specs.declared.search.MatchKind.TheVariants.{All, LeftmostFirst}
use Rattle.thompson_nfa.specs.declared.state.Transition.{Transition}
use Rattle.thompson_nfa.specs.declared.look.Look as looks
use Rattle.thompson_nfa.specs.Automaton.{Automaton, Node}
use Rattle.thompson_nfa.specs.Automaton.Node.{ByteRange, Sparse, Dense, Look, Union, BinaryUnion, Capture, Fail, Match}
use Rattle.thompson_nfa.specs.Looks.{look_holds}
pub use Rattle.thompson_nfa.specs.Flaws.{pattern_of, slot_of}
use Rattle.nfa_paths.specs.Graphs.{Pair, Space, IsFirstPath, IsEarliestPath, IsLastPath, IsEarliestLastPath, NoPath}

-- the byte is in the range of the transition
abbrev pub holds_byte : Transition → ℕ → Bool
holds_byte t b = nat_le t.start b && nat_le b t.end

-- the target of the first transition whose range has the byte
abbrev pub first_target : List Transition → ℕ → Option ℕ
first_target [] b = None
first_target (t ∷ ts) b = if holds_byte t b then Some t.next else first_target ts b

-- the target of a byte state on the byte
abbrev pub target_on : Node → ℕ → Option ℕ
target_on (ByteRange t) b = if holds_byte t b then Some t.next else None
target_on (Sparse ts) b = first_target ts b
target_on (Dense targets) b = option_and_then (λ target. target) (slice_get targets b)
target_on _ b = None

-- the state at each of `count` positions, beginning with this one
abbrev pub pairs_from : ℕ → ℕ → ℕ → List Pair
pairs_from state at zero = []
pairs_from state at (suc count) = (state, at) ∷ pairs_from state (at + 1) count

-- the search with its start raised by i
abbrev pub raised : Search → ℕ → Search
raised x i = record x { start = x.start + i }

-- the length of the span; 0 if its end is before its start
abbrev pub span_len : Search → ℕ
span_len x = x.end - x.start

-- the maximum number of edges of a state at one position
abbrev pub degree : Node → ℕ
degree (ByteRange t) = 1
degree (Sparse ts) = length ts
degree (Dense targets) = count_by is_some targets
degree (Look look next) = 1
degree (Union alternates) = length alternates
degree (BinaryUnion alt1 alt2) = 2
degree (Capture next slot) = 1
degree Fail = 0
degree (Match pattern) = 0

-- the state reads a byte
abbrev pub reads_byte : Node → Bool
reads_byte (ByteRange t) = true
reads_byte (Sparse ts) = true
reads_byte (Dense targets) = true
reads_byte _ = false

-- a state that leads to the next position or nowhere, and writes nothing: a byte state, a Fail or a Match
abbrev pub rests : Node → Bool
rests Fail = true
rests (Match pattern) = true
rests node = reads_byte node

-- which assertions hold at a position
abbrev pub Holding : Type 0
Holding = looks.Look → Bool

-- those that hold at a position of the haystack: all that a closure reads of it
abbrev pub holding_at : List ℕ → ℕ → Holding
holding_at haystack at look = look_holds look haystack at

-- the states that a state leads to without a byte, in order of preference
abbrev pub epsilon_states : Holding → Node → List ℕ
epsilon_states holding (Look look next) = if holding look then next ∷ [] else []
epsilon_states holding (Union alternates) = alternates
epsilon_states holding (BinaryUnion alt1 alt2) = alt1 ∷ alt2 ∷ []
epsilon_states holding (Capture next slot) = next ∷ []
epsilon_states holding _ = []

module _ (x : Search) where
  -- the byte at p, if p is before the end of the span
  abbrev pub byte_at : ℕ → Option ℕ
  byte_at p = if nat_lt p x.end then slice_get x.haystack p else None

  -- the pairs that follow a state at position p, in order of preference
  unfoldable pub edges_of : Node → ℕ → List Pair
  edges_of (Look look next) p = if look_holds look x.haystack p then (next, p) ∷ [] else []
  edges_of (Union alternates) p = map (λ next. (next, p)) alternates
  edges_of (BinaryUnion alt1 alt2) p = (alt1, p) ∷ (alt2, p) ∷ []
  edges_of (Capture next slot) p = (next, p) ∷ []
  edges_of Fail p = []
  edges_of (Match pattern) p = []
  edges_of node p = option_to_list (option_and_then
      (λ b. option_map (λ next. (next, p + 1)) (target_on node b)) (byte_at p))

-- the last pair of a path
abbrev pub last_of : List Pair → Option Pair
last_of p = last_or None p

module _ (nfa : Automaton) where
  -- the state of this number
  unfoldable pub node_at : ℕ → Node
  node_at state = slice_index_or nfa.states state Fail

  -- the pair's state is a Match
  abbrev pub is_match : Pair → Bool
  is_match v = is_some (pattern_of (node_at v.0))

  abbrev pub IsMatch : Pair → Type 0
  IsMatch v = is_match v ≡ true

  -- the slot that the pair writes its position to, if its state is a Capture
  abbrev pub capture : Pair → Option ℕ
  capture v = slot_of (node_at v.0)

  -- empty matches are possible and the NFA is in UTF-8 mode, so a match has to end on a boundary
  abbrev pub is_utf8_empty : Bool
  is_utf8_empty = nfa.has_empty && nfa.utf8

  -- the first state of a path; none for an unknown pattern
  abbrev pub start_state : Anchored → Option ℕ
  start_state No = Some nfa.anchored
  start_state Yes = Some nfa.anchored
  start_state (Pattern pattern) = slice_get nfa.patterns (number_of pattern)

  -- the number of edges of all states at one position, which bounds the turns there
  abbrev pub total_degree : ℕ
  total_degree = sum_by degree nfa.states

  module _ (x : Search) where
    -- the pairs that follow this one, in order of preference
    abbrev pub edges : Pair → List Pair
    edges v = edges_of x (node_at v.0) v.1

    -- The number of positions that a path may start at: 0 if the span's start is past its end; 1, the first, if the
    -- search or the NFA is anchored; otherwise one for each position of the span, including its end.
    abbrev pub start_count : ℕ
    start_count =
        if nat_lt x.end x.start then 0
        else (if is_anchored x.anchored || nfa.anchored == nfa.unanchored then 1 else (x.end - x.start + 1))

    -- the pairs that a path may start with, in order
    abbrev pub starts : List Pair
    starts = option_map_or (λ state. pairs_from state x.start start_count) (start_state x.anchored) []

    -- the graph that a scan explores
    abbrev pub space : Space
    space = record { edges = edges; capture = capture; starts = starts }

    -- The answer of a scan: the accepting path that the kind and `earliest` choose, or none if there is no accepting
    -- path. A path is accepting if its last state is a Match.
    abbrev pub IsScanAnswer : MatchKind → Bool → Option (List Pair) → Type 0
    IsScanAnswer LeftmostFirst false = IsFirstPath edges starts IsMatch
    IsScanAnswer LeftmostFirst true = IsEarliestPath edges starts IsMatch
    IsScanAnswer All false = IsLastPath edges starts IsMatch
    IsScanAnswer All true = IsEarliestLastPath edges starts IsMatch

  -- the pattern of the Match that the path ends with
  abbrev pub path_pattern : List Pair → Option ℕ
  path_pattern p = option_and_then (λ v. pattern_of (node_at v.0)) (last_of p)

  -- that pattern, and the position at which the path ends
  abbrev pub path_half : List Pair → Option HalfFound
  path_half p = option_and_then
      (λ v. option_map (λ k. record { pattern = k; offset = v.1 }) (pattern_of (node_at v.0))) (last_of p)

  -- the position of the last pair that writes the slot
  abbrev pub slot_among : List Pair → ℕ → Option ℕ
  slot_among [] slot = None
  slot_among (v ∷ p) slot = option_or (slot_among p slot)
      (if option_map_or (λ k. k == slot) (capture v) false then Some v.1 else None)

  -- the first `count` slots of the path, each with the position of the last Capture of the slot; without a path all are
  -- none
  unfoldable pub slot_row : ℕ → Option (List Pair) → List (Option ℕ)
  slot_row count None = replicate count None
  slot_row count (Some p) = map (slot_among p) (range_with_len 0 count)

-- the path ends on a boundary of the haystack
abbrev pub EndsOnBoundary : Search → List Pair → Type 0
EndsOnBoundary x [] = ⊥
EndsOnBoundary x (v ∷ []) = IsBoundary x.haystack v.1
EndsOnBoundary x (v ∷ (w ∷ p)) = EndsOnBoundary x (w ∷ p)

-- there is no path, or it ends on a boundary
abbrev pub IsWhole : Search → Option (List Pair) → Type 0
IsWhole x None = ⊤
IsWhole x (Some p) = EndsOnBoundary x p

module _ (nfa : Automaton) (kind : MatchKind) (earliest : Bool) where
  -- the scan's answer ends inside a codepoint
  pub record SplitsCharacter (x : Search) : Type 0 where
    pub path : List Pair
    pub answers : IsScanAnswer nfa x kind earliest (Some path)
    pub splits : ¬ EndsOnBoundary x path

  -- the answer of an anchored search: one that ends inside a codepoint does not count
  abbrev pub IsKeptAnswer : Search → Option (List Pair) → Type 0
  IsKeptAnswer x None = IsScanAnswer nfa x kind earliest None ⊎ SplitsCharacter x
  IsKeptAnswer x (Some p) = IsScanAnswer nfa x kind earliest (Some p) × EndsOnBoundary x p

  -- Restarts begin one byte further on each time. This answer is that of the first one whose scan is none or ends on a
  -- boundary.
  pub record IsRestartedAnswer (x : Search) (restarts : ℕ) (answer : Option (List Pair)) : Type 0 where
    pub skipped : (i : ℕ) → i < restarts → SplitsCharacter (raised x i)
    pub answers : IsScanAnswer nfa (raised x restarts) kind earliest answer
    pub whole : IsWhole x answer

  -- the search's answer, after this number of restarts
  abbrev pub IsSearchAnswer : Search → ℕ → Option (List Pair) → Type 0
  IsSearchAnswer x restarts answer =
      MatchBool (is_utf8_empty nfa)
      (MatchBool (is_anchored x.anchored) ((restarts ≡ 0) × IsKeptAnswer x answer)
      (IsRestartedAnswer x restarts answer))
      ((restarts ≡ 0) × IsScanAnswer nfa x kind earliest answer)

  -- the pattern and the slots of the search's answer
  pub record IsAnswer (x : Search) (pattern : Option ℕ) (slots : List (Option ℕ)) : Type 0 where
    pub restarts : ℕ
    pub path : Option (List Pair)
    pub answers : IsSearchAnswer x restarts path
    pub pattern_is : pattern ≡ option_and_then (path_pattern nfa) path
    pub slots_are : slots ≡ slot_row nfa (length slots) path

  -- whether the search has an answer
  pub record IsBoolAnswer (x : Search) (found : Bool) : Type 0 where
    pub restarts : ℕ
    pub path : Option (List Pair)
    pub answers : IsSearchAnswer x restarts path
    pub found_is : found ≡ is_some path

  -- the match of the search's answer, from its pattern's two slots
  pub record IsFindAnswer (x : Search) (found : Option Found) : Type 0 where
    pub restarts : ℕ
    pub path : Option (List Pair)
    pub answers : IsSearchAnswer x restarts path
    pub found_is : found ≡ match_of (option_and_then (path_pattern nfa) path)
        (slot_row nfa (slot_count nfa.groups) path)

  -- every answer of the search is this match
  abbrev pub IsSureMatch : Search → Found → Type 0
  IsSureMatch x m = (found : Option Found) → IsFindAnswer x found → found ≡ Some m

  -- the pattern of the search's answer, and the position at which its path ends
  pub record IsHalfAnswer (x : Search) (found : Option HalfFound) : Type 0 where
    pub restarts : ℕ
    pub path : Option (List Pair)
    pub answers : IsSearchAnswer x restarts path
    pub found_is : found ≡ option_and_then (path_half nfa) path

  -- The number of scans is one more than that of restarts. The number of turns is at least that of the pairs of the
  -- answer's path.
  pub record IsWork (x : Search) (scans turns : ℕ) : Type 0 where
    pub restarts : ℕ
    pub path : Option (List Pair)
    pub answers : IsSearchAnswer x restarts path
    pub scans_are : scans ≡ restarts + 1
    pub turns_reach : option_map_or length path 0 ≤ turns

  -- at most as many scans as the search's answer takes
  abbrev pub IsWithinScans : Search → ℕ → Type 0
  IsWithinScans x scans = (restarts : ℕ) (path : Option (List Pair)) → IsSearchAnswer x restarts path
      → scans ≤ restarts + 1

-- the maximum number of scans of a search
abbrev pub max_scans : Automaton → Search → ℕ
max_scans nfa x = if is_utf8_empty nfa && not (is_anchored x.anchored) then (span_len x + 2) else 1

-- No match begins with the byte: in every search, no path from the anchored start, at a position with this byte, leads
-- to a match.
pub record NoMatchBegins (nfa : Automaton) (byte : ℕ) : Type 0 where
  pub no_path : (x : Search) (at : ℕ) → byte_at x at ≡ Some byte
      → NoPath (edges nfa x) ((nfa.anchored, at) ∷ []) (IsMatch nfa)
