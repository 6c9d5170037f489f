-- States with what the ways to them have done. A test of all ways visits these.
use Rattle.std.specs.Prelude.{◌≡◌, ℕ, ◌+◌, ◌*◌, ◌≤◌, ◌<◌, ◌↔◌, Bool, true, false, not, ◌&&◌, List, [], ◌∷◌, ◌++◌, map, take, length, slice_index_or, Option, Some, if◌then◌else◌, count_by, ◌==◌}
use Rattle.nfa_paths.specs.Common.{Automaton, Node, Pair, In, HeadIs, Linked, node_at, pattern_of, slot_among, Capture}
use Rattle.nfa_paths.specs.StatePaths.{targets, reads, open_edges, IsStart}
use Rattle.nfa_facts.specs.declared.match_spans.path_state.PathState.{PathState}

-- the place of a state that a way starts with: nothing is done
abbrev pub fresh_path_state : ℕ → PathState
fresh_path_state s = record { state = s; has_read = false; start_written = false; end_written = false }

-- the same done, at another state
abbrev pub at_state : PathState → ℕ → PathState
at_state v s = record v { state = s }

-- a search starts with the place
abbrev pub IsFresh : Automaton → PathState → Type 0
IsFresh nfa v = IsStart nfa v.state × (v ≡ fresh_path_state v.state)

-- the place after the turn of its state, which is this node
unfoldable pub after_node : ℕ → Node → PathState → PathState
after_node pattern (Capture next slot) v =
    record v {
      start_written = if slot == 2 * pattern then not v.has_read else v.start_written;
      end_written = if slot == 2 * pattern + 1 then true else v.end_written;
    }
after_node pattern node v = if reads node then record v { has_read = true; end_written = false } else v

-- the places that follow this one
abbrev pub next_places : Automaton → ℕ → PathState → List PathState
next_places nfa pattern v =
    map (at_state (after_node pattern (node_at nfa v.state) v)) (targets (node_at nfa v.state))

-- both bounds are written
abbrev pub is_recorded : PathState → Bool
is_recorded v = v.start_written && v.end_written

-- 1 for true, 0 for false
abbrev pub bit : Bool → ℕ
bit true = 1
bit false = 0

-- the place's number: there are eight numbers for each state
abbrev pub path_state_number : PathState → ℕ
path_state_number v = 8 * v.state + 4 * bit v.has_read + 2 * bit v.start_written + bit v.end_written

-- Each place whose number is marked is listed. The number of marks that are set is the number of places.
pub record IsTable (marks : List Bool) (places : List PathState) : Type 0 where
  pub count : length places + count_by not marks ≡ length marks
  pub listed : (v : PathState) → slice_index_or marks (path_state_number v) false ≡ true → In v places

-- the places that were reached, and their maximum number
pub record Reach : Type 0 where
  pub room : ℕ
  pub places : List PathState

-- these places were added, unless they were there before, and no others
pub record GainsPathStates (old new wanted : List PathState) : Type 0 where
  pub more : List PathState
  pub kept : new ≡ old ++ more
  pub only : (v : PathState) → In v more → In v wanted
  pub all : (v : PathState) → In v wanted → In v new

-- What a way has done that started at `start` and is now at `position`, before the turn of its state. The two slots of
-- the pattern have these values.
pub record Describes (start position : ℕ) (start_slot end_slot : Option ℕ) (v : PathState) : Type 0 where
  pub onward : start ≤ position
  pub unread : v.has_read ≡ false → position ≡ start
  pub read : v.has_read ≡ true → start < position
  pub started : (v.start_written ≡ true) ↔ (start_slot ≡ Some start)
  pub ended : (v.end_written ≡ true) ↔ (end_slot ≡ Some position)
  pub behind : (e : ℕ) → end_slot ≡ Some e → e ≤ position

module _ (nfa : Automaton) (pattern : ℕ) where
  -- some way leads to the place
  pub record IsLedTo (v : PathState) : Type 0 where
    pub start : Pair
    pub starts : IsStart nfa start.0
    pub before : List Pair
    pub position : ℕ
    pub head : HeadIs start (before ++ (v.state, position) ∷ [])
    pub linked : Linked (open_edges nfa) (before ++ (v.state, position) ∷ [])
    pub done : Describes start.1 position (slot_among nfa before (2 * pattern))
        (slot_among nfa before (2 * pattern + 1)) v

  -- the place is not a Match of the pattern, or both bounds are written
  abbrev pub IsFine : PathState → Type 0
  IsFine v = pattern_of (node_at nfa v.state) ≡ Some pattern → is_recorded v ≡ true

  -- The list has the start places of every search and what follows each of these of its places, and none of these is a
  -- Match that lacks a bound.
  pub record IsClosed (these places : List PathState) : Type 0 where
    pub starts : (s : ℕ) → IsStart nfa s → In (fresh_path_state s) places
    pub covers : (v : PathState) → In v these → (w : PathState) → In w (next_places nfa pattern v) → In w places
    pub fine : (v : PathState) → In v these → IsFine v

  -- Ways lead to each of these places, and the first `done` of them were gone through.
  pub record IsUnderWay (done : ℕ) (places : List PathState) : Type 0 where
    pub inside : done ≤ length places
    pub closed : IsClosed (take done places) places
    pub below : (v : PathState) → In v places → v.state < length nfa.states
    pub led : (v : PathState) → In v places → IsLedTo v
