-- The ways through the states of an NFA, for any haystack, and whether each way writes its bounds.
use Rattle.std.specs.Prelude.{◌≡◌, ℕ, ◌+◌, Bool, true, List, [], ◌∷◌, map, filter_map, Some, if◌then◌else◌}
use Rattle.nfa_paths.specs.Common.{Anchored, Automaton, Node, Pair, HeadIs, Linked, EndsWith, reads_byte, epsilon_states, node_at, pattern_of, start_state, IsMatch, ByteRange, Sparse, Dense}
use Rattle.nfa_paths.specs.Starts.{WritesItsEnds}

-- each state that the state may lead to
unfoldable pub targets : Node → List ℕ
targets (ByteRange trans) = trans.next ∷ []
targets (Sparse transitions) = map (λ t. t.next) transitions
targets (Dense places) = filter_map (λ target. target) places
targets node = epsilon_states (λ look. true) node

-- the state reads a byte
unfoldable pub reads : Node → Bool
reads node = reads_byte node

-- the position after the state
abbrev pub position_after : Node → ℕ → ℕ
position_after node at = if reads node then at + 1 else at

module _ (nfa : Automaton) where
  -- the pairs that may follow this one, if each byte may be read and each assertion holds
  abbrev pub open_edges : Pair → List Pair
  open_edges v = map (λ s. (s, position_after (node_at nfa v.0) v.1)) (targets (node_at nfa v.0))

  -- some search starts with this state
  abbrev pub IsStart : ℕ → Type 0
  IsStart s = (anchored : Anchored) × (start_state nfa anchored ≡ Some s)

  -- The list is a way to the pair: it begins with a start state of a search, at any position, and follows the targets
  -- of states. It may contain a pair twice.
  pub record IsStatePath (end : Pair) (p : List Pair) : Type 0 where
    pub start : Pair
    pub starts : IsStart start.0
    pub head : HeadIs start p
    pub linked : Linked open_edges p
    pub ends : EndsWith end p

  -- each way to a Match of the pattern writes its start and its end into the pattern's two slots
  abbrev pub PatternRecordsMatchSpans : ℕ → Type 0
  PatternRecordsMatchSpans pattern =
      (end : Pair) (p : List Pair) → IsStatePath end p → pattern_of (node_at nfa end.0) ≡ Some pattern
      → WritesItsEnds nfa end p

  -- each way to a Match writes its start and its end
  abbrev pub RecordsMatchSpans : Type 0
  RecordsMatchSpans = (end : Pair) (p : List Pair) → IsStatePath end p → IsMatch nfa end → WritesItsEnds nfa end p
