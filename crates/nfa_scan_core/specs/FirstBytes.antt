-- The bytes that a match may begin with, and the states that are reached before a byte is read.
use Rattle.std.specs.Prelude.{◌≡◌, ℕ, ◌<◌, ◌≤◌, ◌⊎◌, Bool, true, false, List, length, None, Some, is_some, All, slice_index, slice_index_or}
use Rattle.nfa_paths.specs.Common.{Search, Automaton, Node, Pair, In, IsFirst, byte_at, epsilon_states, target_on, node_at, pattern_of, edges, is_match}
use Rattle.nfa_scan_core.specs.declared.first_bytes.ReachedStates.{ReachedStates}

-- the table admits the byte
abbrev pub Admits : List Bool → ℕ → Type 0
Admits table b = slice_index_or table b true ≡ true

-- the table after admits each byte that the table before admits
pub record Grows (table after : List Bool) : Type 0 where
  pub still : (b : ℕ) → Admits table b → Admits after b

-- the state was reached
pub record WasReached (reached : ReachedStates) (s : ℕ) : Type 0 where
  pub place : ℕ
  pub below : place < reached.len
  pub is : slice_index reached.states place ≡ s

-- each state that was reached stays at its index, and the number of places stays
pub record Extends (reached after : ReachedStates) : Type 0 where
  pub size : length after.states ≡ length reached.states
  pub more : reached.len ≤ after.len
  pub same : (k : ℕ) → k < reached.len → slice_index after.states k ≡ slice_index reached.states k

-- each state that was reached is below n
abbrev pub AreBelow : ℕ → ReachedStates → Type 0
AreBelow n reached = (k : ℕ) → k < reached.len → slice_index reached.states k < n

-- the states that the state leads to without a byte, whether or not its assertion holds
abbrev pub epsilon_targets : Node → List ℕ
epsilon_targets node = epsilon_states (λ look. true) node

-- the state is not a match, the states that it leads to without a byte were reached, and the bytes that it reads are
-- admitted
pub record Covers (reached : ReachedStates) (table : List Bool) (node : Node) : Type 0 where
  pub plain : pattern_of node ≡ None
  pub leads : All (WasReached reached) (epsilon_targets node)
  pub admits : (b t : ℕ) → target_on node b ≡ Some t → Admits table b

-- the state has a target on the byte
abbrev pub Reads : Node → ℕ → Type 0
Reads node b = is_some (target_on node b) ≡ true

-- the state is a match
abbrev pub Matches : Node → Type 0
Matches node = is_some (pattern_of node) ≡ true

-- the state reads each byte that only the second table admits
pub record GrowsBy (table after : List Bool) (node : Node) : Type 0 where
  pub only : (b : ℕ) → Admits after b → Admits table b ⊎ Reads node b

-- no state was reached twice
abbrev pub Differ : ReachedStates → Type 0
Differ reached = (j k : ℕ) → j < k → k < reached.len
    → slice_index reached.states j ≡ slice_index reached.states k → ⊥

-- each state that was added is one of these
pub record AddsOnly (reached after : ReachedStates) (sids : List ℕ) : Type 0 where
  pub among : (k : ℕ) → reached.len ≤ k → k < after.len → In (slice_index after.states k) sids

-- there is no room left, and one of these states was not reached
pub record LacksRoom (reached : ReachedStates) (sids : List ℕ) : Type 0 where
  pub state : ℕ
  pub among : In state sids
  pub full : reached.len ≡ 64
  pub other : WasReached reached state → ⊥

-- the state is a match, or there was no room for the states that it leads to without a byte
abbrev pub Stops : ReachedStates → Node → Type 0
Stops reached node = Matches node ⊎ LacksRoom reached (epsilon_targets node)

-- no state is in the list twice
abbrev pub AreDistinct : List ℕ → Type 0
AreDistinct states = (j k : ℕ) → j < k → k < length states → slice_index states j ≡ slice_index states k → ⊥

module _ (nfa : Automaton) where
  -- the state is reached from the anchored start before a byte is read, if every assertion holds
  pub data IsReachedAtStart : ℕ → Type 0 where
    begin : IsReachedAtStart nfa.anchored
    on : {s t : ℕ} → IsReachedAtStart s → In t (epsilon_targets (node_at nfa s)) → IsReachedAtStart t

  -- a state that is reached before a byte is read reads this one
  pub record IsRead (b : ℕ) : Type 0 where
    pub state : ℕ
    pub at_start : IsReachedAtStart state
    pub by : Reads (node_at nfa state) b

  -- A match may begin with the byte, as far as states are followed: a state that is reached reads the byte or is a
  -- match, or 65 states are reached, one more than are followed.
  pub data MayBegin (b : ℕ) : Type 0 where
    reads : IsRead b → MayBegin b
    matches : (s : ℕ) → IsReachedAtStart s → Matches (node_at nfa s) → MayBegin b
    many : (states : List ℕ) → length states ≡ 65 → All IsReachedAtStart states → AreDistinct states → MayBegin b

-- the table refuses the byte at the position, which is before the end of the span
pub record IsRefused (table : List Bool) (x : Search) (at : ℕ) : Type 0 where
  pub byte : ℕ
  pub read : byte_at x at ≡ Some byte
  pub refused : slice_index_or table byte true ≡ false

-- No path from the start of an anchored search leads to a match from a position that the table refuses. The table
-- admits only bytes that a match may begin with.
pub record IsFirstBytes (nfa : Automaton) (table : List Bool) : Type 0 where
  pub none : (x : Search) (at : ℕ) → IsRefused table x at → (marks : List Pair)
      → IsFirst (edges nfa x) (is_match nfa) marks (nfa.anchored, at) None
  pub least : (b : ℕ) → b < 256 → Admits table b → MayBegin nfa b
