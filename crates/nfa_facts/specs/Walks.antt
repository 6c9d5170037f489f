-- Walks over the states of an NFA that may not pass a byte or a state, and reach no match.
use Rattle.std.specs.Prelude.{◌≡◌, ℕ, ◌<◌, Bool, List, None, Option, Some, slice_index, true}
use Rattle.nfa_paths.specs.Common.{In, Automaton, Node, node_at, pattern_of, target_on}
use Rattle.nfa_facts.specs.Reached.{HasTargets}
use Rattle.nfa_facts.specs.declared.literal.walk.Cut.{Cut}
use Rattle.nfa_facts.specs.declared.literal.walk.Cut.TheVariants.{Byte, State}

-- the byte that a walk may not read
abbrev pub byte_of : Cut → Option ℕ
byte_of (Byte byte) = Some byte
byte_of (State state) = None

-- the state that it may not pass
abbrev pub state_of : Cut → Option ℕ
state_of (Byte byte) = None
state_of (State state) = Some state

-- The state is no match, and the list has what it leads to without the byte. On a line, it does not move on over a line
-- feed.
pub record IsPassed (byte : Option ℕ) (on_line : Bool) (states : List ℕ) (node : Node) : Type 0 where
  pub plain : pattern_of node ≡ None
  pub targets : HasTargets states byte node
  pub line : on_line ≡ true → target_on node 10 ≡ None

module _ (nfa : Automaton) (cut : Cut) where
  -- the state is passed, unless the walk may not pass it
  abbrev pub IsPassable : Bool → List ℕ → ℕ → Type 0
  IsPassable line states s = ¬ (state_of cut ≡ Some s) → IsPassed (byte_of cut) line states (node_at nfa s)

  -- The list has the anchored start, and the first `done` of its states were passed.
  pub record IsUnderWay (line : Bool) (done : ℕ) (states : List ℕ) : Type 0 where
    pub start : In nfa.anchored states
    pub passed : (k : ℕ) → k < done → IsPassable line states (slice_index states k)

  -- The walk has passed all states that it reached.
  pub record IsWalked (line : Bool) (states : List ℕ) : Type 0 where
    pub start : In nfa.anchored states
    pub passed : (s : ℕ) → In s states → IsPassable line states s
