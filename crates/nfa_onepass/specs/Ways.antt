-- Ways from a state without a byte, and steps over a byte that are sure: only one way leads to a state that reads it.
use Rattle.std.specs.Prelude.{◌≡◌, ◌≤◌, ℕ, Bool, false, List, [], ◌∷◌, ◌++◌, length, Option, None, Some, slice_set}
use Rattle.std.specs.Option.{option_to_list}
use Rattle.thompson_nfa.specs.Automaton.{Automaton, Node}
use Rattle.thompson_nfa.specs.Automaton.Node.{Look}
use Rattle.thompson_nfa.specs.declared.look.Look as looks
use Rattle.thompson_nfa.specs.declared.look.Look.TheVariants.{End}
use Rattle.thompson_nfa.specs.Flaws.{pattern_of, slot_of}
use Rattle.regex_search_core.specs.Search.{Search}
use Rattle.nfa_paths.specs.Exploring.{Slots, apply}
use Rattle.nfa_paths.specs.Graphs.{Pair, In, HeadIs, Linked, EndsWith}
use Rattle.nfa_paths.specs.Paths.{IsMatch, capture, edges, epsilon_states, node_at, slot_row, start_state, target_on}

-- the states that a state leads to without a byte, if each assertion holds or none does
abbrev pub free_states : Bool → Node → List ℕ
free_states looks node = epsilon_states (λ look. looks) node

-- the slot that a state writes, if it is a Capture
abbrev pub written : Node → List ℕ
written node = option_to_list (slot_of node)

-- A way from the first state to the last, without a byte, if each assertion holds or none does: the slots that it
-- writes, in order. The last state writes none of them.
pub data Way (nfa : Automaton) (looks : Bool) : ℕ → List ℕ → ℕ → Type 0 where
  here : {s : ℕ} → Way nfa looks s [] s
  over : {s t r : ℕ} {ws : List ℕ} → In t (free_states looks (node_at nfa s)) → Way nfa looks t ws r
      → Way nfa looks s (written (node_at nfa s) ++ ws) r

-- what a state leads to: with a byte the target on it, without one the pattern of a Match
abbrev pub goal_of : Option ℕ → Node → Option ℕ
goal_of (Some b) node = target_on node b
goal_of None node = pattern_of node

-- There is a way from the state to one that the byte leads on from, or without a byte to a Match, and each has this
-- goal and writes these slots.
pub record IsSure (nfa : Automaton) (looks : Bool) (s : ℕ) (byte : Option ℕ) (goal : ℕ) (slots : List ℕ)
    : Type 0 where
  pub last : ℕ
  pub way : Way nfa looks s slots last
  pub has : goal_of byte (node_at nfa last) ≡ Some goal
  pub only : (r k : ℕ) (ws : List ℕ) → Way nfa looks s ws r → goal_of byte (node_at nfa r) ≡ Some k
      → (k ≡ goal) × (ws ≡ slots)

-- no way from the state leads to a Match where no assertion holds
abbrev pub IsShut : Automaton → ℕ → Type 0
IsShut nfa s =
    (r k : ℕ) (ws : List ℕ) → Way nfa false s ws r → pattern_of (node_at nfa r) ≡ Some k → ⊥

-- No way from the state leads on over the byte, or without one to a Match; nor to a Match where no assertion holds.
pub record IsDead (nfa : Automaton) (looks : Bool) (s : ℕ) (byte : Option ℕ) : Type 0 where
  pub none : (r k : ℕ) (ws : List ℕ) → Way nfa looks s ws r → goal_of byte (node_at nfa r) ≡ Some k → ⊥
  pub shut : looks ≡ false → (b : ℕ) → byte ≡ Some b → IsShut nfa s

-- the state's assertion, if it has one, is that of the end of the haystack
abbrev pub IsOnlyEnd : Node → Type 0
IsOnlyEnd node = (look : looks.Look) (next : ℕ) → node ≡ Look look next → look ≡ End

-- so is each assertion of the NFA
abbrev pub HasOnlyEnds : Automaton → Type 0
HasOnlyEnds nfa = (s : ℕ) → IsOnlyEnd (node_at nfa s)

-- the slots, each of these set to the position
abbrev pub write_each : List ℕ → ℕ → Slots → Slots
write_each [] at slots = slots
write_each (k ∷ ks) at slots = write_each ks at (slice_set slots k (Some at))

module _ (nfa : Automaton) (x : Search) where
  -- the list follows edges from the pair to a Match
  pub record IsTail (v m : Pair) (p : List Pair) : Type 0 where
    pub head : HeadIs v p
    pub linked : Linked (edges nfa x) p
    pub ends : EndsWith m p
    pub matches : IsMatch nfa m

  -- The slots are those of the way so far: each list from the start to a Match at the pair's position or after it goes
  -- on from the pair, and its captures there lead from these slots to its own.
  pub record IsOnWay (count s : ℕ) (v : Pair) (slots : Slots) : Type 0 where
    pub goes_on : (m : Pair) (p : List Pair) → IsTail (s, x.start) m p → v.1 ≤ m.1
        → (q : List Pair) × IsTail v m q
        × (apply (capture nfa) q slots ≡ slot_row nfa count (Some p))

  -- The start leads to the pair: each list from it to a Match is the end of one from the start, and each list from the
  -- start to a Match ends at the pair's position or after it.
  pub record IsReachedFrom (s : ℕ) (v : Pair) : Type 0 where
    pub comes : (m : Pair) (q : List Pair) → IsTail v m q → (p : List Pair) × IsTail (s, x.start) m p
    pub late : (m : Pair) (p : List Pair) → IsTail (s, x.start) m p → v.1 ≤ m.1

  -- Each path from the start to a Match at the end of the span is of this pattern and has these slots.
  pub record IsOnly (pattern : ℕ) (slots : Slots) : Type 0 where
    pub only : (s : ℕ) (m : Pair) (p : List Pair) → start_state nfa x.anchored ≡ Some s → IsTail (s, x.start) m p
        → m.1 ≡ x.end → (pattern_of (node_at nfa m.0) ≡ Some pattern)
        × (slots ≡ slot_row nfa (length slots) (Some p))

  -- The same, and there is such a path, and each path to a Match is one.
  pub record IsWhole (pattern : ℕ) (slots : Slots) : Type 0 where
    pub only : IsOnly pattern slots
    pub first : ℕ
    pub begins : start_state nfa x.anchored ≡ Some first
    pub end : Pair
    pub path : List Pair
    pub tail : IsTail (first, x.start) end path
    pub ends : (m : Pair) (p : List Pair) → IsTail (first, x.start) m p → m.1 ≡ x.end

  -- no path from the start leads to a Match
  abbrev pub IsNowhere : Type 0
  IsNowhere = (s : ℕ) (m : Pair) (p : List Pair) → start_state nfa x.anchored ≡ Some s → IsTail (s, x.start) m p → ⊥
