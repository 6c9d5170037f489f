-- Slots that each match sets.
use Rattle.std.specs.Prelude.{◌≡◌, ◌⊎◌, ◌+◌, ◌*◌, ◌<◌, ℕ, Bool, true, false, List, length, sum_by, Option, None, Some, is_some, get_or, slice_index_or}
use Rattle.nfa_paths.specs.Common.{Automaton, IsAnswer, IsMatch, MatchKind, Node, In, Pair, Search, node_at, pattern_of, slot_among, slot_of}
use Rattle.nfa_paths.specs.StatePaths.{IsStart, IsStatePath, targets}

-- each way to a Match writes the slot
abbrev pub AlwaysWrites : Automaton → ℕ → Type 0
AlwaysWrites nfa slot = (end : Pair) (p : List Pair) → IsStatePath nfa end p → IsMatch nfa end
    → is_some (slot_among nfa p slot) ≡ true

-- the state is marked
abbrev pub IsMarked : List Bool → ℕ → Type 0
IsMarked marks state = slice_index_or marks state false ≡ true

-- the state writes the slot, or is no Match and leads only to marked states
abbrev pub LeadsToMarked : ℕ → List Bool → Node → Type 0
LeadsToMarked slot marks node = (slot_of node ≡ Some slot)
    ⊎ ((pattern_of node ≡ None) × ((s : ℕ) → In s (targets node) → IsMarked marks s))

-- The marked states are those that searches start with, and what follows each of them that does not write the slot.
-- None of these is a Match.
pub record AreUnwritten (nfa : Automaton) (slot : ℕ) (marks : List Bool) : Type 0 where
  pub starts : (s : ℕ) → IsStart nfa s → IsMarked marks s
  pub leads : (s : ℕ) → IsMarked marks s → LeadsToMarked slot marks (node_at nfa s)

-- There is one pattern, and it has n groups, which each match sets: an answer of a search, of any match kind, has an
-- offset in each of its slots, if it has no more slots than the groups do.
pub record SetsGroups (nfa : Automaton) (n : ℕ) : Type 0 where
  pub one : length nfa.patterns ≡ 1
  pub count : n ≡ length nfa.groups + sum_by length nfa.groups
  pub each : (kind : MatchKind) (earliest : Bool) (x : Search) (pattern : ℕ) (slots : List (Option ℕ))
      → IsAnswer nfa kind earliest x (Some pattern) slots → (slot : ℕ) → slot < length slots → slot < 2 * n
      → is_some (get_or slots slot None) ≡ true
