-- Bytes that an NFA treats alike.
use Rattle.std.specs.Prelude.{◌≡◌, ℕ, ◌+◌, ◌<◌, Bool, false, List, slice_index_or}
use Rattle.nfa_paths.specs.Common.{Automaton, node_at, target_on}

-- no cut is between the byte and the next one
pub record IsUncut (cuts : List Bool) (k : ℕ) : Type 0 where
  pub below : k < 255
  pub clear : slice_index_or cuts k false ≡ false

-- each cut stays
pub record KeepsCuts (old new : List Bool) : Type 0 where
  pub keeps : (k : ℕ) → IsUncut new k → IsUncut old k

-- each state treats the two bytes alike, and there is no assertion
pub record IsAlike (nfa : Automaton) (looks : Bool) (a b : ℕ) : Type 0 where
  pub none : looks ≡ false
  pub targets : (s : ℕ) → target_on (node_at nfa s) a ≡ target_on (node_at nfa s) b

-- two bytes next to each other are alike if no cut is between them
pub record AreCuts (nfa : Automaton) (looks : Bool) (cuts : List Bool) : Type 0 where
  pub alike : (k : ℕ) → IsUncut cuts k → IsAlike nfa looks k (k + 1)
