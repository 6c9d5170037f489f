-- Whether a path is at the start state only where it begins.
use Rattle.std.specs.Prelude.{◌≡◌, ℕ, Some}
use Rattle.nfa_paths.specs.Common.{Automaton, node_at, target_on}

-- no state leads to the start over a byte
pub record IsStartApart (nfa : Automaton) : Type 0 where
  pub apart : (s byte : ℕ) → target_on (node_at nfa s) byte ≡ Some nfa.anchored → ⊥
