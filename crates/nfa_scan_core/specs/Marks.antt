-- The marks of a search, which both engines keep, and how a number is stored.
use Rattle.std.specs.Prelude.{◌≡◌, ℕ, ◌-◌, ◌^◌, min, Bool, true, false, List, slice_index_or}
use Rattle.nfa_paths.specs.Common.{Pair}

-- whether each pair, or each state at a position, is marked, and the number of tries to mark one
pub record Marks : Type 0 where
  pub bits : List Bool
  pub turns : ℕ

-- the pair's position is `at`, and its state is marked
pub record SeenAt (at : ℕ) (bits : List Bool) (v : Pair) : Type 0 where
  pub here : v.1 ≡ at
  pub set : slice_index_or bits v.0 false ≡ true

-- the number, or the maximum `usize` if it is greater
abbrev pub saturated : ℕ → ℕ
saturated n = min n (2 ^ 64 - 1)
