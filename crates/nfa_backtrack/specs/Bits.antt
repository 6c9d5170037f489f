-- Marks as bits, in blocks of 64.
use Rattle.std.specs.Prelude.{◌≡◌, ℕ, ◌*◌, ◌/◌, ◌%◌, ◌≤◌, ◌==◌, Bool, List, length, map, slice_index}
use Rattle.std.specs.List.{range_with_len}
use Rattle.std.specs.Int.{bit_at}

-- the bits of all blocks, those of each from the lowest on
unfoldable pub bits_of : List ℕ → List Bool
bits_of blocks = map (λ i. bit_at (slice_index blocks (i / 64)) (i % 64) == 1) (range_with_len 0 (64 * length blocks))

-- every block from this index on is zero
pub record IsClearFrom (used : ℕ) (blocks : List ℕ) : Type 0 where
  pub clear : (i : ℕ) → used ≤ i → slice_index blocks i ≡ 0
