-- Bits in blocks: reading and setting one, and clearing all.
use Rattle.std.proofs.lemmas.Nat.Bits.{bit_at-zero, bit_at_set_same, bit_at_set_other, bit_at-lt, same_from_bits}
use Rattle.nfa_paths.proofs.Common.{bit_at, w64, ℕ_discrete, length-map-range_with_len, get_or-map-range_with_len, ◌≡◌, ℕ, ◌+◌, ◌*◌, ◌/◌, ◌%◌, ◌^◌, ◌<◌, ◌≤◌, Bool, true, false, List, [], rules, length, get_or, set, replicate, refl, ap, sym, ◌∙◌, arith, nat_eq, length-set, length-replicate, bit_or, get_or-set_at, get_or-set_same, get_or-set_other, get_or-replicate, same_lists, get_or_default}
use Rattle.nfa_scan_core.specs.Marks.{Marks}
use Rattle.nfa_backtrack.specs.Bits.{bits_of, IsClearFrom}

-- the bit, in its block
abbrev is_set : List ℕ → ℕ → Bool
is_set blocks i = nat_eq (bit_at (get_or blocks (i / 64) 0) (i % 64)) 1

pub length_bits_of : (blocks : List ℕ) → length (bits_of blocks) ≡ 64 * length blocks
unfolding bits_of
length_bits_of blocks = length-map-range_with_len (is_set blocks) 0 (64 * length blocks)

get_or-bits_of : (blocks : List ℕ) (i : ℕ) (d : Bool) → i < 64 * length blocks
    → get_or (bits_of blocks) i d ≡ is_set blocks i
unfolding bits_of
get_or-bits_of blocks i d inside =
    get_or-map-range_with_len (is_set blocks) 0 (64 * length blocks) i i d inside (omega arith)

-- the block with a bit set, as the code computes it
abbrev with_bit : ℕ → ℕ → ℕ
with_bit block j = bit_or block (1 * 2 ^ j % 2 ^ 64)

-- a bit that is set already changes nothing
bit_or-set : (block j : ℕ) → j < 64 → bit_at block j ≡ 1 → with_bit block j ≡ block
bit_or-set block j low one =
    same_from_bits (with_bit block j) block
    (λ i.
    elim (ℕ_discrete i j) [
      | yes e ↦ rw (e, bit_at_set_same w64 block j low) (sym one)
      | no n ↦ bit_at_set_other w64 block j low i n
    ])

pub bits_of-nil : bits_of [] ≡ []
unfolding bits_of
bits_of-nil = refl

-- the blocks up to here were made zero, and the others were
pub bits_of-zeroed : (used : ℕ) (old new : List ℕ) → length new ≡ length old → IsClearFrom used old
    → ((i : ℕ) → i < used → get_or new i 0 ≡ 0) → ((i : ℕ) → used ≤ i → get_or new i 0 ≡ get_or old i 0)
    → bits_of new ≡ replicate (length (bits_of old)) false
bits_of-zeroed used old new same clear below others =
    same_lists _ _ (grind (arith, length_bits_of, length-replicate)) (λ k d inside.
    let zero : get_or new (k / 64) 0 ≡ 0 = grind arith in
    grind (arith, get_or-bits_of, length_bits_of, get_or-replicate, bit_at-zero))

-- a table as contracts see it
module _ (blocks : List ℕ) {turns : ℕ} {marks : Marks}
    (view : (let m : Marks = record { bits = bits_of blocks; turns = turns } in m) ≡ marks) where
  same_bits : bits_of blocks ≡ marks.bits
  same_bits = ap (λ (m : Marks). m.bits) view

  pub length_view : length marks.bits ≡ 64 * length blocks
  length_view = rw (← same_bits) (length_bits_of blocks)

  -- a position of the table, in a block and a place
  module _ {bit : ℕ} (inside : bit < length marks.bits) where
    pub block_within : bit / 64 < length blocks
    block_within = omega (arith, length_view)

    module _ {block : ℕ} (is : block ≡ get_or blocks (bit / 64) block) where
      same_block : block ≡ get_or blocks (bit / 64) 0
      same_block = is ∙ get_or_default blocks (bit / 64) block 0 block_within

      get_or-bit : (d : Bool) → get_or marks.bits bit d ≡ nat_eq (bit_at block (bit % 64)) 1
      get_or-bit d =
          rw (← same_bits) (get_or-bits_of blocks bit d (omega (arith, length_view)) ∙ rw (← same_block) refl)

      -- a bit that changes the block was clear, and one that does not was set
      pub bit-clear : (with_bit block (bit % 64) ≡ block → ⊥) → (d : Bool) → get_or marks.bits bit d ≡ false
      bit-clear changes d = grind (arith, bit_at-lt, bit_or-set, get_or-bit)

      pub bit-set : with_bit block (bit % 64) ≡ block → (d : Bool) → get_or marks.bits bit d ≡ true
      bit-set stays d = grind (arith, get_or-bit, bit_at_set_same w64 block (bit % 64))

      -- the other bits are as before
      is_set-other : (k : ℕ) → (k ≡ bit → ⊥)
          → is_set (set blocks (bit / 64) (with_bit block (bit % 64))) k ≡ is_set blocks k
      is_set-other k other =
          elim (ℕ_discrete (k / 64) (bit / 64)) [
            | yes e ↦ rw (
              e,
              get_or-set_same blocks (bit / 64) (with_bit block (bit % 64)) 0 block_within,
              bit_at_set_other w64 block (bit % 64) (omega arith) (k % 64) (λ p. other (omega arith)),
              ← same_block,
            ) refl
            | no n ↦ rw (get_or-set_other blocks (bit / 64) (k / 64) (with_bit block (bit % 64)) 0 n) refl
          ]

      pub bits_of-mark : bits_of (set blocks (bit / 64) (with_bit block (bit % 64))) ≡ set marks.bits bit true
      bits_of-mark =
          rw (← same_bits) (same_lists _ _ (grind (arith, length_bits_of, length-set)) (λ k d within.
          grind (
            arith,
            get_or-bits_of,
            length_bits_of,
            length-set,
            get_or-set_at,
            get_or-set_other,
            is_set-other,
            bit_at_set_same w64 block (bit % 64),
          )))

-- a block past those in use is written
pub IsClearFrom-set : (used i value : ℕ) (blocks : List ℕ) → IsClearFrom used blocks → used ≤ i
    → IsClearFrom (i + 1) (set blocks i value)
IsClearFrom-set used i value blocks clear past = search rules

-- what the calls of a table cite
pub ruleset bit_steps = (length_bits_of, length_view, block_within, bits_of-nil)
