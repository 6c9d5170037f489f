-- boundaries: positions that do not split a codepoint of UTF-8
use Rattle.std.specs.Prelude.{◌≡◌, ℕ, ◌<◌, ◌≤◌, ◌⊎◌, List, length, slice_index}

-- the position is the haystack's length, or its byte is not a continuation byte of UTF-8
abbrev pub IsBoundary : List ℕ → ℕ → Type 0
IsBoundary haystack i =
    (i ≡ length haystack) ⊎ ((i < length haystack)
    × ((slice_index haystack i ≤ 0x7F) ⊎ (0xC0 ≤ slice_index haystack i)))
