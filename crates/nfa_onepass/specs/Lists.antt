-- Lists of the slots that steps write.
use Rattle.std.specs.Prelude.{◌≡◌, ℕ, ◌*◌, ◌≤◌, ◌<◌, List, [], length, slice_get}
use Rattle.std.specs.Global.{Vec}
use Rattle.std.specs.List.{sum_by}
use Rattle.std.specs.Option.{option_map_or}

-- the bytes that the slots of a list take
abbrev pub list_bytes : Vec ℕ → ℕ
list_bytes l = 8 * length l.items

-- the slots of the lists take this many bytes, and no more than they may
pub record IsCounted (lists : List (Vec ℕ)) (taken most : ℕ) : Type 0 where
  pub taken_is : taken ≡ sum_by list_bytes lists
  pub within : taken ≤ most

-- the list of this number
abbrev pub list_at : List (Vec ℕ) → ℕ → List ℕ
list_at lists i = option_map_or (λ (l : Vec ℕ). l.items) (slice_get lists i) []

-- the first list is empty
pub record HasEmptyList (lists : List (Vec ℕ)) : Type 0 where
  pub some : 0 < length lists
  pub empty : list_at lists 0 ≡ []

-- lists were added after those that were there
pub record Keeps (old new : List (Vec ℕ)) : Type 0 where
  pub longer : length old ≤ length new
  pub same : (i : ℕ) → i < length old → list_at new i ≡ list_at old i
