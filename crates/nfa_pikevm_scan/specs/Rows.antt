-- The layout of kept states and their rows in memory.
use Rattle.std.specs.Prelude.{ℕ, ◌==◌, Bool, List, [], ◌∷◌, map, take, drop}
use Rattle.nfa_paths.specs.Common.{Slots}

-- the kept states, each with its row; the slots of a row; the states that there is room for; the cells of all rows
pub record Active : Type 0 where
  pub items : List (ℕ × Slots)
  pub width : ℕ
  pub capacity : ℕ
  pub cells : ℕ

-- the states, each with its row of `width` cells
abbrev pub items_of : ℕ → List ℕ → Slots → List (ℕ × Slots)
items_of width [] cells = []
items_of width (s ∷ states) cells = (s, take width cells) ∷ items_of width states (drop width cells)

-- a stamp marks its state if it is the newest one
abbrev pub marks_of : ℕ → List ℕ → List Bool
marks_of newest stamps = map (λ stamp. stamp == newest) stamps
