-- The next line of a reader.
use Rattle.std.specs.Prelude.{ℕ, Bool, true, false, List, Option}
use Rattle.program_text.specs.Lines.{HasNoRecord, TakesRecord, line_feed}

-- a line was taken, and this holds of it; or there was none
abbrev pub TakesNext : Option (List ℕ) → Option (List ℕ) → (List ℕ → Type 0) → Bool → Type 0
TakesNext before left Holds true = (line : List ℕ) × TakesRecord line_feed before left line × Holds line
TakesNext before left Holds false = HasNoRecord line_feed before
