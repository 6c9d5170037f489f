-- Which columns the arguments ask for.
use Rattle.std.specs.Prelude.{◌≡◌, ℕ, List, Some, slice_get, string_bytes, ⊤}
use Rattle.log_extractor.specs.declared.asked.AskedError.{AskedError}
use Rattle.log_extractor.specs.declared.asked.AskedError.TheVariants.{Memory, NoColumn, NoText}

-- Allocation failed, or none of the names is this one, which the error has.
abbrev pub IsNoColumn : List (List ℕ) → List ℕ → AskedError → Type 0
IsNoColumn names name Memory = ⊤
IsNoColumn names name (NoColumn said) = (string_bytes said ≡ name) × ((k : ℕ) → ¬ (slice_get names k ≡ Some name))
IsNoColumn names name (NoText said) = ⊥
