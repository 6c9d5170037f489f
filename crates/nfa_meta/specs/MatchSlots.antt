-- The slots of a match.
use Rattle.std.specs.Prelude.{ℕ, List, [], ◌∷◌, Option, Some}
use Rattle.nfa_paths.specs.Common.{Found}

-- the two slots of a match
abbrev pub match_slots : Found → List (Option ℕ)
match_slots m = Some m.start ∷ Some m.end ∷ []
