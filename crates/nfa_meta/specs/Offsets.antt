-- Searches of a haystack from an offset on, and where the match of a search ends.
use Rattle.std.specs.Prelude.{◌≡◌, ℕ, true, List, Option, option_map}
use Rattle.nfa_paths.specs.Common.{HalfFound, Search, MatchKind, Automaton, IsHalfAnswer, whole}

-- the search of the haystack from this offset on, not anchored and not earliest
abbrev pub from_offset : List ℕ → ℕ → Search
from_offset haystack start = record (whole haystack) { start = start }

-- the same for the match that ends first
abbrev pub earliest_from : List ℕ → ℕ → Search
earliest_from haystack start = record (whole haystack) { start = start; earliest = true }

-- the end of the half match that the search finds
pub record IsEndAnswer (nfa : Automaton) (kind : MatchKind) (x : Search) (end : Option ℕ) : Type 0 where
  pub half : Option HalfFound
  pub answer : IsHalfAnswer nfa kind x.earliest x half
  pub end_is : end ≡ option_map (λ m. m.offset) half
