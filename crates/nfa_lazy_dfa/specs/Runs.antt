-- Places by where the cells of a row begin.
use Rattle.std.specs.Prelude.{ℕ, ◌/◌, Option}
use Rattle.nfa_paths.specs.Common.{HalfMatch}
use Rattle.nfa_lazy_dfa.specs.declared.scan.Place.{Place}

-- the place at a position, in the row whose cells begin at `first`
abbrev pub place_at : ℕ → ℕ → Option HalfMatch → Place
place_at at first found = record { at = at; row = first / 256; found = found }
