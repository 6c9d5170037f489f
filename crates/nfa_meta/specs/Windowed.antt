-- Searches whose match is in a window of the lazy DFA.
use Rattle.std.specs.Prelude.{◌≡◌, false}
use Rattle.nfa_paths.specs.Common.{Search, Automaton}
use Rattle.nfa_engines.specs.StartLaws.{from_start, IsFirstStart, IsUnbound}

-- a match may start anywhere in the span and end anywhere, and the first of all paths counts
pub record IsWindowed (nfa : Automaton) (x : Search) : Type 0 where
  pub unbound : IsUnbound nfa x
  pub last : x.earliest ≡ false

-- the search has no windows, so the choice may search its whole span without a stop of the lazy DFA
abbrev pub HasNoWindows : Automaton → Search → Type 0
HasNoWindows nfa x = IsWindowed nfa x → ⊥

-- the search of what is left from a start on before which nothing matches
pub record IsRestOf (nfa : Automaton) (x y : Search) : Type 0 where
  pub first : IsFirstStart nfa x y.start
  pub is : y ≡ from_start x y.start
