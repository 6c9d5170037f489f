-- Where a match is, as a lazy DFA knows it: its end, and a position at or before its start.
use Rattle.std.specs.Prelude.{ℕ, ◌≤◌}
use Rattle.nfa_paths.specs.Common.{HalfFound, half_found_of, Search, Automaton}
use Rattle.nfa_lazy_dfa.specs.Configurations.{StartsFrom}
use Rattle.nfa_lazy_dfa.specs.declared.window.Window.{Window}

-- the half match of a window
abbrev pub half_in : Window → HalfFound
half_in w = half_found_of w.half

-- the position that a window starts at
abbrev pub start_in : Window → ℕ
start_in w = w.start

-- The window is in the span of the search, it ends where the match ends, and no accepting path of the search starts
-- before it.
pub record IsWindow (nfa : Automaton) (x : Search) (w : Window) : Type 0 where
  pub low : x.start ≤ start_in w
  pub order : start_in w ≤ (half_in w).offset
  pub high : (half_in w).offset ≤ x.end
  pub starts : StartsFrom nfa x (start_in w)
