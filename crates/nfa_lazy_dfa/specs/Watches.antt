-- A scan that found nothing yet, and the last position at which no path of an earlier start was left.
use Rattle.std.specs.Prelude.{◌≡◌, ℕ, ◌%◌, ◌/◌, ◌≤◌, [], ◌∷◌, None}
use Rattle.nfa_paths.specs.Common.{Search, Automaton}
use Rattle.nfa_lazy_dfa.specs.Configurations.{StartsFrom}
use Rattle.nfa_lazy_dfa.specs.Places.{IsFoundAt}
use Rattle.nfa_lazy_dfa.specs.Rows.{IsRowOf}
use Rattle.nfa_lazy_dfa.specs.Runs.{place_at}
use Rattle.nfa_lazy_dfa.specs.Stances.{Stance}
use Rattle.nfa_lazy_dfa.specs.declared.cache.Cache.{Cache}
use Rattle.nfa_lazy_dfa.specs.declared.dfa.DFA.{DFA}
use Rattle.nfa_lazy_dfa.specs.declared.watch.Watch.{Watch}

-- the position is in the span, at most at another one, and no accepting path starts before it
pub record IsBegun (nfa : Automaton) (x : Search) (start at : ℕ) : Type 0 where
  pub low : x.start ≤ start
  pub high : start ≤ at
  pub starts : StartsFrom nfa x start

-- if the cells of a row begin there, the start is its only state
pub record IsIdlePlace (dfa : DFA) (c : Cache) (first : ℕ) : Type 0 where
  pub alone : (s : Stance) → first % 256 ≡ 0 → IsRowOf c (first / 256) s → s.states ≡ dfa.nfa.anchored ∷ []

-- the scan is at a position and found nothing; it knows an idle row, and where a match may start
pub record IsWatching (dfa : DFA) (c : Cache) (x : Search) (w : Watch) : Type 0 where
  pub whole : w.first % 256 ≡ 0
  pub at : IsFoundAt dfa c x (place_at w.at w.first None)
  pub idle : IsIdlePlace dfa c w.idle
  pub begun : IsBegun dfa.nfa x w.start w.at
