-- Which bytes a scan has counted.
use Rattle.std.specs.Prelude.{◌≡◌, ℕ, ◌+◌, ◌-◌, ◌≤◌, ◌⊎◌, Bool, true, false, List, length}
use Rattle.nfa_paths.specs.Common.{size_of_set, Search, HoldsPattern}
use Rattle.nfa_lazy_dfa.specs.Configurations.{IsSettled, scanned}
use Rattle.nfa_lazy_dfa.specs.Configs.{kind_of, nfa_of}
use Rattle.nfa_lazy_dfa.specs.Rows.{steps_of}
use Rattle.nfa_lazy_dfa.specs.declared.cache.Cache.{Cache}
use Rattle.nfa_lazy_dfa.specs.declared.dfa.DFA.{DFA}

-- a scan of x may end at the position: the span ends there, or no later position changes what was found
abbrev pub IsOver : DFA → Search → ℕ → Type 0
IsOver dfa x at = (x.end ≤ at) ⊎ IsSettled x.earliest (scanned (nfa_of dfa) x (kind_of dfa) x.earliest (at - x.start))

-- the same for a scan that made this set: it goes on after a match, and ends also with a full set, or if `earliest` is
-- set after the first match
abbrev pub IsSetOver : DFA → Search → Bool → List Bool → ℕ → Type 0
IsSetOver dfa x earliest set at =
    IsOver dfa (record x { earliest = false }) at
    ⊎ ((size_of_set set ≡ length set) ⊎ ((earliest ≡ true) × ((k : ℕ) × HoldsPattern set k)))

-- A scan that was at a position has counted a step for each byte from there to a position at which it may end.
pub record HasRead (MayEnd : ℕ → Type 0) (old new : Cache) (from : ℕ) : Type 0 where
  pub to : ℕ
  pub low : from ≤ to
  pub over : MayEnd to
  pub steps : steps_of old + (to - from) ≤ steps_of new

-- The last scan of a search of x, from its start or a later one, has counted a step for each byte to a position at
-- which it may end.
pub record HasReadSpan (old new : Cache) (dfa : DFA) (x : Search) : Type 0 where
  pub last : Search
  pub raises : last ≡ record x { start = last.start }
  pub low : x.start ≤ last.start
  pub reads : HasRead (IsOver dfa last) old new last.start
