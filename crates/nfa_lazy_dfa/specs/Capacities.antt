-- When a search gives up since its cache is full.
use Rattle.std.specs.Prelude.{◌≡◌, ℕ, ◌+◌, ◌*◌, ◌<◌, ◌≤◌, ◌⊎◌, true, length, is_some, IfErr, IfOk, Result, Ok, Err, ⊤}
use Rattle.regex_search_core.specs.declared.search.MatchKind.TheVariants.{All}
use Rattle.nfa_paths.specs.Common.{Search, MatchKind, Automaton, start_state, LeftmostFirst}
use Rattle.nfa_lazy_dfa.specs.Rows.{IsFor, IsRowOf, Spends, capacity_of, clears_of, max_clears_of}
use Rattle.nfa_lazy_dfa.specs.Stances.{Stance}
use Rattle.nfa_lazy_dfa.specs.declared.cache.Cache.{Cache}
use Rattle.nfa_lazy_dfa.specs.declared.dfa.DFA.{DFA}
use Rattle.nfa_lazy_dfa.specs.declared.error.GaveUp as reasons
use Rattle.nfa_lazy_dfa.specs.declared.error.GaveUp.TheVariants.{Full}
use Rattle.nfa_lazy_dfa.specs.declared.error.StopError.{StopError}
use Rattle.nfa_lazy_dfa.specs.declared.error.StopError.TheVariants.{GaveUp, Quit, Memory}

-- how many bytes the row of one state takes, with which a scan begins
abbrev pub first_row_memory : ℕ
first_row_memory = 1124

-- how many bytes a row takes at most: it has each state of the NFA once, and for `All` a pattern for each
abbrev pub largest_row_memory : Automaton → MatchKind → ℕ
largest_row_memory nfa LeftmostFirst = 1120 + length nfa.states * 4
largest_row_memory nfa All = 1120 + length nfa.states * 8

-- a search of x has to scan: its span has a position, and its pattern is one of the NFA's
pub record HasToScan (nfa : Automaton) (x : Search) : Type 0 where
  pub order : x.start ≤ x.end
  pub some : is_some (start_state nfa x.anchored) ≡ true

-- The search stopped at the start of its span, and no memory was refused: it gave up there, or it quit at the byte
-- before.
abbrev pub StopsAtStart : {A : Type 0} → Search → Result A StopError → Type 0
StopsAtStart x (Ok found) = ⊥
StopsAtStart x (Err (GaveUp offset)) = offset ≡ x.start
StopsAtStart x (Err (Quit byte offset)) = offset + 1 ≡ x.start
StopsAtStart x (Err Memory) = ⊥

-- a search that gave up had cleared the rows as often as it may, or the largest row does not fit into an empty cache
abbrev pub HasNoRoom : Cache → Cache → DFA → StopError → Type 0
HasNoRoom old new dfa (GaveUp offset) =
    (clears_of new ≡ clears_of old + max_clears_of dfa) ⊎ (capacity_of dfa < largest_row_memory dfa.nfa dfa.kind)
HasNoRoom old new dfa (Quit byte offset) = ⊤
HasNoRoom old new dfa Memory = ⊤

-- the rows may not be cleared again in this search, or the largest row does not fit into an empty cache
abbrev pub IsUsedUp : Cache → DFA → Type 0
IsUsedUp c dfa = (c.clears ≡ 0) ⊎ (capacity_of dfa < largest_row_memory dfa.nfa dfa.kind)

-- the same, if this is why a row is missing
abbrev pub IsUsedUpBy : Cache → DFA → reasons.GaveUp → Type 0
IsUsedUpBy c dfa Full = IsUsedUp c dfa
IsUsedUpBy c dfa _ = ⊤

-- the same, if this is why a scan stopped
abbrev pub IsUsedUpAt : Cache → DFA → StopError → Type 0
IsUsedUpAt c dfa (GaveUp offset) = IsUsedUp c dfa
IsUsedUpAt c dfa (Quit byte offset) = ⊤
IsUsedUpAt c dfa Memory = ⊤

-- The cache of the DFA gave the row that a scan begins with, or gave up.
pub record GivesFirstRow (dfa : DFA) (first : Stance) (old new : Cache) (result : Result ℕ reasons.GaveUp)
    : Type 0 where
  pub own : IsFor new dfa
  pub row : IfOk result (λ row. IsRowOf new row first)
  -- it made at most this row, and took no step
  pub spends : Spends old new 0 1
  -- it gave up since its rows are used up, and without room for such a row it always does
  pub full : IfErr result (IsUsedUpBy new dfa)
  pub small : capacity_of dfa < first_row_memory → result ≡ Err Full

-- the error of a search whose scan is at this offset
abbrev pub stop_at : reasons.GaveUp → ℕ → StopError
stop_at Full offset = GaveUp offset
stop_at _ offset = Memory
