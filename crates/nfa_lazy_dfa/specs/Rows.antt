-- The rows of a cache, and what each cell says.
use Rattle.std.specs.Prelude.{◌≡◌, ℕ, ◌+◌, ◌-◌, ◌*◌, ◌/◌, ◌%◌, ◌<◌, ◌≤◌, ◌≢◌, List, [], ◌∷◌, All, length, map, replicate, Option, None, Some, is_some, option_map, slice_get, slice_index_or, true}
use Rattle.nfa_paths.specs.Common.{sum_by, number_of, Search, PatternID, MatchKind, Automaton}
use Rattle.nfa_lazy_dfa.specs.Configurations.{scanned}
use Rattle.nfa_lazy_dfa.specs.Firsts.{AreFirsts}
use Rattle.nfa_lazy_dfa.specs.Stances.{Stance, IsNext, StandsFor, hit_here, stance_of}
use Rattle.nfa_lazy_dfa.specs.declared.cache.Cache.{Cache}
use Rattle.nfa_lazy_dfa.specs.declared.dfa.DFA.{DFA}
use Rattle.nfa_lazy_dfa.specs.declared.follow.Stand.{Stand}

-- the row that the cell leads to
abbrev pub row_of : ℕ → ℕ
row_of cell = cell % 0x2000_0000 / 256

-- the cells of a row of which nothing is known
abbrev pub unknown : List ℕ
unknown = replicate 256 0xFFFF_FFFF

-- what the rows stand for
abbrev pub stances_of : List Stand → List Stance
stances_of stands = map stance_of stands

-- how many bytes a row takes
abbrev pub row_memory_of : Stance → ℕ
row_memory_of s = 1120 + (length s.states + length s.hits) * 4

module _ (nfa : Automaton) (kind : MatchKind) where
  -- The cell is the place of a row's first cell with a mark, and leads to what the byte leads to. The mark says whether
  -- that row is dead, and whether a match leads to it. A row that is marked as idle has only the start.
  pub record Leads (stances : List Stance) (s : Stance) (byte cell : ℕ) : Type 0 where
    pub whole : cell % 256 ≡ 0
    pub target : Stance
    pub is : slice_get stances (row_of cell) ≡ Some target
    pub next : IsNext nfa kind s byte target
    pub plain : cell < 0x4000_0000 → target.hit ≡ None
    pub idle : 0x2000_0000 ≤ cell → cell < 0x4000_0000 → target.states ≡ nfa.anchored ∷ []
    pub matched : 0x4000_0000 ≤ cell → cell < 0x8000_0000 → is_some target.hit ≡ true
    pub dead : 0x8000_0000 ≤ cell → cell < 0xFFFF_FFFF → target.states ≡ []
    pub dead_plain : 0x8000_0000 ≤ cell → cell < 0xC000_0000 → target.hit ≡ None
    pub dead_matched : 0xC000_0000 ≤ cell → cell < 0xFFFF_FFFF → is_some target.hit ≡ true

  -- each cell that is known leads to what its byte leads to
  abbrev pub AreCells : List Stance → List ℕ → Type 0
  AreCells stances cells = (row byte : ℕ) (s : Stance) → slice_get stances row ≡ Some s → byte < 256
      → slice_index_or cells (row * 256 + byte) 0 ≢ 0xFFFF_FFFF
      → Leads stances s byte (slice_index_or cells (row * 256 + byte) 0)

  -- each end that is known is the pattern that matches there
  abbrev pub AreEnds : List Stance → List (Option (Option PatternID)) → Type 0
  AreEnds stances ends = (row : ℕ) (s : Stance) (hit : Option PatternID) → slice_get stances row ≡ Some s
      → slice_get ends row ≡ Some (Some hit) → option_map number_of hit ≡ hit_here nfa kind s None

  -- what a cache keeps of its rows
  pub record AreRows (stances : List Stance) (cells : List ℕ) (ends : List (Option (Option PatternID))) : Type 0 where
    pub cells_count : length cells ≡ length stances * 256
    pub ends_count : length ends ≡ length stances
    pub few : length stances ≤ 0x20_0000
    pub below : All (λ s. All (λ q. q < length nfa.states) s.states) stances
    pub cells_are : AreCells stances cells
    pub ends_are : AreEnds stances ends

-- how many bytes the rows of a cache take
abbrev pub memory_of : Cache → ℕ
memory_of c = c.taken

-- how many bytes the rows of a cache may take
abbrev pub capacity_of : DFA → ℕ
capacity_of dfa = dfa.capacity

-- the rows are the DFA's, and take no more than it allows; those that are remembered are the first ones of searches
pub record IsTable (c : Cache) (dfa : DFA) : Type 0 where
  pub rows : AreRows dfa.nfa dfa.kind (stances_of c.stands.items) c.cells.items c.ends.items
  pub firsts : AreFirsts dfa.nfa.anchored (stances_of c.stands.items) c.firsts
  pub taken : c.taken ≡ sum_by row_memory_of (stances_of c.stands.items)
  pub fits : c.taken ≤ dfa.capacity

-- the cache is the DFA's
unfoldable pub IsFor : Cache → DFA → Type 0
IsFor c dfa = IsTable c dfa

-- the row stands for s
abbrev pub IsRowOf : Cache → ℕ → Stance → Type 0
IsRowOf c row s = slice_get (stances_of c.stands.items) row ≡ Some s

-- each row stands for what it stood for
abbrev pub KeepsRows : Cache → Cache → Type 0
KeepsRows old new = (row : ℕ) (s : Stance) → IsRowOf old row s → IsRowOf new row s

-- a byte leads from s, a row of the old cache, to a row of the new one
pub record LeadsTo (dfa : DFA) (old new : Cache) (row byte target : ℕ) : Type 0 where
  pub from : Stance
  pub was : IsRowOf old row from
  pub to : Stance
  pub is : IsRowOf new target to
  pub next : IsNext dfa.nfa dfa.kind from byte to

-- a scan is at a position, in a row of the cache
pub record IsAt (dfa : DFA) (c : Cache) (x : Search) (at row : ℕ) : Type 0 where
  pub stance : Stance
  pub is : IsRowOf c row stance
  pub low : x.start ≤ at
  pub high : at ≤ x.end
  pub stands : StandsFor dfa.nfa x at stance (scanned dfa.nfa x dfa.kind x.earliest (at - x.start))

-- how many steps, each over one byte, the searches with a cache took
abbrev pub steps_of : Cache → ℕ
steps_of c = c.steps

-- how many rows the searches with a cache made
abbrev pub rows_made_of : Cache → ℕ
rows_made_of c = c.made

-- how often the searches with a cache cleared its rows
abbrev pub clears_of : Cache → ℕ
clears_of c = c.cleared

-- how many scans the searches with a cache made
abbrev pub scans_of : Cache → ℕ
scans_of c = c.scans

-- how many searches with a cache stopped without an answer
abbrev pub stops_of : Cache → ℕ
stops_of c = c.stops

-- The copy is a cache of each DFA that the old one is a cache of. It has the same rows, each in the same place, and the
-- same counts.
pub record IsCopyOf (old copy : Cache) : Type 0 where
  pub own : (dfa : DFA) → IsFor old dfa → IsFor copy dfa
  pub rows : stances_of copy.stands.items ≡ stances_of old.stands.items
  pub memory : memory_of copy ≡ memory_of old
  pub scans : scans_of copy ≡ scans_of old
  pub steps : steps_of copy ≡ steps_of old
  pub made : rows_made_of copy ≡ rows_made_of old
  pub clears : clears_of copy ≡ clears_of old
  pub stops : stops_of copy ≡ stops_of old

-- how often a search may clear the rows
abbrev pub max_clears_of : DFA → ℕ
max_clears_of dfa = dfa.max_clears

-- A part of a scan: it took at most `most` steps, and made at most a row for each of them and some more. Each clear was
-- one that the search was allowed. No step is forgotten.
pub record Spends (old new : Cache) (most more : ℕ) : Type 0 where
  pub scans : scans_of new ≡ scans_of old
  pub steps : steps_of new ≤ steps_of old + most
  pub grows : steps_of old ≤ steps_of new
  pub rows : rows_made_of new + steps_of old ≤ rows_made_of old + steps_of new + more
  pub clears : clears_of new + new.clears ≡ clears_of old + old.clears

-- Scans over at most this number of bytes: each took at most a step for each byte and one more, and made at most a row
-- for each step and one more. Each clear was one that the search was allowed. No step is forgotten.
pub record Scans (old new : Cache) (count bytes : ℕ) : Type 0 where
  pub scans : scans_of new ≡ scans_of old + count
  pub steps : steps_of new ≤ steps_of old + count * (bytes + 1)
  pub grows : steps_of old ≤ steps_of new
  pub rows : rows_made_of new + steps_of old ≤ rows_made_of old + steps_of new + count
  pub clears : clears_of new + new.clears ≡ clears_of old + old.clears

-- scans over the span of x, whose start moves on
pub record ScansAtMost (old new : Cache) (x : Search) : Type 0 where
  pub count : ℕ
  pub few : count ≤ (x.end - x.start) + 2
  pub scans : Scans old new count (x.end - x.start)

-- one scan more, and nothing else changed
pub record CountsScan (old new : Cache) : Type 0 where
  pub scans : scans_of new ≡ scans_of old + 1
  pub steps : steps_of new ≡ steps_of old
  pub rows : rows_made_of new ≡ rows_made_of old
  pub cleared : clears_of new ≡ clears_of old
  pub clears : new.clears ≡ old.clears

-- the stops may have changed, and no other count
pub record KeepsOtherCounts (old new : Cache) : Type 0 where
  pub scans : scans_of new ≡ scans_of old
  pub steps : steps_of new ≡ steps_of old
  pub rows : rows_made_of new ≡ rows_made_of old
  pub clears : clears_of new ≡ clears_of old

-- a search may clear as often as the DFA allows, and nothing else changed
pub record AllowsClears (old new : Cache) (dfa : DFA) : Type 0 where
  pub scans : scans_of new ≡ scans_of old
  pub steps : steps_of new ≡ steps_of old
  pub rows : rows_made_of new ≡ rows_made_of old
  pub cleared : clears_of new ≡ clears_of old
  pub clears : new.clears ≡ max_clears_of dfa

-- What a search of x spends: at most two scans more than the span has bytes; in each scan at most a step for each byte
-- of the span and for the one after it; a row for each step at most, and one for each scan; and the clears that the DFA
-- allows.
pub record IsBounded (old new : Cache) (dfa : DFA) (x : Search) : Type 0 where
  pub count : ℕ
  pub scans : scans_of new ≡ scans_of old + count
  pub few : count ≤ (x.end - x.start) + 2
  pub steps : steps_of new ≤ steps_of old + count * ((x.end - x.start) + 1)
  pub rows : rows_made_of new + steps_of old ≤ rows_made_of old + steps_of new + count
  pub clears : clears_of new ≤ clears_of old + max_clears_of dfa
