-- The table of sure steps.
use Rattle.std.specs.Prelude.{◌≡◌, ℕ, ◌≤◌, ◌<◌, ◌+◌, ◌*◌, ◌⊎◌, Bool, false, true, List, [], ◌∷◌, ◌++◌, length, map, Option, None, Some, option_map, slice_get, if◌then◌else◌, nat_lt}
use Rattle.std.specs.Global.{Vec}
use Rattle.thompson_nfa.specs.Automaton.{Automaton}
use Rattle.regex_search_core.specs.Search.{Search}
use Rattle.nfa_paths.specs.Exploring.{Slots}
use Rattle.nfa_paths.specs.Paths.{node_at, start_state}
use Rattle.nfa_onepass.specs.Lists.{HasEmptyList, list_at}
use Rattle.nfa_onepass.specs.Ways.{HasOnlyEnds, IsDead, IsOnWay, IsReachedFrom, IsShut, IsSure, free_states, write_each, written}
use Rattle.nfa_onepass.specs.declared.table.Cell.{Cell}
use Rattle.nfa_onepass.specs.declared.table.OnePass.{OnePass}
use Rattle.nfa_onepass.specs.declared.table.Row.{Row}
use Rattle.nfa_onepass.specs.declared.way.WayEnd.{WayEnd}
use Rattle.nfa_onepass.specs.declared.way.Thread.{Thread}

-- threads at these states with this list
abbrev pub threads_at : ℕ → List ℕ → List Thread
threads_at list states = map (λ s. record { sid = s; list = list }) states

-- A thread gave way to threads at the states that its state leads to without a byte, with the list after it.
pub record GoesOn (nfa : Automaton) (looks : Bool) (lists new : List (Vec ℕ)) (stack pushed : List Thread) (t : Thread)
    : Type 0 where
  pub list : ℕ
  pub inside : list < length new
  pub after : list_at new list ≡ list_at lists t.list ++ written (node_at nfa t.sid)
  pub are : pushed ≡ stack ++ threads_at list (free_states looks (node_at nfa t.sid))

-- the state of a row
abbrev pub state_at : List Row → ℕ → Option ℕ
state_at rows row = option_map (λ (r : Row). r.state) (slice_get rows row)

-- rows were added after those that were there
abbrev pub KeepsRows : List Row → List Row → Type 0
KeepsRows old new = (row s : ℕ) → state_at old row ≡ Some s → state_at new row ≡ Some s

-- the byte of a column; none for that of the end
abbrev pub byte_of : ℕ → Option ℕ
byte_of column = if nat_lt column 256 then Some column else None

-- whether a step over the byte may pass an assertion, if steps of the table may; one at the end of the span may always
abbrev pub looks_over : Bool → Option ℕ → Bool
looks_over looks (Some b) = looks
looks_over looks None = true

-- The cell's step from the state over the column is sure: it leads to a row, or at the end of the span to a pattern. If
-- it passes no assertion, no way from the state leads to a Match.
pub record IsStep (nfa : Automaton) (rows : List Row) (lists : List (Vec ℕ)) (looks : Bool) (s column : ℕ)
    (cell : Cell) : Type 0 where
  pub goal : ℕ
  pub inside : cell.list < length lists
  pub sure : IsSure nfa (looks_over looks (byte_of column)) s (byte_of column) goal (list_at lists cell.list)
  pub shut : looks ≡ false → column < 256 → IsShut nfa s
  pub leads : column < 256 → state_at rows cell.goal ≡ Some goal
  pub ends : 256 ≤ column → cell.goal ≡ goal

-- What a cell says of the state and the column: a step that is sure, or that no way leads on, or neither.
pub record IsCell (nfa : Automaton) (rows : List Row) (lists : List (Vec ℕ)) (looks : Bool) (s column : ℕ)
    (cell : Cell) : Type 0 where
  pub step : cell.goal < 4294967293 → IsStep nfa rows lists looks s column cell
  pub dead : cell.goal ≡ 4294967293 → IsDead nfa (looks_over looks (byte_of column)) s (byte_of column)

-- The table is of the NFA: each row is of one of its states, and what each cell says is so. If its steps pass no
-- assertion, the only assertion of the NFA is that of the end of the haystack.
pub record IsFor (nfa : Automaton) (t : OnePass) : Type 0 where
  pub states : (row s : ℕ) → state_at t.rows.items row ≡ Some s → s < length nfa.states
  pub cells : (row column : ℕ) (r : Row) (cell : Cell) → slice_get t.rows.items row ≡ Some r
      → slice_get r.cells column ≡ Some cell
      → IsCell nfa t.rows.items t.lists.items.items t.setup.looks r.state column cell
  pub first : HasEmptyList t.lists.items.items
  pub fits : length t.rows.items ≤ t.most_rows
  pub few : t.most_rows ≤ 1024
  pub room : 2060 * t.most_rows + t.lists.most ≤ t.setup.limit
  pub ends : t.setup.looks ≡ false → HasOnlyEnds nfa

-- the bytes that its rows take, and the slots of its lists
abbrev pub memory_of : OnePass → ℕ
memory_of t = 2060 * length t.rows.items + t.lists.taken

-- the most bytes that they may take
abbrev pub limit_of : OnePass → ℕ
limit_of t = t.setup.limit

-- A walk is at this row at the position, with these slots: it is on the way from the start of the search. If its steps
-- pass no assertion, the start leads there.
pub record IsWalking (nfa : Automaton) (x : Search) (t : OnePass) (row at : ℕ) (slots : Slots) : Type 0 where
  pub first : ℕ
  pub begins : start_state nfa x.anchored ≡ Some first
  pub state : ℕ
  pub here : state_at t.rows.items row ≡ Some state
  pub on : IsOnWay nfa x (length slots) first (state, at) slots
  pub reached : t.setup.looks ≡ false → IsReachedFrom nfa x first (state, at)

-- The search for the only way ended there: the goal and the list are numbers that a table has room for.
pub record IsReached (nfa : Automaton) (lists : List (Vec ℕ)) (looks : Bool) (s : ℕ) (byte : Option ℕ) (it : WayEnd)
    : Type 0 where
  pub inside : it.list < length lists
  pub small : it.goal ≤ 2147483646
  pub sure : IsSure nfa looks s byte it.goal (list_at lists it.list)
  pub shut : looks ≡ false → (b : ℕ) → byte ≡ Some b → IsShut nfa s

-- A sure step over the byte led from the state to the next row, and wrote its slots at the position.
pub record Takes (nfa : Automaton) (new : OnePass) (from byte at : ℕ) (slots after : Slots) (next : ℕ) : Type 0 where
  pub to : ℕ
  pub written : List ℕ
  pub is : state_at new.rows.items next ≡ Some to
  pub sure : IsSure nfa new.setup.looks from (Some byte) to written
  pub shut : new.setup.looks ≡ false → IsShut nfa from
  pub writes : after ≡ write_each written at slots

-- the row is of the state and has no step
pub record IsFresh (r : Row) (s : ℕ) : Type 0 where
  pub state : r.state ≡ s
  pub unknown : (column : ℕ) (cell : Cell) → slice_get r.cells column ≡ Some cell → cell.goal ≡ 4294967295

-- the row was added, or there was no memory for it
abbrev pub IsAddedIf : List Row → Row → List Row → Type 0
IsAddedIf old r new = (new ≡ old) ⊎ (new ≡ old ++ r ∷ [])
