-- The meaning of a table of states, and when a table is sound.
use Rattle.std.specs.Prelude.{ℕ, ◌+◌, ◌≤◌, Bool, ◌&&◌, ◌||◌, nat_lt, nat_le, nat_eq, List, [], ◌∷◌, ◌++◌, map, length, All, Option, option_map}
use Rattle.std.specs.Borrow.{Bor}
use Rattle.std.specs.List.{list_all}
use Rattle.regex_search_core.specs.Groups.{slot_count}
use Rattle.thompson_nfa.specs.declared.state.Transition.{Transition}
use Rattle.thompson_nfa.specs.Automaton as nfa
use Rattle.thompson_nfa.specs.Automaton.{Node, Automaton}
use Rattle.nfa_samples.specs.declared.state_table.StateRow.{StateRow}
use Rattle.nfa_samples.specs.declared.state_table.StateRow.TheVariants.{Byte, Range, Ranges, Either, Union, Capture, Assert, Match}
use Rattle.nfa_samples.specs.declared.state_table.StateTable.{StateTable}

-- the transition to `next` on a byte from `start` to `end`
abbrev pub transition_in : ℕ → ℕ → ℕ → Transition
transition_in start end next = record { start = start; end = end; next = next }

-- the state of a row
abbrev pub node_in : StateRow → Node
node_in (Byte byte next) = nfa.ByteRange (transition_in byte byte next)
node_in (Range start end next) = nfa.ByteRange (transition_in start end next)
node_in (Ranges ranges next) = nfa.Sparse (map (λ r. transition_in r.0 r.1 next) ranges.now)
node_in (Either first second) = nfa.BinaryUnion first second
node_in (Union numbers) = nfa.Union numbers.now
node_in (Capture slot next) = nfa.Capture next slot
node_in (Assert look next) = nfa.Look look next
node_in (Match pattern) = nfa.Match pattern

-- each number of a state or a pattern in the row is one that a state or a pattern may have
abbrev pub IsSmall : StateRow → Type 0
IsSmall (Byte byte next) = next ≤ 2147483646
IsSmall (Range start end next) = next ≤ 2147483646
IsSmall (Ranges ranges next) = next ≤ 2147483646
IsSmall (Either first second) = (first ≤ 2147483646) × (second ≤ 2147483646)
IsSmall (Union numbers) = All (λ number. number ≤ 2147483646) numbers.now
IsSmall (Capture slot next) = next ≤ 2147483646
IsSmall (Assert look next) = next ≤ 2147483646
IsSmall (Match pattern) = pattern ≤ 2147483646

-- the row leads only to states, writes only a slot and matches only a pattern below these numbers
abbrev pub is_row : ℕ → ℕ → ℕ → StateRow → Bool
is_row states slots patterns (Byte byte next) = nat_lt next states
is_row states slots patterns (Range start end next) = nat_lt next states
is_row states slots patterns (Ranges ranges next) = nat_lt next states
is_row states slots patterns (Either first second) = nat_lt first states && nat_lt second states
is_row states slots patterns (Union numbers) = list_all (λ number. nat_lt number states) numbers.now
is_row states slots patterns (Capture slot next) = nat_lt next states && nat_lt slot slots
is_row states slots patterns (Assert look next) = nat_lt next states
is_row states slots patterns (Match pattern) = nat_lt pattern patterns

-- the names of a pattern's groups as bytes
abbrev pub names_in : List (Option (Bor (List ℕ))) → List (Option (List ℕ))
names_in names = map (option_map (λ name. name.now)) names

-- the names of all patterns' groups as bytes
abbrev pub groups_in : List (Bor (List (Option (Bor (List ℕ))))) → List (List (Option (List ℕ)))
groups_in patterns = map (λ names. names_in names.now) patterns

-- the table, with `more` states than it has rows, is that of an NFA
abbrev pub is_sound : ℕ → StateTable → Bool
is_sound more d =
    nat_lt 0 (length d.rows.now) && nat_le (length d.rows.now + more) 2147483647
    && list_all (is_row (length d.rows.now + more) (slot_count (groups_in d.groups.now)) (length d.starts.now))
    d.rows.now
    && list_all (λ start. nat_lt start (length d.rows.now + more)) d.starts.now
    && nat_le (length d.starts.now) 2147483647
    && (nat_eq (length d.groups.now) (length d.starts.now) || nat_eq (length d.groups.now) 0)
    && nat_le (slot_count (groups_in d.groups.now)) 2147483646

-- the NFA of the table with these states
abbrev pub automaton_in : List Node → ℕ → StateTable → Automaton
automaton_in states unanchored d = record {
  states = states;
  anchored = 0;
  unanchored = unanchored;
  patterns = d.starts.now;
  groups = groups_in d.groups.now;
  has_empty = d.has_empty;
  utf8 = d.utf8;
}

-- two states, with this number and the next, that skip bytes before state 0
abbrev pub prefix_at : ℕ → List Node
prefix_at prefix = nfa.BinaryUnion 0 (prefix + 1) ∷ nfa.ByteRange (transition_in 0 255 prefix) ∷ []

-- the NFA of the table whose matches may start anywhere
abbrev pub prefixed_nfa : StateTable → Automaton
prefixed_nfa d =
    automaton_in (map node_in d.rows.now ++ prefix_at (length d.rows.now)) (length d.rows.now) d
