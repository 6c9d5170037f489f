-- The states of one pattern in an NFA: those of an NFA of `regex_nfa`, moved, and added after others.
use Rattle.std.specs.Prelude.{◌≡◌, ℕ, ◌+◌, ◌-◌, ◌*◌, ◌<◌, ◌≤◌, List, ◌++◌, length, map, All, if◌then◌else◌, nat_lt, slice_range, slice_index_or, ⊤}
use Rattle.regex_hir.specs.declared.look.Look as theirs
use Rattle.regex_hir.specs.declared.look.Look.TheVariants as their_look
use Rattle.regex_nfa.specs.States.{state_at}
use Rattle.regex_nfa.specs.declared.state.Transition as their_transition
use Rattle.regex_nfa.specs.declared.state.State as their_state
use Rattle.regex_nfa.specs.declared.state.State.TheVariants as their
use Rattle.regex_nfa.specs.declared.nfa.Nfa.{Nfa}
use Rattle.thompson_nfa.specs.declared.look.Look as ours
use Rattle.thompson_nfa.specs.declared.look.Look.TheVariants as our_look
use Rattle.thompson_nfa.specs.Automaton.Node.{Fail, Match}
use Rattle.nfa_paths.specs.Common.{number_of, Node, LeadsBelow, SlotBelow, PatternBelow, Transition, ByteRange, Sparse, Look, BinaryUnion, Capture}
use Rattle.nfa_compiler.specs.declared.block.Site.{Site}

-- the assertion of `thompson_nfa` for one of `regex_hir`
abbrev pub look_of : theirs.Look → ours.Look
look_of their_look.Start = our_look.Start
look_of their_look.End = our_look.End
look_of their_look.StartLf = our_look.StartLF
look_of their_look.EndLf = our_look.EndLF
look_of their_look.StartCrlf = our_look.StartCRLF
look_of their_look.EndCrlf = our_look.EndCRLF
look_of their_look.WordAscii = our_look.WordAscii
look_of their_look.WordAsciiNegate = our_look.WordAsciiNegate
look_of their_look.WordUnicode = our_look.WordUnicode
look_of their_look.WordUnicodeNegate = our_look.WordUnicodeNegate
look_of their_look.WordStartAscii = our_look.WordStartAscii
look_of their_look.WordEndAscii = our_look.WordEndAscii
look_of their_look.WordStartUnicode = our_look.WordStartUnicode
look_of their_look.WordEndUnicode = our_look.WordEndUnicode
look_of their_look.WordStartHalfAscii = our_look.WordStartHalfAscii
look_of their_look.WordEndHalfAscii = our_look.WordEndHalfAscii
look_of their_look.WordStartHalfUnicode = our_look.WordStartHalfUnicode
look_of their_look.WordEndHalfUnicode = our_look.WordEndHalfUnicode

-- the number of the pattern's Match, after the states that were moved
abbrev pub match_at : Site → ℕ
match_at s = s.base + s.size

-- the number of the pattern's slot
abbrev pub slot_in : Site → ℕ → ℕ
slot_in s slot = if nat_lt slot 2 then (2 * number_of s.pattern + slot) else (s.slots + (slot - 2))

-- the transition, moved
abbrev pub moved : Site → their_transition.Transition → Transition
moved s t = record { start = t.start; end = t.end; next = s.base + t.next }

-- the node for a state, with its targets moved; for their Match, ours writes the end first
abbrev pub node_for : List their_transition.Transition → Site → their_state.State → Node
node_for ts s (their.ByteRange t) = ByteRange (moved s t)
node_for ts s (their.Sparse from to) = Sparse (map (moved s) (slice_range ts from to))
node_for ts s (their.Split first second) = BinaryUnion (s.base + first) (s.base + second)
node_for ts s (their.Save slot next) = Capture (s.base + next) (slot_in s slot)
node_for ts s (their.Look l next) = Look (look_of l) (s.base + next)
node_for ts s their.Match = Capture (match_at s) (slot_in s 1)
node_for ts s their.Fail = Fail

-- the state's targets are states of the pattern, and its slot is one of an explicit group
abbrev pub LeadsInside : List their_transition.Transition → Site → their_state.State → Type 0
LeadsInside ts s (their.ByteRange t) = t.next < s.size
LeadsInside ts s (their.Sparse from to) = All (λ t. t.next < s.size) (slice_range ts from to)
LeadsInside ts s (their.Split first second) = (first < s.size) × (second < s.size)
LeadsInside ts s (their.Save slot next) = (2 ≤ slot) × (next < s.size)
LeadsInside ts s (their.Look l next) = next < s.size
LeadsInside ts s _ = ⊤

-- the node is that of the state, which leads only to states of the pattern
abbrev pub Stands : List their_transition.Transition → Site → their_state.State → Node → Type 0
Stands ts s state node = LeadsInside ts s state × (node ≡ node_for ts s state)

-- the states of the pattern: from `base` on the moved ones, then its Match, then its start, which writes slot 0
pub record IsBlock (nodes : List Node) (nfa : Nfa) (s : Site) : Type 0 where
  pub states : (q : ℕ) → q < s.size
      → Stands nfa.transitions.items s (state_at nfa.states.items q) (slice_index_or nodes (s.base + q) Fail)
  pub match : slice_index_or nodes (match_at s) Fail ≡ Match (number_of s.pattern)
  pub start : slice_index_or nodes (match_at s + 1) Fail ≡ Capture (s.base + nfa.start) (slot_in s 0)
  pub start_in : nfa.start < s.size
  pub within : match_at s + 1 < length nodes

-- the new states are the old ones, and some more after them
abbrev pub Adds : List Node → List Node → Type 0
Adds old new = (more : List Node) × (new ≡ old ++ more)

-- the node leads to states below n, and its slot and its pattern are below these numbers
abbrev pub IsInRange : ℕ → ℕ → ℕ → Node → Type 0
IsInRange n slots patterns node = LeadsBelow n node × SlotBelow slots node × PatternBelow patterns node

-- each of these nodes leads only to these nodes, and has a slot and a pattern below these numbers
abbrev pub AreInRange : ℕ → ℕ → List Node → Type 0
AreInRange slots patterns nodes = All (IsInRange (length nodes) slots patterns) nodes

-- the new ones are in range if the old ones are
abbrev pub KeepsInRange : List Node → List Node → Type 0
KeepsInRange old new = (slots patterns : ℕ) → AreInRange slots patterns old → AreInRange slots patterns new

-- the first `count` states of the NFA were added, moved
pub record HoldsStates (old new : List Node) (nfa : Nfa) (s : Site) (count : ℕ) : Type 0 where
  pub more : List Node
  pub kept : new ≡ old ++ more
  pub many : length more ≡ count
  pub stands : (q : ℕ) → q < count
      → Stands nfa.transitions.items s (state_at nfa.states.items q) (slice_index_or new (s.base + q) Fail)
