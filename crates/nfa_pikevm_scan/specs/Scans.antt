-- The sizes of the parts of a cache, and the results of the scans of a PikeVM, in terms of the theory of paths.
use Rattle.std.specs.Prelude.{◌≡◌, ◌⊎◌, ℕ, ◌++◌, ◌+◌, ◌-◌, ◌*◌, ◌^◌, ◌<◌, ◌≤◌, Bool, List, [], ◌∷◌, Option, None, Some, length, replicate, nat_lt, if◌then◌else◌, All}
use Rattle.nfa_paths.specs.Common.{half_found_of, Search, HalfMatch, Automaton, LeadsBelow, Pair, node_at, pattern_of, is_match, starts, pairs_from, total_degree, slot_count, Slots, Hit, Task, seeds, Load}
pub use Rattle.nfa_paths.specs.Restarts.{max_scan_turns}
use Rattle.nfa_scan_core.specs.FirstBytes.{IsRefused}
use Rattle.nfa_pikevm_scan.specs.Needs.{stack_frames}
use Rattle.nfa_pikevm_scan.specs.declared.scan.Starts.{Starts}
use Rattle.nfa_pikevm_scan.specs.declared.threads.Threads.{Threads}
use Rattle.nfa_pikevm_scan.specs.declared.sizes.Size.{Size}
use Rattle.nfa_pikevm_scan.specs.States.{between, tasks, unmarked, Moment, SearchingAt}

-- a row with no slot set
abbrev pub blank : ℕ → Slots
blank width = replicate width None

-- the starts from a position on, below the limit, each with the slots to load after it
abbrev pub starts_from : ℕ → ℕ → ℕ → ℕ → List Task
starts_from width start at limit = seeds (blank width) (pairs_from start at (limit - at))

-- the number of states with a mark; the room of each of the two sets, in states and in cells of rows; and the frames
pub record Sizes : Type 0 where
  pub states : ℕ
  pub capacity : ℕ
  pub cells : ℕ
  pub frames : ℕ

-- the sizes of the threads, whose two sets have equal sizes
abbrev pub sizes_of : Threads → Sizes
sizes_of t = record {
  states = length t.reached.seen.bits;
  capacity = t.curr.capacity;
  cells = t.curr.cells;
  frames = length t.frames.items;
}

-- There is room for all states of the NFA, and for one more start, with rows of this width.
pub record IsLargeEnough (nfa : Automaton) (width : ℕ) (size : Sizes) : Type 0 where
  pub marks : length nfa.states ≤ size.states
  pub capacity : length nfa.states < size.capacity
  pub cells : size.capacity * width ≤ size.cells
  pub stack : stack_frames nfa ≤ size.frames

-- the threads have room for a search of the NFA, with rows of this width
abbrev pub HaveRoom : Automaton → ℕ → Threads → Type 0
HaveRoom nfa width t = IsLargeEnough nfa width (sizes_of t)

-- and their rows have this width
pub record HaveRows (nfa : Automaton) (width : ℕ) (t : Threads) : Type 0 where
  pub room : HaveRoom nfa width t
  pub width_is : t.curr.width ≡ width

-- the sizes of the threads did not change
abbrev pub SameSizes : Threads → Threads → Type 0
SameSizes old new = sizes_of new ≡ sizes_of old

-- the sizes for these numbers of states, slots and frames: one place more than states, and a row of all slots for each
abbrev pub sizes_for : ℕ → ℕ → ℕ → Sizes
sizes_for states slots frames =
    record { states = states; capacity = states + 1; cells = (states + 1) * slots; frames = frames }

-- The threads of a cache have the sizes for its states and frames, and for this number of slots, and these sizes fit a
-- `usize`. `found` is the length of the row that a search fills.
pub record IsRoomFor (slots : ℕ) (t : Threads) (found : ℕ) : Type 0 where
  pub sized : sizes_of t ≡ sizes_for (length t.reached.seen.bits) slots (length t.frames.items)
  pub row : found ≡ slots
  pub capacity : t.curr.capacity < 2 ^ 64
  pub cells : t.curr.cells < 2 ^ 64

-- The size has one place more than states, and a row of all slots for each place.
pub record IsSize (size : Size) : Type 0 where
  pub capacity : size.capacity ≡ size.states + 1
  pub cells : size.cells ≡ size.capacity * size.slots

-- The threads, and a row of `found` slots, are at least this large.
pub record Holds (size : Size) (t : Threads) (found : ℕ) : Type 0 where
  pub states : size.states ≤ length t.reached.seen.bits
  pub capacity : size.capacity ≤ t.curr.capacity
  pub cells : size.cells ≤ t.curr.cells
  pub frames : size.frames ≤ length t.frames.items
  pub slots : size.slots ≤ found

-- This is what a search of the NFA needs.
pub record IsSizeOf (nfa : Automaton) (size : Size) : Type 0 where
  pub states : size.states ≡ length nfa.states
  pub slots : size.slots ≡ slot_count nfa.groups
  pub frames : size.frames ≡ stack_frames nfa
  pub is_size : IsSize size

-- The sizes do not fit a `usize`: the places of a set, the cells of its rows or the frames of the stack are too many.
abbrev pub IsTooLarge : Automaton → Type 0
IsTooLarge nfa =
    (2 ^ 64 ≤ length nfa.states + 1) ⊎ ((2 ^ 64 ≤ (length nfa.states + 1) * slot_count nfa.groups)
    ⊎ (2 ^ 64 ≤ stack_frames nfa))

-- The sizes, the width of rows and the count of scans did not change.
pub record KeepsThreads (old new : Threads) : Type 0 where
  pub width : new.curr.width ≡ old.curr.width
  pub sizes : SameSizes old new
  pub scans : new.scans ≡ old.scans

-- The threads may cross the position: it is in the span or at its end, each of their states is one of the NFA, there
-- is room for rows of this width, and no state is kept for the next position yet.
pub record MayCross (nfa : Automaton) (x : Search) (at width : ℕ) (t : Threads) : Type 0 where
  pub place : at ≤ x.end
  pub states : All (λ i. i.0 < length nfa.states) t.curr.items
  pub room : HaveRows nfa width t
  pub empty : t.reached.next.items ≡ []

-- the starts of the scan, and those that may be skipped; and each state leads to states of the NFA
pub record AreStarts (nfa : Automaton) (x : Search) (starts_at : Starts) : Type 0 where
  pub state : starts_at.state < length nfa.states
  pub leads : All (LeadsBelow (length nfa.states)) nfa.states
  pub all : starts nfa x ≡ pairs_from starts_at.state x.start (starts_at.limit - x.start)
  pub low : x.start ≤ starts_at.limit
  pub high : starts_at.limit ≤ x.end + 1
  pub stop : starts_at.stop ≤ x.end
  pub before : starts_at.stop < starts_at.limit
  pub skips : x.start < starts_at.stop → starts_at.state ≡ nfa.anchored

-- A scan may begin: the starts are its own, the span does not start after its end, no slot is set, there is room for
-- rows of as many slots, and there are no states.
pub record MayScan (nfa : Automaton) (x : Search) (starts_at : Starts) (slots : Slots) (t : Threads) : Type 0 where
  pub starts : AreStarts nfa x starts_at
  pub span : x.start ≤ x.end
  pub unset : slots ≡ blank (length slots)
  pub room : HaveRows nfa (length slots) t
  pub curr : t.curr.items ≡ []
  pub next : t.reached.next.items ≡ []

-- what the threads hold between two positions, with these slots
abbrev pub held : Threads → Slots → Moment
held t slots = between t.reached.seen t.curr.items slots

-- the states at a position with the start after them, if it may still join
abbrev pub with_start : Starts → ℕ → ℕ → List (ℕ × Slots) → List (ℕ × Slots)
with_start starts_at width at items = if nat_lt at starts_at.limit then items ++ (starts_at.state, blank width)
    ∷ [] else items

-- The start has joined the states of the threads, if it may still join. Nothing else changed.
pub record JoinsStart (starts_at : Starts) (at : ℕ) (old new : Threads) : Type 0 where
  pub curr : new.curr.items ≡ with_start starts_at old.curr.width at old.curr.items
  pub next : new.reached.next.items ≡ old.reached.next.items
  pub keeps : KeepsThreads old new
  pub seen : new.reached.seen ≡ old.reached.seen

-- the position may be skipped: no match begins with its byte
abbrev pub IsPassed : List Bool → Search → Starts → ℕ → Type 0
IsPassed table x starts_at k = (k < starts_at.stop) × IsRefused table x k

-- The first position from `from` on that may not be skipped for its byte, or `stop`.
pub record PassesOver (table : List Bool) (x : Search) (from stop to : ℕ) : Type 0 where
  pub low : from ≤ to
  pub near : from ≤ stop → to ≤ stop
  pub stays : stop ≤ from → to ≡ from
  pub passed : (k : ℕ) → from ≤ k → k < to → IsRefused table x k
  pub least : to < stop → IsRefused table x to → ⊥

-- The position that a scan goes on at: the start has joined the states there, or no match begins there. A start that
-- may be skipped does not join.
pub record AddsStart (table : List Bool) (x : Search) (starts_at : Starts) (limit width at : ℕ)
    (items : List (ℕ × Slots)) (to : ℕ) (now : List (ℕ × Slots)) : Type 0 where
  pub ahead : at ≤ to
  pub within : at ≤ x.end → to ≤ x.end
  pub stays : 0 < length items → to ≡ at
  pub passed : (k : ℕ) → at ≤ k → k < to → IsPassed table x starts_at k
  pub passes : IsPassed table x starts_at to → now ≡ items
  pub last : ((to < limit) × (now ≡ items ++ (starts_at.state, blank width) ∷ []))
      ⊎ ((now ≡ items) × ((limit ≤ to) ⊎ IsPassed table x starts_at to))

module _ (nfa : Automaton) (x : Search) where
  -- the match that was found so far, and its end: none, and no slot set; or one, and its slots
  abbrev pub IsSoFar : Option HalfMatch → Slots → Hit → Type 0
  IsSoFar None slots g = (g ≡ None) × (slots ≡ blank (length slots))
  IsSoFar (Some half) slots g = (state : ℕ) × (g ≡ Some ((state, (half_found_of half).offset), slots))
      × (pattern_of (node_at nfa state) ≡ Some (half_found_of half).pattern)

  -- no more turns were taken than a scan takes
  abbrev pub IsWithinTurns : Threads → Threads → Type 0
  IsWithinTurns old new = new.reached.seen.turns ≤ old.reached.seen.turns + max_scan_turns nfa x

  -- The states at a position: each is a state of the NFA, there are no more than the NFA has, and none after the end of
  -- the span. The starts and the positions before it pay for them and for the turns so far.
  pub record AreAt (at before turns : ℕ) (items : List (ℕ × Slots)) : Type 0 where
    pub states : All (λ i. i.0 < length nfa.states) items
    pub few : length items ≤ length nfa.states
    pub over : x.end < at → items ≡ []
    pub paid : turns + length items ≤ before + (at - x.start) * (1 + total_degree nfa)

  -- The search for a set of match pairs, at a position where it has followed no state yet. The states that are kept
  -- are left, and the starts from `next` on.
  abbrev pub SearchingFrom : (Pair → Bool) → ℕ → ℕ → ℕ → ℕ → ℕ → Hit → Moment → Type 0
  SearchingFrom target at width start next limit so_far now =
      SearchingAt nfa x at target (starts nfa x) (blank width) so_far (unmarked now.met) []
      (tasks at now.kept (Load (blank width) ∷ starts_from width start next limit)) (blank width)

  -- The search for the first path, at a position where it has followed no state yet.
  pub record SearchesFirst (at width start limit : ℕ) (found : Option HalfMatch) (now : Moment) : Type 0 where
    pub so_far : Hit
    pub is_so_far : IsSoFar found now.slots so_far
    pub searching : SearchingFrom (is_match nfa) at width start at limit so_far now

  -- The scan for the first path, which began with the threads `old`, at a position where it has followed no state yet.
  -- The starts up to their own limit are left, or none is.
  pub record ScansFirst (from : Starts) (limit at width : ℕ) (found : Option HalfMatch) (slots : Slots)
      (old now : Threads) : Type 0 where
    pub limits : (limit ≡ from.limit) ⊎ (limit ≡ 0)
    pub low : x.start ≤ at
    pub high : at ≤ x.end + 1
    pub keeps : KeepsThreads old now
    pub next : now.reached.next.items ≡ []
    pub states : AreAt at old.reached.seen.turns now.reached.seen.turns now.curr.items
    pub searches : SearchesFirst at width from.state limit found (held now slots)
