-- The walk of a backtracker in the words of its proof: its stack as work that is left, its marks as pairs that were
-- seen.
use Rattle.std.specs.Prelude.{◌≡◌, ◌↔◌, ℕ, ◌+◌, ◌-◌, ◌*◌, ◌^◌, ◌<◌, ◌≤◌, ⊤, Bool, true, false, List, [], ◌∷◌, ◌++◌, Option, None, is_some, option_and_then, Some, length, map, replicate, sum, All, IfSome, slice_get, slice_index_or, slice_set}
use Rattle.thompson_nfa.specs.declared.state.State.{State}
use Rattle.nfa_paths.specs.Common.{sum_by, AreUnset, Search, number_of, half_found_of, HalfFound, HalfMatch, Automaton, IsAutomaton, LeadsBelow, Node, node_of, Pair, Path, In, edges, pairs_from, span_len, degree, reads_byte, node_at, pattern_of, is_match, byte_at, target_on, space, Slots, Hit, Task, ExploresTo, ByteRange, BinaryUnion, Transition, Explore as ToExplore, Restore as ToRestore, marked_sum, repeated, half_at}
use Rattle.nfa_scan_core.specs.FirstBytes.{IsFirstBytes}
use Rattle.nfa_scan_core.specs.Marks.{Marks}
use Rattle.nfa_backtrack.specs.declared.frame.StatePos.{StatePos}
use Rattle.nfa_backtrack.specs.declared.frame.Frame.{Frame}
use Rattle.nfa_backtrack.specs.declared.frame.Frame.TheVariants.{Step, Restore, Clear}
use Rattle.nfa_backtrack.specs.declared.scratch.Scratch.{Scratch}
use Rattle.nfa_backtrack.specs.declared.walk.Move.{Move}
use Rattle.nfa_backtrack.specs.declared.walk.Move.TheVariants.{On, DeadEnd, Matched}
use Rattle.nfa_backtrack.specs.declared.walk.Outcome.{Outcome}
use Rattle.nfa_backtrack.specs.declared.walk.Outcome.TheVariants.{On, Matched, Failed}

-- where a walk is: the frames that are left, the marks and the slots
pub record Walk : Type 0 where
  pub stack : List Frame
  pub marks : Marks
  pub slots : Slots

-- a walk that uses this scratch memory and these slots
abbrev pub walk_of : Scratch → Slots → Walk
walk_of scratch slots = record { stack = scratch.stack.items; marks = scratch.visited; slots = slots }

-- the state and position of a place
abbrev pub pair_of : StatePos → Pair
pair_of place = (place.sid, place.at)

-- the work that a frame leaves
abbrev pub work_item : Frame → Task
work_item (Step sid at row) = ToExplore (sid, at)
work_item (Restore slot offset) = ToRestore slot (Some offset)
work_item (Clear slot) = ToRestore slot None

-- the frame that restores the old value of the slot
abbrev pub restoring : ℕ → Option ℕ → Frame
restoring slot None = Clear slot
restoring slot (Some offset) = Restore slot offset

-- the turns that a frame still has to take
abbrev pub frame_tries : Frame → ℕ
frame_tries (Step sid at row) = 1
frame_tries frame = 0

-- if a frame writes a slot, its number is below `count`
abbrev pub WritesSlot : ℕ → Frame → Type 0
WritesSlot count (Step sid at row) = ⊤
WritesSlot count (Restore slot offset) = slot < count
WritesSlot count (Clear slot) = slot < count

-- the frames of a stack, the top first, above some work
abbrev pub stacked : List Frame → List Task → List Task
stacked [] work = work
stacked (f ∷ fs) work = stacked fs (work_item f ∷ work)

-- the result of applying a frame: a place to search from, or a slot that has its old value again
abbrev pub AppliesFrame : Frame → Slots → Option StatePos → Slots → Type 0
AppliesFrame (Step sid at row) slots place after = (place ≡ Some (record { sid = sid; at = at; row = row }))
    × (after ≡ slots)
AppliesFrame (Restore slot offset) slots place after = (place ≡ None) × (after ≡ slice_set slots slot (Some offset))
AppliesFrame (Clear slot) slots place after = (place ≡ None) × (after ≡ slice_set slots slot None)

-- a place to search from, if there is one, as work
abbrev pub tasks_of : Option StatePos → List Task
tasks_of None = []
tasks_of (Some place) = ToExplore (pair_of place) ∷ []

-- starts of this state at `count` positions as work
abbrev pub start_tasks : ℕ → ℕ → ℕ → List Task
start_tasks state at count = map ToExplore (pairs_from state at count)

-- The pair's state reads a byte, and the target is where the byte at the position leads, if it leads anywhere.
pub record IsByteStep (nfa : Automaton) (x : Search) (v : Pair) (target : Option ℕ) : Type 0 where
  pub node : Node
  pub is : slice_get nfa.states v.0 ≡ Some node
  pub reads : reads_byte node ≡ true
  pub below : LeadsBelow (length nfa.states) node
  pub leads : target ≡ option_and_then (target_on node) (byte_at x v.1)

-- A loop over one byte: the transition leads from the state `body` to a union that prefers `body` to `exit`.
pub record IsByteLoop (nfa : Automaton) (body exit : ℕ) (trans : Transition) : Type 0 where
  pub over : slice_get nfa.states body ≡ Some (ByteRange trans)
  pub back : slice_get nfa.states trans.next ≡ Some (BinaryUnion body exit)
  pub onto : trans.next < length nfa.states
  pub into : body < length nfa.states
  pub out : exit < length nfa.states

-- the byte at the position leads over the transition
abbrev pub loops_on_byte : Transition → Search → ℕ → Bool
loops_on_byte trans x at = is_some (option_and_then (target_on (ByteRange trans)) (byte_at x at))

-- The byte at the position and the one after it both lead over the transition of a loop.
pub record LoopsTwice (nfa : Automaton) (x : Search) (at : ℕ) (body exit : ℕ) (trans : Transition) : Type 0 where
  pub loops : IsByteLoop nfa body exit trans
  pub once : loops_on_byte trans x at ≡ true
  pub twice : loops_on_byte trans x (at + 1) ≡ true

module _ (nfa : Automaton) (x : Search) where
  -- the place has a state of the NFA and a position of the span, and its row is the distance from the start times the
  -- number of states
  pub record IsStatePos (place : StatePos) : Type 0 where
    pub state : place.sid < length nfa.states
    pub from : x.start ≤ place.at
    pub to : place.at ≤ x.end
    pub row : place.row ≡ (place.at - x.start) * length nfa.states

  -- a frame's place is in the span, and its slot is below `count`
  abbrev pub IsFrame : ℕ → Frame → Type 0
  IsFrame count (Step sid at row) = IsStatePos (record { sid = sid; at = at; row = row })
  IsFrame count frame = WritesSlot count frame

  -- the bit of a pair: a row has a bit for each state, and there is a row for each position from the start on
  abbrev pub bit_of : Pair → ℕ
  bit_of v = (v.1 - x.start) * length nfa.states + v.0

  -- there is a bit for each pair of the span, and its number fits a `usize`
  pub record HasBits (bits : List Bool) : Type 0 where
    pub room : length nfa.states * (span_len x + 1) ≤ length bits
    pub fits : length nfa.states * (span_len x + 1) < 2 ^ 64

  -- the pair's bit is set
  pub record IsMarked (bits : List Bool) (v : Pair) : Type 0 where
    pub state : v.0 < length nfa.states
    pub from : x.start ≤ v.1
    pub set : slice_index_or bits (bit_of v) false ≡ true

  -- the list has exactly the pairs that are marked
  abbrev pub Agrees : List Bool → List Pair → Type 0
  Agrees bits seen = (v : Pair) → In v seen ↔ IsMarked bits v

  -- the degree of each pair's state
  unfoldable pub weights : List ℕ
  weights = repeated (span_len x + 1) (map degree nfa.states)

  -- the answer of the search from here on, with `left` turns left
  unfoldable pub WalkAnswer : ℕ → List Bool → List Task → Slots → Hit → Type 0
  WalkAnswer left bits work slots g =
      (seen : List Pair) → Agrees bits seen → ExploresTo (space nfa x) (is_match nfa) left None seen work slots g

  -- the turn at v marked it
  pub record Taken (v : Pair) (marks marked : Marks) : Type 0 where
    pub state : v.0 < length nfa.states
    pub from : x.start ≤ v.1
    pub to : v.1 ≤ x.end
    pub inside : bit_of v < length marks.bits
    pub clear : slice_index_or marks.bits (bit_of v) true ≡ false
    pub set : marked.bits ≡ slice_set marks.bits (bit_of v) true
    pub counted : marked.turns ≡ marks.turns + 1

  -- the turn at v found it already marked
  pub record WasMarked (v : Pair) (marks marked : Marks) : Type 0 where
    pub marked_before : IsMarked marks.bits v
    pub same : marked.bits ≡ marks.bits
    pub counted : marked.turns ≡ marks.turns + 1

  -- the frames are of this search
  abbrev pub HasFrames : Walk → Type 0
  HasFrames walk = All (IsFrame (length walk.slots)) walk.stack

  -- The marks pay for what the turns pushed, and for the turns beyond the first. `in_hand` is 1 if they go on at a
  -- place.
  pub record PaidFor (old new : Walk) (in_hand : ℕ) : Type 0 where
    pub within : HasFrames old → HasFrames new
    pub tried : new.marks.turns + sum_by frame_tries new.stack + in_hand + marked_sum weights old.marks.bits
        ≤ old.marks.turns + 1 + sum_by frame_tries old.stack + marked_sum weights new.marks.bits

  -- Turns that end because allocation failed: those beyond the first are no more than the frames and all weights allow.
  abbrev pub IsAfforded : List Frame → Marks → Marks → Type 0
  IsAfforded stack marks marked = marked.turns + marked_sum weights marks.bits
      ≤ marks.turns + 1 + sum_by frame_tries stack + sum weights

  -- The answer from the state after is the answer from the state before.
  pub record Carries (marks : Marks) (work : List Task) (slots : Slots) (after : Marks) (work_after : List Task)
      (slots_after : Slots) : Type 0 where
    pub grows : marks.turns ≤ after.turns
    pub back : (left more : ℕ) (g : Hit) → marks.turns + more ≡ after.turns + left
        → WalkAnswer left after.bits work_after slots_after g → WalkAnswer more marks.bits work slots g

  -- The answer is g.
  pub record Ends (marks : Marks) (work : List Task) (slots : Slots) (g : Hit) (turns : ℕ) : Type 0 where
    pub grows : marks.turns ≤ turns
    pub answer : (left : ℕ) → marks.turns + left ≡ turns → WalkAnswer left marks.bits work slots g

  -- The result of turns from v on that meet no match: the search goes on at the place or, if there is none, with the
  -- frames of the stack.
  pub record TurnsLead (v : Pair) (place : Option StatePos) (old new : Walk) : Type 0 where
    pub goes : IfSome place IsStatePos
    pub paid : PaidFor old new (length (tasks_of place))
    pub follows : (work : List Task) → Carries old.marks (ToExplore v ∷ stacked old.stack work) old.slots new.marks
        (tasks_of place ++ stacked new.stack work) new.slots

  -- the search of this work ends at a match: its state is one of the pattern, and its position is the end
  pub record EndsAt (half : HalfFound) (old : Walk) (work : List Task) (new : Walk) : Type 0 where
    pub state : ℕ
    pub matches : pattern_of (node_at nfa state) ≡ Some half.pattern
    pub ends : Ends old.marks work old.slots (Some ((state, half.offset), new.slots)) new.marks.turns

  -- the search from v ends at a match, and the marks pay for its turns
  abbrev pub Finds : Pair → HalfFound → Walk → Walk → Type 0
  Finds v half old new =
      PaidFor old new 0 × ((work : List Task) → EndsAt half old (ToExplore v ∷ stacked old.stack work) new)

  -- the result of a turn at v
  abbrev pub Goes : Pair → Move → Walk → Walk → Type 0
  Goes v (On place) old new = TurnsLead v (Some place) old new
  Goes v DeadEnd old new = TurnsLead v None old new
  Goes v (Matched pattern) old new = Finds v (half_at v.1 (number_of pattern)) old new

  -- the result of turns from v on and, if they lead nowhere, of the frames after them
  abbrev pub ComesTo : Pair → Outcome → Walk → Walk → Type 0
  ComesTo v (On place) old new = TurnsLead v (Some place) old new
  ComesTo v (Matched half) old new = Finds v (half_found_of half) old new
  ComesTo v Failed old new = (new.stack ≡ []) × TurnsLead v None old new

  -- A walk from v goes on at the place, and the marks pay for the tries. The slot that was written, if any, is restored
  -- before other work, but need not be before later starts of v's state.
  pub record BeginsAt (v : Pair) (place : StatePos) (old new : Walk) : Type 0 where
    pub is_place : IsStatePos place
    pub restores : List Task
    pub follows : (work : List Task)
        → Carries old.marks (ToExplore v ∷ work) old.slots new.marks (ToExplore (pair_of place) ∷ restores ++ work)
        new.slots
    pub needless : (marks : Marks) (slots : Slots) (at count : ℕ)
        → Carries marks (restores ++ start_tasks v.0 at count) slots marks (start_tasks v.0 at count) slots
    pub spent : new.marks.turns + marked_sum weights old.marks.bits
        ≤ old.marks.turns + marked_sum weights new.marks.bits

  -- Nothing was found at v, and the marks pay for the tries. The slots are as later starts of this state may find them:
  -- each writes what the first turn at v wrote.
  pub record StartFails (v : Pair) (old new : Walk) : Type 0 where
    pub empty : new.stack ≡ []
    pub follows : (at count : ℕ) → Carries old.marks (ToExplore v ∷ start_tasks v.0 at count) old.slots new.marks
        (start_tasks v.0 at count) new.slots
    pub spent : new.marks.turns + marked_sum weights old.marks.bits
        ≤ old.marks.turns + 1 + marked_sum weights new.marks.bits

  -- the result of the first turn, if one was taken
  abbrev pub Begins : Pair → Option StatePos → Walk → Walk → Type 0
  Begins v None old new = StartFails v old new
  Begins v (Some place) old new = BeginsAt v place old new

  -- the result of a walk from a start v
  abbrev pub StartGives : Pair → Option HalfMatch → Walk → Walk → Type 0
  StartGives v None old new = StartFails v old new
  StartGives v (Some half) old new = (work : List Task) → EndsAt (half_found_of half) old (ToExplore v ∷ work) new

  -- no path leads from the pair to a match
  abbrev pub IsDeadEnd : Pair → Type 0
  IsDeadEnd v = (p : List Pair) → Path (edges nfa x) (is_match nfa) v p → ⊥

  -- The answer with the second work is one with the first.
  abbrev pub HasAnswersOf : List Task → List Task → Type 0
  HasAnswersOf work shorter =
      (left : ℕ) (pairs : List Pair) (slots : Slots) (g : Hit)
      → ExploresTo (space nfa x) (is_match nfa) left None pairs shorter slots g
      → ExploresTo (space nfa x) (is_match nfa) left None pairs work slots g

  -- Frames were pushed for the alternatives at the place, the earliest on top, but for some that lead nowhere.
  pub record PushesLive (place : StatePos) (alternates : List ℕ) (stack after : List Frame) : Type 0 where
    pub within : (count : ℕ) → All (IsFrame count) stack → All (IsFrame count) after
    pub tried : sum_by frame_tries after ≤ sum_by frame_tries stack + length alternates
    pub follows : (work : List Task)
        → HasAnswersOf (map ToExplore (map (λ s. (s, place.at)) alternates) ++ stacked stack work) (stacked after work)

-- Frames were applied, down to a place to search from or all of them: what is left of any search is the same.
pub record Resumes (stack : List Frame) (old : Slots) (place : Option StatePos) (left : List Frame) (new : Slots)
    : Type 0 where
  pub tried : sum_by frame_tries left + length (tasks_of place) ≡ sum_by frame_tries stack
  pub within : (nfa : Automaton) (x : Search) → All (IsFrame nfa x (length old)) stack
      → All (IsFrame nfa x (length new)) left × IfSome place (IsStatePos nfa x)
  pub follows : (nfa : Automaton) (x : Search) (marks : Marks) (work : List Task)
      → Carries nfa x marks (stacked stack work) old marks (tasks_of place ++ stacked left work) new

-- A loop over one byte may run: the place is that of its byte state, and there is room for the marks.
pub record MayLoop (nfa : Automaton) (x : Search) (body : StatePos) (exit : ℕ) (trans : Transition) (bits : List Bool)
    : Type 0 where
  pub state : IsByteLoop nfa body.sid exit trans
  pub is_place : IsStatePos nfa x body
  pub room : HasBits nfa x bits

-- A walk may go on from the place: there is room for the marks, and no frame waits.
pub record MayWalk (nfa : Automaton) (x : Search) (place : StatePos) (walk : Walk) : Type 0 where
  pub is_place : IsStatePos nfa x place
  pub room : HasBits nfa x walk.marks.bits
  pub empty : walk.stack ≡ []

-- The starts of a search may be tried: the table of first bytes is that of the NFA, no pair is marked, no frame waits
-- and no slot is set.
pub record MayTryStarts (nfa : Automaton) (table : List Bool) (x : Search) (walk : Walk) : Type 0 where
  pub first : IsFirstBytes nfa table
  pub room : HasBits nfa x walk.marks.bits
  pub clear : walk.marks.bits ≡ replicate (length walk.marks.bits) false
  pub empty : walk.stack ≡ []
  pub unset : AreUnset walk.slots

-- A turn may be taken at the place: the states are those of the NFA, and the frames are of this search.
pub record MayStep (nfa : Automaton) (states : List State) (x : Search) (place : StatePos) (walk : Walk) : Type 0 where
  pub states_are : map node_of states ≡ nfa.states
  pub valid : IsAutomaton nfa
  pub is_place : IsStatePos nfa x place
  pub room : HasBits nfa x walk.marks.bits
  pub within : HasFrames nfa x walk
