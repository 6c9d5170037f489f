-- What a PikeVM keeps at a position, as its proof sees it: marks as pairs that were seen, a stack as work that is left.
use Rattle.std.specs.Prelude.{◌≡◌, ◌⊎◌, ℕ, ◌+◌, ◌<◌, ◌≤◌, Bool, true, false, List, [], ◌∷◌, ◌++◌, Option, None, Some, cond, length, map, replicate, All, slice_get, slice_index_or, slice_set, flat_map}
use Rattle.nfa_paths.specs.Common.{sum_by, option_to_list, Search, search_of, number_of, PatternID, Automaton, Node, Pair, NoRepeats, degree, node_at, pattern_at, edges, is_match, byte_at, space, Slots, Hit, Task, ExploresTo, Searching, rests, first_match, before_match, last_match, NoMatch, Explore as ToExplore, Restore as ToRestore, Load as ToLoad, marked_sum}
use Rattle.nfa_scan_core.specs.Marks.{Marks, SeenAt}
use Rattle.nfa_pikevm_scan.specs.Needs.{room_of, stack_frames}
use Rattle.nfa_pikevm_scan.specs.declared.closure.ClosureContext.{ClosureContext}
use Rattle.nfa_pikevm_scan.specs.declared.closure.Move.{Move}
use Rattle.nfa_pikevm_scan.specs.declared.closure.Move.TheVariants.{On, Matched}
use Rattle.nfa_pikevm_scan.specs.declared.closure.ClosureOutput.{ClosureOutput}
use Rattle.nfa_pikevm_scan.specs.declared.frame.FollowEpsilon.{FollowEpsilon}
use Rattle.nfa_pikevm_scan.specs.declared.frame.FollowEpsilon.TheVariants.{Explore, Restore}

-- The resting pairs that were reached at a position, in order, each with its slots. If a byte leads on from a pair,
-- only the state that it leads to is kept in memory. Matches and pairs that lead nowhere are not kept.
abbrev pub Frontier : Type 0
Frontier = List (Pair × Slots)

-- the states that a front leads on to, each with its slots
abbrev pub moves : (Pair → List Pair) → Frontier → List (ℕ × Slots)
moves edges front = flat_map (λ a. map (λ v. (v.0, a.1)) (edges a.0)) front

-- the states to follow at the position, each with its slots, on top of what is left
abbrev pub tasks : ℕ → List (ℕ × Slots) → List Task → List Task
tasks at [] waiting = waiting
tasks at (i ∷ items) waiting = ToLoad i.1 ∷ ToExplore (i.0, at) ∷ tasks at items waiting

-- the same number of marks, with none set
abbrev pub unmarked : Marks → Marks
unmarked met = record met { bits = replicate (length met.bits) false }

-- what is held at a moment: the marks, the states that are kept, each with its row, the stack and the slots
pub record Moment : Type 0 where
  pub met : Marks
  pub kept : List (ℕ × Slots)
  pub stack : List FollowEpsilon
  pub slots : Slots

-- what is held while a position is followed, with this stack and these slots
abbrev pub moment_of : ClosureOutput → List FollowEpsilon → Slots → Moment
moment_of reached stack slots = record { met = reached.seen; kept = reached.next.items; stack = stack; slots = slots }

-- what is held with no frame: before a state is followed, and between two positions
abbrev pub between : Marks → List (ℕ × Slots) → Slots → Moment
between met kept slots = record { met = met; kept = kept; stack = []; slots = slots }

-- the work that a frame leaves at the position
abbrev pub work_item_of : ℕ → FollowEpsilon → Task
work_item_of at (Explore sid) = ToExplore (sid, at)
work_item_of at (Restore slot old) = ToRestore slot old

-- the frames of a stack, the top first, above some work
abbrev pub work_onto : ℕ → List FollowEpsilon → List Task → List Task
work_onto at [] work = work
work_onto at (f ∷ fs) work = work_onto at fs (work_item_of at f ∷ work)

-- the work with a state to follow at the position, if there is one
abbrev pub with_state : ℕ → Option ℕ → List Task → List Task
with_state at None work = work
with_state at (Some s) work = ToExplore (s, at) ∷ work

-- the state that a turn leads on to
abbrev pub state_on : Move → Option ℕ
state_on (On sid) = Some sid
state_on _ = None

-- the slots after a frame is applied
abbrev pub undone : FollowEpsilon → Slots → Slots
undone (Explore sid) slots = slots
undone (Restore slot old) slots = slice_set slots slot old

-- the state that a frame gives to follow
abbrev pub state_of : FollowEpsilon → Option ℕ
state_of (Explore sid) = Some sid
state_of (Restore slot old) = None

-- the turns that a frame still has to take
abbrev pub tries : FollowEpsilon → ℕ
tries f = length (option_to_list (state_of f))

-- a frame follows a state below `states`, or writes a slot below `count`
abbrev pub IsWithin : ℕ → ℕ → FollowEpsilon → Type 0
IsWithin states count (Explore sid) = sid < states
IsWithin states count (Restore slot old) = slot < count

-- if a frame writes a slot, its number is below `count`
abbrev pub HasSlot : ℕ → FollowEpsilon → Type 0
HasSlot count (Explore sid) = Unit {0}
HasSlot count (Restore slot old) = slot < count

-- The turn found its state marked.
pub record WasSeen (s : ℕ) (met after : Marks) : Type 0 where
  pub seen : slice_index_or met.bits s false ≡ true
  pub same : after.bits ≡ met.bits
  pub counted : after.turns ≡ met.turns + 1

-- The turn marked the state of this number.
pub record Entered (nfa : Automaton) (s : ℕ) (node : Node) (met after : Marks) : Type 0 where
  pub is : slice_get nfa.states s ≡ Some node
  pub inside : s < length met.bits
  pub clear : slice_index_or met.bits s true ≡ false
  pub marked : after.bits ≡ slice_set met.bits s true
  pub counted : after.turns ≡ met.turns + 1

-- each pair of the set is a Match
abbrev pub AreMatchPairs : Automaton → (Pair → Bool) → Type 0
AreMatchPairs nfa target = (v : Pair) → target v ≡ true → is_match nfa v ≡ true

-- the weights of the marked states, added up
abbrev pub weight : Automaton → (Node → ℕ) → List Bool → ℕ
weight nfa weigh bits = marked_sum (map weigh nfa.states) bits

-- the match of a front that is meant: the first one, or the last with `past`
abbrev pub meant : Bool → (Pair → Bool) → Frontier → Hit
meant past is_match front = cond past (last_match is_match None front) (first_match is_match front)

-- the result of a position: no match, and the slots as before; or a match of the pattern, and its slots
abbrev pub IsHit : Automaton → Hit → Slots → Option PatternID → Slots → Type 0
IsHit nfa g before None after = (g ≡ None) × (after ≡ before)
IsHit nfa g before (Some pattern) after =
    (v : Pair) × (g ≡ Some (v, after)) × (pattern_at nfa v ≡ Some (number_of pattern))

-- the front ends with this match and has no other; or it has none
abbrev pub EndsInMatch : Automaton → ℕ → Slots → Option PatternID → Frontier → Type 0
EndsInMatch nfa at slots None front = NoMatch (is_match nfa) front
EndsInMatch nfa at slots (Some pattern) front = (before : Frontier) × (s : ℕ) × NoMatch (is_match nfa) before
    × (front ≡ before ++ ((s, at), slots) ∷ []) × (pattern_at nfa (s, at) ≡ Some (number_of pattern))

-- Each pair of the front has a state of the NFA and this position, rests, is marked, and occurs once.
pub record Formed (nfa : Automaton) (at : ℕ) (bits : List Bool) (front : Frontier) : Type 0 where
  pub here : All (λ a. a.0.1 ≡ at) front
  pub states : All (λ a. a.0.0 < length nfa.states) front
  pub resting : All (λ a. rests (node_at nfa a.0.0) ≡ true) front
  pub marked : All (λ a. slice_index_or bits a.0.0 false ≡ true) front
  pub once : NoRepeats (map (λ a. a.0) front)

-- There is a mark for each state, and room for the frames and the states that may still come. `top` frames of the stack
-- are used, and never more than the NFA needs.
pub record HasRoom (nfa : Automaton) (old : ClosureOutput) (top frames : ℕ) : Type 0 where
  pub marks : length nfa.states ≤ length old.seen.bits
  pub frames_fit : top + sum_by room_of nfa.states ≤ stack_frames nfa + weight nfa room_of old.seen.bits
  pub states_fit : length old.next.items + length nfa.states ≤ old.next.capacity + weight nfa (λ node. 1) old.seen.bits
  pub stack : stack_frames nfa ≤ frames

-- From a moment to a later one: marks pay for the turns and for what is left to take, for frames and for kept states.
pub record Paid (nfa : Automaton) (old : Moment) (hand : ℕ) (new : Moment) (left : ℕ) : Type 0 where
  pub tried : new.met.turns + left + sum_by tries new.stack + length new.kept + weight nfa degree old.met.bits
      ≤ old.met.turns + hand + sum_by tries old.stack + length old.kept + weight nfa degree new.met.bits
  pub framed : length new.stack + weight nfa room_of old.met.bits ≤ length old.stack + weight nfa room_of new.met.bits
  pub entered : length new.kept + weight nfa (λ node. 1) old.met.bits
      ≤ length old.kept + weight nfa (λ node. 1) new.met.bits

-- The position is in the span or at its end, and the byte is the one at the position.
pub record IsClosureContext (here : ClosureContext) : Type 0 where
  pub place : here.at ≤ (search_of here.input.now).end
  pub byte : here.byte ≡ byte_at (search_of here.input.now) here.at

-- The number of marks is the same, and only the states of what is kept for the next position change.
pub record KeepsRoom (old new : ClosureOutput) : Type 0 where
  pub size : length new.seen.bits ≡ length old.seen.bits
  pub same : new.next ≡ record old.next { items = new.next.items }

module _ (nfa : Automaton) (x : Search) where
  -- the search for a set of match pairs, from these starts and slots, with these states met and this front at `at`
  abbrev pub SearchingAt : ℕ → (Pair → Bool) → List Pair → Slots → Hit → Marks → Frontier → List Task → Slots → Type 0
  SearchingAt at target starts entry otherwise met front work slots =
      Searching (space nfa x) target
      (λ g total. ExploresTo (space nfa x) target total None [] (map ToExplore starts) entry g)
      (SeenAt at met.bits) met.turns front otherwise work slots

  -- The search for any set of match pairs goes on from the state after as from the state before.
  pub record Follows (at : ℕ) (met : Marks) (front : Frontier) (work : List Task) (slots : Slots)
      (after : Marks) (more : Frontier) (rest : List Task) (written : Slots) : Type 0 where
    pub leads : (target : Pair → Bool) → AreMatchPairs nfa target
        → (starts : List Pair) (entry : Slots) (otherwise : Hit)
        → SearchingAt at target starts entry otherwise met front work slots
        → SearchingAt at target starts entry otherwise after more rest written

  -- what a turn adds to the front: a match that it led to, and no other match
  abbrev pub IsMet : Pair → Slots → Move → Frontier → Type 0
  IsMet v slots (Matched pattern) front = (front ≡ (v, slots) ∷ []) × (pattern_at nfa v ≡ Some (number_of pattern))
  IsMet v slots _ front = NoMatch (is_match nfa) front

  -- The result of turns from a state on, which are paid for: a front, of which `Holds` says more and whose moves are in
  -- memory, a state to follow, or none, and a stack. What is left below the stack begins by loading slots.
  pub record TurnsGive (at s : ℕ) (old : Moment) (Holds : Frontier → Type 0) (state : Option ℕ) (new : Moment) : Type 0
    where
      pub front : Frontier
      pub holds : Holds front
      pub added : new.kept ≡ old.kept ++ moves (edges nfa x) front
      pub formed : (before : Frontier) → Formed nfa at old.met.bits before
          → Formed nfa at new.met.bits (before ++ front)
      pub follows : (before : Frontier) (below : Slots) (work : List Task)
          → Follows at old.met before (ToExplore (s, at) ∷ work_onto at old.stack (ToLoad below ∷ work)) old.slots
          new.met (before ++ front) (with_state at state (work_onto at new.stack (ToLoad below ∷ work))) new.slots
      pub paid : Paid nfa old 1 new (length (option_to_list state))

  -- the result of a turn that tries to enter the state
  abbrev pub VisitsState : ℕ → ℕ → Moment → Move → Moment → Type 0
  VisitsState at s old turn new = TurnsGive at s old (IsMet (s, at) new.slots turn) (state_on turn) new

  -- the result of turns from a state on up to the next match, if there is one: the front ends with the match
  abbrev pub FindsMatch : ℕ → ℕ → Moment → Option PatternID → Moment → Type 0
  FindsMatch at s old hit new = TurnsGive at s old (EndsInMatch nfa at new.slots hit) None new

  -- The search goes on to a front and some work. The work is `rest` if the search `goes_on` to the end of its work.
  pub record Leads (at : ℕ) (met : Marks) (before : Frontier) (work : List Task) (slots : Slots) (goes_on : Type 0)
      (after : Marks) (front : Frontier) (rest : List Task) : Type 0 where
    pub left : List Task
    pub written : Slots
    pub follows : Follows at met before work slots after front left written
    pub whole : goes_on → left ≡ rest

  -- The result of following the states that are kept for a position, with no marks before, but for those that are
  -- left: a front, whose moves are in memory. All else that is left is followed if the position `goes_on`.
  pub record StatesGive (at : ℕ) (old : Moment) (goes_on : Type 0) (left : List (ℕ × Slots)) (front : Frontier)
      (new : Moment) : Type 0 where
    pub added : new.kept ≡ moves (edges nfa x) front
    pub formed : Formed nfa at new.met.bits front
    pub paid : Paid nfa (between (unmarked old.met) [] []) (length old.kept) (between new.met new.kept []) (length left)
    pub leads : (current below : Slots) (waiting : List Task)
        → Leads at (unmarked old.met) [] (tasks at old.kept (ToLoad below ∷ waiting)) current goes_on new.met front
        (tasks at left (ToLoad below ∷ waiting))

  -- The same for all states of the position, with the match of the front that is meant. All that is left is followed
  -- with `past`, or if there is none; without `past` nothing after the first match is kept.
  pub record NextsGive (at : ℕ) (past : Bool) (old : Moment) (hit : Option PatternID) (new : Moment) : Type 0 where
    pub front : Frontier
    pub gives : StatesGive at old ((past ≡ true) ⊎ (hit ≡ None)) [] front new
    pub is_hit : IsHit nfa (meant past (is_match nfa) front) old.slots hit new.slots
    pub cut : past ≡ false → moves (edges nfa x) (before_match (is_match nfa) front) ≡ moves (edges nfa x) front

-- Frames were applied, down to a state to follow or all of them: what is left of any search is the same.
pub record Resumes (stack : List FollowEpsilon) (old : Slots) (state : Option ℕ) (left : List FollowEpsilon)
    (new : Slots) : Type 0 where
  pub fewer : length left ≤ length stack
  pub tried : sum_by tries left + length (option_to_list state) ≡ sum_by tries stack
  pub follows : (nfa : Automaton) (x : Search) (at : ℕ) (met : Marks) (front : Frontier) (work : List Task)
      → Follows nfa x at met front (work_onto at stack work) old met front
      (with_state at state (work_onto at left work)) new

-- The states may be followed at the position, with rows of this width: each is a state of the NFA, there is room for
-- what they lead to, no state is marked, and none is kept for the next position yet.
pub record MayFollow (here : ClosureContext) (states : List ℕ) (old : ClosureOutput) (frames width : ℕ) : Type 0 where
  pub context : IsClosureContext here
  pub below : All (λ s. s < length here.nfa.now.states) states
  pub room : HasRoom here.nfa.now old 0 frames
  pub clear : old.seen ≡ unmarked old.seen
  pub empty : old.next.items ≡ []
  pub width_is : width ≡ old.next.width
