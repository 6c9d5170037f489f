-- The result of a turn that enters a state, for each kind of state.
use Rattle.thompson_nfa.specs.Automaton.Node.{Match}
use Rattle.nfa_paths.proofs.MemberLemmas.{All-In}
use Rattle.nfa_paths.proofs.SearchingLemmas.{once-keep}
use Rattle.nfa_paths.proofs.StartLemmas.{epsilon-edges, epsilon-few, node_at-get}
use Rattle.nfa_paths.proofs.TurnLemmas.{marked_sum-le, marked_sum-set}
use Rattle.nfa_scan_core.proofs.TargetLemmas.{first-drop, target-degree}
use Rattle.nfa_pikevm_scan.proofs.ClosureLemmas.{Follows-keep, Follows-marked, Follows-plain, Follows-then, Follows-unkept, Follows-unrestored, Follows-write, Turns-bare, work_onto-push}
use Rattle.nfa_pikevm_scan.proofs.FrontierLemmas.{edges-move, moves-one, sum-ones}
use Rattle.nfa_pikevm_scan.specs.declared.frame.FollowEpsilon.TheVariants.{Explore as ToExplore, Restore}
use Rattle.nfa_pikevm_scan.proofs.Common.{All, All-head, All-push, All-tail, Automaton, Bool, Capture, ClosureOutput, DeadEnd, Entered, Explore, Fail, FollowEpsilon, Follows, Formed, Frontier, HasRoom, Holding, IsMet, IsWithin, List, Load, Marks, Matched, Moment, Move, Node, None, On, Option, Paid, Pair, PatternID, Search, Slots, Some, SomeIff, Task, TurnsGive, VisitsState, WasSeen, [], ap, append-nil, append_assoc, arith, byte_at, degree, drop, edges, edges_of, epsilon_states, false, get_or, get_or-set_other, get_or-set_same, get_or_default, get_or_from_slice_get, holding_at, inl, inr, length, length-append, length-drop, length-map, length-reverse, map, map_push, node_at, number_of, option_and_then, option_to_list, pattern_of, refl, rests, reverse, reverse_onto, room_of, set, slice_get, slice_get-map, slice_get_within, slot_of, stack_frames, state_on, sum-map, sum_by, sum_by_push, sym, take, target_on, tries, true, unmarked, weight, with_state, work_onto, ℕ, ◌++◌, ◌+◌, ◌<◌, ◌∙◌, ◌∷◌, ◌≡◌, ◌≤◌, ◌⊎◌}

module _ {nfa : Automaton} {s : ℕ} {node : Node} {m n : Marks} (e : Entered nfa s node m n) where
  -- the state's weight is added
  weight-entered : (w : Node → ℕ) → weight nfa w n.bits ≡ weight nfa w m.bits + w node
  weight-entered w =
      let one : get_or (map w nfa.states) s 0 ≡ w node =
      get_or_from_slice_get (map w nfa.states) s (w node) 0 (rw (slice_get-map w nfa.states s, e.is) refl) in
      rw e.marked (marked_sum-set (map w nfa.states) m.bits s e.clear
      ∙ ap (λ k. weight nfa w m.bits + k) one)

  -- what it pushes and keeps is paid for
  Paid-entered : (a b : Moment) (in_hand : ℕ)
      → sum_by tries b.stack + in_hand + length b.kept ≤ sum_by tries a.stack + degree node + length a.kept
      → length b.stack ≤ length a.stack + room_of node → length b.kept ≤ length a.kept + 1
      → Paid nfa (record a { met = m }) 1 (record b { met = n }) in_hand
  Paid-entered a b in_hand tried framed entered = grind (arith, weight-entered)

  -- a mark that is set stays when another is set
  still : (bits : List Bool) (s k : ℕ) → s < length bits → get_or bits k false ≡ true
      → get_or (set bits s true) k false ≡ true
  still bits s k inside e = grind (arith, get_or-set_same, get_or-set_other)

  module _ (at : ℕ) (before : Frontier) (f : Formed nfa at m.bits before) where
    -- a state that is marked and is not in the front
    Formed-marked : Formed nfa at n.bits before
    Formed-marked = grind (arith, still)

    -- a state that is put into the front
    Formed-kept : (slots : Slots) → rests node ≡ true → Formed nfa at n.bits (before ++ ((s, at), slots) ∷ [])
    Formed-kept slots r =
        let g = Formed-marked in
        let row : Pair × Slots = ((s, at), slots) in
        let here : get_or (set m.bits s true) s false ≡ true = get_or-set_same m.bits s true false e.inside in
        let unmarked : get_or m.bits s false ≡ false = get_or_default m.bits s false true e.inside ∙ e.clear in
        record {
          here = All-push (λ a. a.0.1 ≡ at) before row g.here refl;
          states = All-push (λ a. a.0.0 < length nfa.states) before row g.states
              (slice_get_within nfa.states s node e.is);
          resting = All-push (λ a. rests (node_at nfa a.0.0) ≡ true) before row g.resting
              (rw (node_at-get nfa s node e.is) r);
          marked = All-push (λ a. get_or n.bits a.0.0 false ≡ true) before row g.marked (rw e.marked here);
          once = once-keep before (s, at) slots g.once
              (λ a i v. let k = All-In (λ (b : Pair × Slots). get_or m.bits b.0.0 false ≡ true) before f.marked a i in
              let l : get_or m.bits s false ≡ true = ap (λ w. get_or m.bits w.0 false) (sym v) ∙ k in
              absurd (cc (l, unmarked)));
        }

-- Before the state was entered there was room.
module _ {nfa : Automaton} {s : ℕ} {node : Node} {old : ClosureOutput} {n : Marks} (e : Entered nfa s node old.seen n)
    {top frames : ℕ} (room : HasRoom nfa old top frames) where
  -- there is room for the frames that it pushes
  pub frames-entered : top + room_of node ≤ stack_frames nfa
  frames-entered = grind (arith, weight-entered e room_of, marked_sum-le, sum-map)

  -- and for one more state
  pub states-entered : length old.next.items < old.next.capacity
  states-entered = grind (arith, weight-entered e (λ node. 1), marked_sum-le, sum-map, sum-ones)

-- a turn that finds its state marked
pub VisitsState-marked : {nfa : Automaton} {x : Search} {at s : ℕ} {a : Moment} {n : Marks} → WasSeen s a.met n
    → VisitsState nfa x at s a DeadEnd (record a { met = n })
VisitsState-marked w = grind (arith, Turns-bare, Follows-marked)

-- the alternatives that are pushed, with the earliest on top
abbrev pub put : List ℕ → List FollowEpsilon
put es = map (λ s. ToExplore s) (reverse es)

put-cons : (stack : List FollowEpsilon) (e : ℕ) (es : List ℕ)
    → stack ++ put (e ∷ es) ≡ (stack ++ put es) ++ ToExplore e ∷ []
put-cons stack e es = simp (reverse_onto es e [], map_push, append_assoc)

work_onto-put : (at : ℕ) (stack : List FollowEpsilon) (es : List ℕ) (work : List Task)
    → work_onto at (stack ++ put es) work ≡ map Explore (map (λ n. (n, at)) es) ++ work_onto at stack work
work_onto-put at stack [] work = rw append-nil refl
work_onto-put at stack (e ∷ es) work = grind (arith, put-cons, work_onto-push, work_onto-put at stack es work)

tries-put : (stack : List FollowEpsilon) (es : List ℕ) → sum_by tries (stack ++ put es) ≡ sum_by tries stack + length es
tries-put stack [] = rw append-nil (omega arith)
tries-put stack (e ∷ es) = grind (arith, put-cons, sum_by_push, tries-put stack es)

length-put : (stack : List FollowEpsilon) (es : List ℕ) → length (stack ++ put es) ≡ length stack + length es
length-put stack es = simp (length-append, length-map, length-reverse)

within-put : (states count : ℕ) (stack : List FollowEpsilon) (es : List ℕ) → All (IsWithin states count) stack
    → All (λ s. s < states) es → All (IsWithin states count) (stack ++ put es)
within-put states count stack [] fits below = rw append-nil fits
within-put states count stack (e ∷ es) fits below =
    rw (put-cons stack e es) (All-push (IsWithin states count) (stack ++ put es) (ToExplore e)
    (within-put states count stack es fits (All-tail (λ s. s < states) e es below))
    (All-head (λ s. s < states) e es below))

pub within-union : (states count : ℕ) (alternates : List ℕ) (f : ℕ) (stack above : List FollowEpsilon)
    → slice_get alternates 0 ≡ Some f → above ≡ stack ++ put (drop 1 alternates)
    → All (IsWithin states count) stack → All (λ q. q < states) alternates → All (IsWithin states count) above
within-union states count alternates f stack above first is within below =
    rw is (within-put states count stack (drop 1 alternates) within (All-tail (λ q. q < states) f (drop 1 alternates)
    (rw (first-drop alternates f first) at below)))

-- where a turn goes on that leads to this state
abbrev pub onto : Option ℕ → Move
onto None = DeadEnd
onto (Some s) = On s

onto-plain : (nfa : Automaton) (x : Search) (v : Pair) (slots : Slots) (to : Option ℕ)
    → IsMet nfa x v slots (onto to) []
onto-plain nfa x v slots to = grind arith

onto-work : (at : ℕ) (stack : List FollowEpsilon) (es : List ℕ) (work : List Task)
    → with_state at (state_on (onto (slice_get es 0))) (work_onto at (stack ++ put (drop 1 es)) work)
    ≡ map Explore (map (λ n. (n, at)) es) ++ work_onto at stack work
onto-work at stack es work = grind (arith, append-nil, work_onto-put)

onto-tries : (es : List ℕ) → length (drop 1 es) + length (option_to_list (state_on (onto (slice_get es 0)))) ≡ length es
onto-tries es = grind arith

-- A state that leads on without a byte is no match, and pushes all but the first, unless it writes a slot.
leads-plain : (node : Node) → rests node ≡ false → pattern_of node ≡ None
leads-plain _ r = grind arith

epsilon-room : (holding : Holding) (node : Node) → slot_of node ≡ None
    → length (epsilon_states holding node) ≤ room_of node + 1
epsilon-room holding _ writes = grind arith

-- The result of a turn that marks such a state and goes on to the first that it leads to, with the others pushed.
pub VisitsState-leads : {nfa : Automaton} {x : Search} {at s : ℕ} {a : Moment} {n : Marks} {node : Node}
    → Entered nfa s node a.met n → rests node ≡ false → slot_of node ≡ None
    → {es : List ℕ} → epsilon_states (holding_at x.haystack at) node ≡ es → {turn : Move} → turn ≡ onto (slice_get es 0)
    → {above : List FollowEpsilon} → above ≡ a.stack ++ put (drop 1 es)
    → VisitsState nfa x at s a turn (record a { met = n; stack = above })
VisitsState-leads {nfa} {x} {at} {s} {a} {n} {node} e leads writes {es} is goes puts =
    let few : length es ≤ degree node = rw is at (epsilon-few (holding_at x.haystack at) node) in
    let room : length es ≤ room_of node + 1 = rw is at (epsilon-room (holding_at x.haystack at) node writes) in
    let plain = leads-plain node leads in
    rw (goes, puts) (Turns-bare (onto-plain nfa x (s, at) a.slots (slice_get es 0)) refl
    (Formed-marked e at)
    (λ before below work. rw (onto-work at a.stack es (Load below ∷ work))
    (Follows-plain nfa x at a.met before (work_onto at a.stack (Load below ∷ work)) a.slots e plain
    (map (λ q. (q, at)) es) (epsilon-edges x node at leads ∙ ap (map (λ q. (q, at))) is) writes))
    (Paid-entered e a (record a { stack = a.stack ++ put (drop 1 es) })
    (length (option_to_list (state_on (onto (slice_get es 0)))))
    (omega (arith, tries-put a.stack (drop 1 es), onto-tries es))
    (omega (arith, length-put a.stack (drop 1 es), length-drop 1 es)) (omega arith)))

-- the frame is pushed, unless the stack is empty
abbrev pub IsPut : List FollowEpsilon → FollowEpsilon → List FollowEpsilon → Type 0
IsPut stack f above = ((stack ≡ []) × (above ≡ [])) ⊎ (above ≡ stack ++ f ∷ [])

-- the stack and the slots after a Capture: if the row has its slot, the slot holds the position and a frame restores it
abbrev pub IsSaved : ℕ → ℕ → List FollowEpsilon → Slots → List FollowEpsilon → Slots → Type 0
IsSaved at slot stack slots above written =
    ((slot < length slots) × IsPut stack (Restore slot (get_or slots slot None)) above
    × (written ≡ set slots slot (Some at)))
    ⊎ ((length slots ≤ slot) × (above ≡ stack) × (written ≡ slots))

pub IsPut-made : (top after : ℕ) (frames new : List FollowEpsilon) (f : FollowEpsilon) → (top ≡ 0 → after ≡ 0)
    → (0 < top → take after new ≡ take top frames ++ f ∷ []) → IsPut (take top frames) f (take after new)
IsPut-made top after frames new f empty pushed = grind arith

pub top-put : (top after : ℕ) → (top ≡ 0 → after ≡ 0) → (0 < top → after ≡ top + 1) → after ≤ top + 1
top-put top after empty pushed = grind arith

-- an offset that fits
pub offset-some : (o : Option ℕ) (fits : Type 0) (at : ℕ) → SomeIff o fits at → fits → o ≡ Some at
offset-some o fits at h f = grind arith

pub within-saved : (states at slot : ℕ) (stack : List FollowEpsilon) (slots : Slots) (above : List FollowEpsilon)
    (written : Slots) → IsSaved at slot stack slots above written
    → All (IsWithin states (length slots)) stack → All (IsWithin states (length slots)) above
within-saved states at slot stack slots above written h within = elim h [
  | inl k ↦ elim k.1 [
    | inl none ↦ rw (none.1 ∙ sym none.0) within
    | inr more ↦ rw more (All-push (IsWithin states (length slots)) stack
        (Restore slot (get_or slots slot None)) within k.0)
  ]
  | inr k ↦ rw k.1 within
]

module _ {nfa : Automaton} {s next slot : ℕ} (a : Moment) {n : Marks} (e : Entered nfa s (Capture next slot) a.met n)
    (at : ℕ) {above : List FollowEpsilon} {written : Slots} (h : IsSaved at slot a.stack a.slots above written) where
  Paid-saved : Paid nfa a 1 (record { met = n; kept = a.kept; stack = above; slots = written }) 1
  Paid-saved = grind (arith, sum_by_push, length-append, weight-entered)

  -- If the stack is empty, the slot need not be restored: slots are loaded next.
  Follows-capture : (x : Search) (before : Frontier) (below : Slots) (work : List Task)
      → Follows nfa x at a.met before (Explore (s, at) ∷ work_onto at a.stack (Load below ∷ work)) a.slots n before
      (Explore (next, at) ∷ work_onto at above (Load below ∷ work)) written
  unfolding edges_of
  Follows-capture x before below work =
      let back : Option ℕ = get_or a.slots slot None in
      elim h [
        | inl k ↦ elim k.1 [
          | inl none ↦ rw (none.0, none.1, k.2)
              (Follows-then nfa x at
              (Follows-write nfa x at a.met before (Load below ∷ work) a.slots e refl ((next, at) ∷ []) refl slot refl)
              (Follows-unrestored nfa x at n before work (set a.slots slot (Some at)) (next, at) slot back below))
          | inr more ↦ rw (more, k.2, work_onto-push at a.stack (Restore slot back) (Load below ∷ work))
              (Follows-write nfa x at a.met before (work_onto at a.stack (Load below ∷ work)) a.slots e refl
              ((next, at) ∷ []) refl slot refl)
        ]
        | inr k ↦ rw (k.1, k.2)
            (Follows-unkept nfa x at a.met before (work_onto at a.stack (Load below ∷ work)) a.slots e refl
            ((next, at) ∷ []) refl slot refl k.0)
      ]

  pub VisitsState-capture : {x : Search}
      → VisitsState nfa x at s a (On next) (record { met = n; kept = a.kept; stack = above; slots = written })
  VisitsState-capture {x} =
      Turns-bare (λ b i. absurd i) refl (Formed-marked e at)
      (Follows-capture x) Paid-saved

-- a byte leads to one of the state's edges, or to none
few-target : (node : Node) (byte : Option ℕ) → let more = option_to_list (option_and_then (target_on node) byte) in
    (length more ≤ 1) × (length more ≤ degree node)
few-target node byte = grind (arith, target-degree)

-- a resting state that is not a match
no_match : {nfa : Automaton} {s : ℕ} {node : Node} {m n : Marks} → Entered nfa s node m n → (x : Search) (at : ℕ)
    (slots : Slots) → pattern_of node ≡ None → IsMet nfa x (s, at) slots DeadEnd (((s, at), slots) ∷ [])
no_match e x at slots plain = grind (arith, node_at-get)

-- The result of a turn that enters a resting state: it keeps the states that the state leads to.
module _ {nfa : Automaton} {s : ℕ} {node : Node} {a : Moment} {n : Marks} (e : Entered nfa s node a.met n) {x : Search}
    {at : ℕ} (r : rests node ≡ true) where
  Turns-resting : {Holds : Frontier → Type 0} (more : List (ℕ × Slots))
      → map (λ v. (v.0, a.slots)) (edges_of x node at) ≡ more → length more ≤ 1 → length more ≤ degree node
      → {kept : List (ℕ × Slots)} → kept ≡ a.kept ++ more → Holds (((s, at), a.slots) ∷ [])
      → TurnsGive nfa x at s a Holds None (record a { met = n; kept = kept })
  Turns-resting more leads one few {kept} added holds =
      let is = node_at-get nfa s node e.is in
      let moved = moves-one (edges nfa x) (s, at) a.slots (edges_of x node at) (rw is refl) ∙ leads in
      let count = ap length added ∙ length-append a.kept more in
      record {
        front = ((s, at), a.slots) ∷ [];
        holds = holds;
        added = added ∙ ap (λ l. a.kept ++ l) (sym moved);
        formed = λ before f. Formed-kept e at before f a.slots r;
        follows = λ before below work.
            Follows-keep nfa x at a.met before (work_onto at a.stack (Load below ∷ work)) a.slots e r;
        paid = Paid-entered e a (record a { kept = kept }) 0 (omega arith) (omega arith) (omega arith);
      }

  -- the state that the byte leads to is kept, if the state is no match
  pub VisitsState-byte : pattern_of node ≡ None → {byte : Option ℕ} → byte ≡ byte_at x at → {kept : List (ℕ × Slots)}
      → kept ≡ a.kept ++ map (λ t. (t, a.slots)) (option_to_list (option_and_then (target_on node) byte))
      → VisitsState nfa x at s a DeadEnd (record a { met = n; kept = kept })
  VisitsState-byte plain {byte} reads added =
      let targets = option_to_list (option_and_then (target_on node) byte) in
      let few = few-target node byte in
      Turns-resting (map (λ t. (t, a.slots)) targets)
      (rw reads (edges-move x at a.slots node r)) (rw length-map few.0) (rw length-map few.1) added
      (no_match e x at a.slots plain)

module _ {nfa : Automaton} {s : ℕ} {a : Moment} {n : Marks} {x : Search} {at : ℕ} where
  pub VisitsState-fail : Entered nfa s Fail a.met n → VisitsState nfa x at s a DeadEnd (record a { met = n })
  unfolding edges_of
  VisitsState-fail e = Turns-resting e refl [] refl (omega arith) (omega arith) (sym (append-nil a.kept))
      (no_match e x at a.slots refl)

  pub VisitsState-match : (pattern : PatternID) → Entered nfa s (Match (number_of pattern)) a.met n
      → VisitsState nfa x at s a (Matched pattern) (record a { met = n })
  unfolding edges_of
  VisitsState-match pattern e =
      let is = node_at-get nfa s (Match (number_of pattern)) e.is in
      Turns-resting e refl [] refl (omega arith) (omega arith) (sym (append-nil a.kept)) (refl, rw is refl)
