-- What each kind of state leads to, after the turn that marked its place or did not; and turns one after another.
use Rattle.thompson_nfa.specs.Automaton.Node.{Match}
use Rattle.thompson_nfa.specs.declared.look.Look as looks
use Rattle.nfa_paths.proofs.StartLemmas.{node_at-get, resting-edges}
use Rattle.nfa_paths.proofs.TurnLemmas.{marked_sum-le}
use Rattle.nfa_paths.proofs.Common.{◌≡◌, ℕ, ◌+◌, ◌-◌, ◌*◌, ◌<◌, ◌≤◌, List, [], ◌∷◌, ◌++◌, length, get_or, set, map, rules, refl, sym, arith, length-set, Option, Some, None, Result, Ok, Err, OnErr, true, false, All, IfSome, option_map, option_map_or, option_and_then, option_to_list, slice_get, sum, sum_by, length-map, All-push, sum_by_push, Search, number_of, PatternID, Automaton, Node, node_of, look_holds, Pair, degree, reads_byte, rests, pattern_of, slot_of, edges_of, byte_at, target_on, Task, Slots, Look, Union, BinaryUnion, Capture, Fail, State, Explore, Restore, marked_sum}
use Rattle.nfa_scan_core.proofs.TargetLemmas.{none-nil, target-below, target-degree}
use Rattle.nfa_scan_core.specs.Marks.{Marks}
use Rattle.nfa_backtrack.specs.Walk.{pair_of, work_item, stacked, restoring, frame_tries, tasks_of, bit_of, weights, HasFrames, IsAfforded, IsStatePos, IsFrame, IsByteStep, PaidFor, Goes, Taken, TurnsLead, Walk, WasMarked}
use Rattle.nfa_backtrack.specs.declared.walk.Move.TheVariants.{On, DeadEnd, Matched}
use Rattle.nfa_backtrack.specs.declared.frame.StatePos.{StatePos}
use Rattle.nfa_backtrack.specs.declared.frame.Frame.{Frame}
use Rattle.nfa_backtrack.specs.declared.frame.Frame.TheVariants.{Step}
use Rattle.nfa_backtrack.proofs.WalkLemmas.{marked_sum-taken, Carries-none, Carries-then, Carries-marked, Carries-dead, Carries-plain, Carries-write, Carries-unkept, Ends-match}

-- the states that the code holds are those of the NFA
pub same_size : (nfa : Automaton) (states : List State) → map node_of states ≡ nfa.states → length states
    ≡ length nfa.states
same_size nfa states nodes = rw (← nodes, length-map) refl

-- a place's bit, as the code computes it
pub bit_of_place : {nfa : Automaton} {x : Search} {place : StatePos} → IsStatePos nfa x place → {sid : ℕ}
    → sid ≡ place.sid → place.row + sid ≡ bit_of nfa x (pair_of place)
bit_of_place is_place is = rw (is_place.row, is) refl

-- frames as work
pub stacked-push : (fs : List Frame) (f : Frame) (work : List Task) → stacked (fs ++ f ∷ []) work
    ≡ work_item f ∷ stacked fs work
stacked-push [] f work = refl
stacked-push (g ∷ fs) f work = stacked-push fs f (work_item g ∷ work)

-- a frame that puts a slot back
restoring-is : (slot : ℕ) (old : Option ℕ) → (work_item (restoring slot old) ≡ Restore slot old)
    × (frame_tries (restoring slot old) ≡ 0)
    × ((nfa : Automaton) (x : Search) (count : ℕ) → slot < count → IsFrame nfa x count (restoring slot old))
restoring-is slot None = (refl, refl, λ nfa x count h. h)
restoring-is slot (Some offset) = (refl, refl, λ nfa x count h. h)

-- a state that reads a byte rests, is no match, and writes no slot
pub reads-plain : (node : Node) → reads_byte node ≡ true
    → (rests node ≡ true) × (pattern_of node ≡ None) × (slot_of node ≡ None)
reads-plain _ r = grind arith

-- its edges
pub step-edges : (nfa : Automaton) (x : Search) (s at : ℕ) (target : Option ℕ) → (b : IsByteStep nfa x (s, at) target)
    → edges_of x b.node at ≡ option_to_list (option_map (λ next. (let v : Pair = (next, at + 1) in v)) target)
step-edges nfa x s at target b = let rest = (reads-plain b.node b.reads).0 in grind (arith, resting-edges)

-- the byte that leads to a target
pub read-byte : (f : ℕ → Option ℕ) (byte : Option ℕ) (q : ℕ) → Some q ≡ option_and_then f byte
    → (k : ℕ) × (byte ≡ Some k) × (f k ≡ Some q)
read-byte f None q e = cc
read-byte f (Some k) q e = (k, refl, sym e)

-- what holds in any case holds if allocation failed
OnErr-always : {T E P : Type 0} (r : Result T E) → P → OnErr r P
OnErr-always (Ok value) p = tt
OnErr-always (Err error) p = p

-- the one turn before allocation failed
pub refused-turn : {T E : Type 0} (r : Result T E) (nfa : Automaton) (x : Search) (stack : List Frame) (m n : Marks)
    → n.turns ≡ m.turns + 1 → OnErr r (IsAfforded nfa x stack m n)
refused-turn r nfa x stack m n counted =
    let afforded : IsAfforded nfa x stack m n = omega (arith, marked_sum-le (weights nfa x) m.bits) in
    OnErr-always r afforded

module _ {nfa : Automaton} {x : Search} where
  -- turns that lead to a place, or nowhere, as the result of a turn
  pub Goes-leads : {v : Pair} {old new : Walk} (next : Option StatePos) → TurnsLead nfa x v next old new
      → Goes nfa x v (option_map_or On next DeadEnd) old new
  Goes-leads None leads = leads
  Goes-leads (Some place) leads = leads

  -- what is paid for by turns after turns, and by turns without frames before them
  pub PaidFor-then : {a b c : Walk} {in_hand : ℕ} → PaidFor nfa x a b 1 → PaidFor nfa x b c in_hand
      → PaidFor nfa x a c in_hand
  PaidFor-then f g = record { within = λ frames. g.within (f.within frames); tried = omega (arith, f.tried, g.tried) }

  pub PaidFor-bounded : {a b : Walk} {in_hand : ℕ} → a.stack ≡ [] → PaidFor nfa x a b in_hand
      → b.marks.turns + marked_sum (weights nfa x) a.marks.bits ≤ a.marks.turns + 1 + sum (weights nfa x)
  PaidFor-bounded {b = b} empty p = omega (arith, rw empty at p.tried, marked_sum-le (weights nfa x) b.marks.bits)

  -- no turn yet
  pub TurnsLead-none : {place : StatePos} → IsStatePos nfa x place → {a : Walk}
      → TurnsLead nfa x (pair_of place) (Some place) a a
  TurnsLead-none {place} is_place {a} = record {
    goes = is_place;
    paid = record { within = λ frames. frames; tried = omega arith };
    follows = λ work. Carries-none nfa x a.marks (Explore (pair_of place) ∷ stacked a.stack work) a.slots;
  }

  -- turns after turns
  pub TurnsLead-then : {v : Pair} {p : StatePos} {q : Option StatePos} {a b c : Walk}
      → TurnsLead nfa x v (Some p) a b → TurnsLead nfa x (pair_of p) q b c → TurnsLead nfa x v q a c
  TurnsLead-then f g = record {
    goes = g.goes;
    paid = PaidFor-then f.paid g.paid;
    follows = λ work. Carries-then (f.follows work) (g.follows work);
  }

  -- turns that end because allocation failed
  pub refused-then : {T E : Type 0} (r : Result T E) (o : Marks) {v : Pair} {p : StatePos} {a b : Walk}
      → TurnsLead nfa x v (Some p) a b → IsAfforded nfa x b.stack b.marks o
      → OnErr r (IsAfforded nfa x a.stack a.marks o)
  refused-then r o {a = a} f e =
      let ft = f.paid.tried in
      let afforded : IsAfforded nfa x a.stack a.marks o = omega arith in
      OnErr-always r afforded

  -- a turn that marks nothing
  unmarked : {a : Walk} {n : Marks} → n.turns ≡ a.marks.turns + 1 → n.bits ≡ a.marks.bits
      → PaidFor nfa x a (record a { marks = n }) 0
  unmarked counted same = record { within = λ frames. frames; tried = rw same (omega (arith, counted)) }

  -- another state at the position of a turn
  pub beside : {s at row : ℕ} {m n : Marks} → Taken nfa x (s, at) m n → row ≡ (at - x.start) * length nfa.states
      → (q : ℕ) → q < length nfa.states → IsStatePos nfa x (record { sid = q; at = at; row = row })
  beside t placed q below = record { state = below; from = t.from; to = t.to; row = placed }

module _ {nfa : Automaton} {x : Search} {s at : ℕ} {a : Walk} {n : Marks} where
  -- a turn that finds its place marked
  pub TurnsLead-marked : WasMarked nfa x (s, at) a.marks n → TurnsLead nfa x (s, at) None a (record a { marks = n })
  TurnsLead-marked seen = record {
    goes = tt;
    paid = unmarked seen.counted seen.same;
    follows = λ work. Carries-marked seen (stacked a.stack work) a.slots;
  }

  module _ (counted : n.turns ≡ a.marks.turns + 1) (same : n.bits ≡ a.marks.bits) where
    -- a turn at a state that leads nowhere, and is not marked
    pub TurnsLead-dead : (node : Node) → slice_get nfa.states s ≡ Some node → pattern_of node ≡ None
        → edges_of x node at ≡ [] → TurnsLead nfa x (s, at) None a (record a { marks = n })
    TurnsLead-dead node is plain leads = record {
      goes = tt;
      paid = unmarked counted same;
      follows = λ work. Carries-dead counted same node is plain leads (stacked a.stack work) a.slots;
    }

    -- a byte state, and a Fail
    pub TurnsLead-refused : IsByteStep nfa x (s, at) None → TurnsLead nfa x (s, at) None a (record a { marks = n })
    TurnsLead-refused b = TurnsLead-dead b.node b.is (reads-plain b.node b.reads).1 (step-edges nfa x s at None b)

    pub TurnsLead-fail : slice_get nfa.states s ≡ Some Fail → TurnsLead nfa x (s, at) None a (record a { marks = n })
    unfolding edges_of
    TurnsLead-fail is = TurnsLead-dead Fail is refl refl

  module _ (t : Taken nfa x (s, at) a.marks n) where
    -- what is pushed is paid for by the state's degree
    pub PaidFor-step : (node : Node) → slice_get nfa.states s ≡ Some node
        → (after : List Frame) (written : Slots) (in_hand : ℕ)
        → (HasFrames nfa x a → All (IsFrame nfa x (length written)) after)
        → sum_by frame_tries after + in_hand ≤ sum_by frame_tries a.stack + degree node
        → PaidFor nfa x a (record { stack = after; marks = n; slots = written }) in_hand
    PaidFor-step node is after written in_hand within tried = record {
      within = within;
      tried = omega (arith, t.counted, marked_sum-taken t node is);
    }

    PaidFor-same : (node : Node) → slice_get nfa.states s ≡ Some node → (in_hand : ℕ) → in_hand ≤ degree node
        → PaidFor nfa x a (record a { marks = n }) in_hand
    PaidFor-same node is in_hand few = PaidFor-step node is a.stack a.slots in_hand (λ frames. frames) (omega arith)

    -- a state that pushes nothing and writes no slot, with one edge or none
    TurnsLead-plain : (node : Node) → slice_get nfa.states s ≡ Some node → pattern_of node ≡ None
        → slot_of node ≡ None
        → (place : Option StatePos) → map Explore (edges_of x node at) ≡ tasks_of place
        → IfSome place (IsStatePos nfa x) → length (tasks_of place) ≤ degree node
        → TurnsLead nfa x (s, at) place a (record a { marks = n })
    TurnsLead-plain node is plain writes place leads goes few = record {
      goes = goes;
      paid = PaidFor-same node is (length (tasks_of place)) few;
      follows = λ work. rw leads at (Carries-plain t (stacked a.stack work) a.slots node is plain writes);
    }

    -- a match
    pub Goes-match : (pattern : PatternID) → slice_get nfa.states s ≡ Some (Match (number_of pattern))
        → Goes nfa x (s, at) (Matched pattern) a (record a { marks = n })
    Goes-match pattern is = (
      PaidFor-same (Match (number_of pattern)) is 0 (omega arith),
      λ work. record {
        state = s;
        matches = rw (node_at-get nfa s (Match (number_of pattern)) is) refl;
        ends = Ends-match t (stacked a.stack work) a.slots (number_of pattern) is;
      },
    )

    module _ {row : ℕ} (placed : row ≡ (at - x.start) * length nfa.states) where
      -- a state that reads a byte
      module _ {target : Option ℕ} (b : IsByteStep nfa x (s, at) target) where
        TurnsLead-reads : (place : Option StatePos)
            → map Explore (option_to_list (option_map (λ next. (let v : Pair = (next, at + 1) in v)) target))
            ≡ tasks_of place → IfSome place (IsStatePos nfa x) → length (tasks_of place) ≤ degree b.node
            → TurnsLead nfa x (s, at) place a (record a { marks = n })
        TurnsLead-reads place leads =
            TurnsLead-plain b.node b.is (reads-plain b.node b.reads).1 (reads-plain b.node b.reads).2 place
            (rw (step-edges nfa x s at target b) leads)

      pub TurnsLead-stop : IsByteStep nfa x (s, at) None → TurnsLead nfa x (s, at) None a (record a { marks = n })
      TurnsLead-stop b = TurnsLead-reads b None refl tt (omega arith)

      pub TurnsLead-byte : {q states : ℕ} → IsByteStep nfa x (s, at) (Some q) → states ≡ length nfa.states
          → TurnsLead nfa x (s, at) (Some (record { sid = q; at = at + 1; row = row + states })) a
          (record a { marks = n })
      TurnsLead-byte {q} {states} b wide =
          let read = read-byte (target_on b.node) (byte_at x at) q b.leads in
          TurnsLead-reads b (Some (record { sid = q; at = at + 1; row = row + states })) refl
          (search (rules, target-below)) (grind (arith, target-degree))

      -- an assertion
      module _ {look : looks.Look} {next : ℕ} (is : slice_get nfa.states s ≡ Some (Look look next)) where
        pub TurnsLead-look : look_holds look x.haystack at ≡ true → next < length nfa.states
            → TurnsLead nfa x (s, at) (Some (record { sid = next; at = at; row = row })) a (record a { marks = n })
        unfolding edges_of
        TurnsLead-look holds below = TurnsLead-plain (Look look next) is refl refl
            (Some (record { sid = next; at = at; row = row })) (rw holds refl) (beside t placed next below)
            (omega arith)

        pub TurnsLead-no_look : look_holds look x.haystack at ≡ false
            → TurnsLead nfa x (s, at) None a (record a { marks = n })
        unfolding edges_of
        TurnsLead-no_look fails = TurnsLead-plain (Look look next) is refl refl None (rw fails refl) tt (omega arith)

      -- no alternatives
      pub TurnsLead-no_union : {alternates : List ℕ} → slice_get nfa.states s ≡ Some (Union alternates)
          → slice_get alternates 0 ≡ None → TurnsLead nfa x (s, at) None a (record a { marks = n })
      unfolding edges_of
      TurnsLead-no_union {alternates} is none = TurnsLead-plain (Union alternates) is refl refl None
          (rw (none-nil alternates none) refl) tt (omega arith)

      -- two alternatives, of which the second is pushed
      pub TurnsLead-union : {alt1 alt2 : ℕ} → slice_get nfa.states s ≡ Some (BinaryUnion alt1 alt2)
          → alt1 < length nfa.states → alt2 < length nfa.states
          → TurnsLead nfa x (s, at) (Some (record { sid = alt1; at = at; row = row })) a
          (record a { stack = a.stack ++ Step alt2 at row ∷ []; marks = n })
      unfolding edges_of
      TurnsLead-union {alt1} {alt2} is into out = record {
        goes = beside t placed alt1 into;
        paid = PaidFor-step (BinaryUnion alt1 alt2) is (a.stack ++ Step alt2 at row ∷ []) a.slots 1
            (λ frames. All-push (IsFrame nfa x (length a.slots)) a.stack (Step alt2 at row) frames
            (beside t placed alt2 out))
            (omega (arith, sum_by_push frame_tries a.stack (Step alt2 at row)));
        follows = λ work.
            rw (stacked-push a.stack (Step alt2 at row) work)
            (Carries-plain t (stacked a.stack work) a.slots (BinaryUnion alt1 alt2) is refl refl);
      }

      -- a Capture, whose slot is tracked or is not
      module _ {next slot : ℕ} (is : slice_get nfa.states s ≡ Some (Capture next slot))
          (below : next < length nfa.states) where
        pub TurnsLead-write : slot < length a.slots
            → TurnsLead nfa x (s, at) (Some (record { sid = next; at = at; row = row })) a (record {
              stack = a.stack ++ restoring slot (get_or a.slots slot None) ∷ [];
              marks = n;
              slots = set a.slots slot (Some at);
            })
        TurnsLead-write tracked =
            let frame = restoring slot (get_or a.slots slot None) in
            let is_frame = restoring-is slot (get_or a.slots slot None) in
            record {
              goes = beside t placed next below;
              paid = PaidFor-step (Capture next slot) is (a.stack ++ frame ∷ []) (set a.slots slot (Some at)) 1
                  (λ frames. rw length-set (All-push (IsFrame nfa x (length a.slots)) a.stack frame frames
                  (is_frame.2 nfa x (length a.slots) tracked)))
                  (omega (arith, sum_by_push frame_tries a.stack frame, is_frame.1));
              follows = λ work.
                  rw (stacked-push a.stack frame work, is_frame.0)
                  (Carries-write t (stacked a.stack work) a.slots next slot is);
            }

        pub TurnsLead-unkept : length a.slots ≤ slot
            → TurnsLead nfa x (s, at) (Some (record { sid = next; at = at; row = row })) a (record a { marks = n })
        TurnsLead-unkept past = record {
          goes = beside t placed next below;
          paid = PaidFor-same (Capture next slot) is 1 (omega arith);
          follows = λ work. Carries-unkept t (stacked a.stack work) a.slots next slot is past;
        }
