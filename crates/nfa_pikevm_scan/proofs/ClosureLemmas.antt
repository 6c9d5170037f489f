-- The steps of a closure, each for the searches of all sets of match pairs at once: states, frames, and turns one after
-- the other.
use Rattle.std.proofs.lemmas.Grind.{flat_map-append}
use Rattle.nfa_paths.proofs.ScanAnswerLemmas.{edges-onward, edges-rise}
use Rattle.nfa_paths.proofs.SearchLemmas.{AnswerBehind-along}
use Rattle.nfa_paths.proofs.SearchingLemmas.{Searching-keep, Searching-load, Searching-marked, Searching-plain, Searching-restore, Searching-unkept, Searching-write}
use Rattle.nfa_paths.proofs.StartLemmas.{node_at-get}
use Rattle.nfa_paths.proofs.TurnLemmas.{marked_sum-le}
use Rattle.nfa_scan_core.proofs.TargetLemmas.{SeenAt-clear, SeenAt-set}
use Rattle.nfa_pikevm_scan.proofs.Common.{All, All-take, AreMatchPairs, Automaton, Bool, ClosureOutput, Entered, Explore, ExploresTo, FollowEpsilon, Follows, Formed, Frontier, HasRoom, IsWithin, KeepsRoom, List, Load, Marks, Moment, NoMatch, Node, None, Option, Paid, Pair, Restore, Resumes, Search, Slots, Some, Task, TurnsGive, WasSeen, [], ap, append-nil, append_assoc, arith, degree, edges, edges_of, false, get_or, length, length-append, map, moment_of, moves, option_to_list, pattern_of, refl, rests, rules, set, slot_of, space, state_of, sum, sum_by, sum_by_push, sym, take, take-take, take_more, tries, true, undone, weight, with_state, work_item_of, work_onto, ℕ, ◌++◌, ◌+◌, ◌-◌, ◌<◌, ◌∙◌, ◌∷◌, ◌≡◌, ◌≤◌}

module _ (nfa : Automaton) (x : Search) (at : ℕ) where
  -- one after the other
  pub Follows-then : {m : Marks} {i : Frontier} {w : List Task} {s : Slots} {n : Marks} {j : Frontier} {y : List Task}
      {t : Slots} {o : Marks} {k : Frontier} {z : List Task} {u : Slots} → Follows nfa x at m i w s n j y t
      → Follows nfa x at n j y t o k z u → Follows nfa x at m i w s o k z u
  Follows-then f g = search rules

  pub Follows-none : (m : Marks) (i : Frontier) (w : List Task) (s : Slots) → Follows nfa x at m i w s m i w s
  Follows-none m i w s = search rules

  module _ (m : Marks) (i : Frontier) (rest : List Task) (slots : Slots) where
    pub Follows-restore : (k : ℕ) (old : Option ℕ)
        → Follows nfa x at m i (Restore k old ∷ rest) slots m i rest (set slots k old)
    Follows-restore k old = search (rules, Searching-restore)

    pub Follows-load : (old : Slots) → Follows nfa x at m i (Load old ∷ rest) slots m i rest old
    Follows-load old = search (rules, Searching-load)

    -- after a pair a slot need not be restored if slots are loaded next
    pub Follows-unrestored : (v : Pair) (k : ℕ) (back : Option ℕ) (old : Slots)
        → Follows nfa x at m i (Explore v ∷ Restore k back ∷ Load old ∷ rest) slots m i
        (Explore v ∷ Load old ∷ rest) slots
    unfolding ExploresTo
    Follows-unrestored v k back old = record {
      leads = λ target ok starts entry otherwise h. record {
        marks = h.marks;
        agrees = h.agrees;
        leads = λ g left total e z.
            h.leads g left total e
            (AnswerBehind-along (space nfa x) target i left left (omega arith) otherwise otherwise h.marks h.marks
            (Explore v ∷ Load old ∷ rest) (Explore v ∷ Restore k back ∷ Load old ∷ rest) slots slots g (λ a. a) z);
      };
    }

    -- a turn that finds its state marked
    pub Follows-marked : {s : ℕ} {n : Marks} → WasSeen s m n
        → Follows nfa x at m i (Explore (s, at) ∷ rest) slots n i rest slots
    Follows-marked w = grind (arith, Searching-marked)

    -- a turn that marks its state
    module _ {s : ℕ} {node : Node} {n : Marks} (e : Entered nfa s node m n) where
      -- a state that is not a match, with its edges
      module _ (plain : pattern_of node ≡ None) (es : List Pair) (leads : edges_of x node at ≡ es) where
        unwanted : (target : Pair → Bool) → AreMatchPairs nfa target → target (s, at) ≡ false
        unwanted target ok = grind (arith, node_at-get, ok (s, at))

        edges-are : edges nfa x (s, at) ≡ es
        edges-are = grind (arith, node_at-get)

        pub Follows-plain : slot_of node ≡ None
            → Follows nfa x at m i (Explore (s, at) ∷ rest) slots n i (map Explore es ++ rest) slots
        Follows-plain writes = record {
          leads = λ target ok starts entry otherwise h.
              rw (e.counted, e.marked)
              (Searching-plain (space nfa x) target h (SeenAt-clear at s m.bits e.inside e.clear)
              (SeenAt-set at s m.bits e.inside) (unwanted target ok) es edges-are
              (rw (node_at-get nfa s node e.is) writes));
        }

        pub Follows-write : (k : ℕ) → slot_of node ≡ Some k
            → Follows nfa x at m i (Explore (s, at) ∷ rest) slots n i
            (map Explore es ++ Restore k (get_or slots k None) ∷ rest) (set slots k (Some at))
        Follows-write k writes = record {
          leads = λ target ok starts entry otherwise h.
              rw (e.counted, e.marked)
              (Searching-write (space nfa x) target h (SeenAt-clear at s m.bits e.inside e.clear)
              (SeenAt-set at s m.bits e.inside) (unwanted target ok) es edges-are k
              (rw (node_at-get nfa s node e.is) writes));
        }

        pub Follows-unkept : (k : ℕ) → slot_of node ≡ Some k → length slots ≤ k
            → Follows nfa x at m i (Explore (s, at) ∷ rest) slots n i (map Explore es ++ rest) slots
        Follows-unkept k writes past = record {
          leads = λ target ok starts entry otherwise h.
              rw (e.counted, e.marked)
              (Searching-unkept (space nfa x) target h (SeenAt-clear at s m.bits e.inside e.clear)
              (SeenAt-set at s m.bits e.inside) (unwanted target ok) es edges-are k
              (rw (node_at-get nfa s node e.is) writes) past);
        }

      -- a resting state, whose edges lead to later positions, is put into the front
      pub Follows-keep : rests node ≡ true
          → Follows nfa x at m i (Explore (s, at) ∷ rest) slots n (i ++ ((s, at), slots) ∷ []) rest slots
      Follows-keep r = record {
        leads = λ target ok starts entry otherwise h.
            rw (e.counted, e.marked)
            (Searching-keep (space nfa x) target h (SeenAt-clear at s m.bits e.inside e.clear)
            (SeenAt-set at s m.bits e.inside) (λ v. at < v.1)
            (λ v y a j. let k : v.1 ≤ y.1 = edges-onward nfa x v y j in let l : at < v.1 = a in omega arith)
            (λ w. edges-rise nfa x (s, at) w (rw (node_at-get nfa s node e.is) r))
            (λ v seen a. let k : v.1 ≡ at = seen.here in let l : at < v.1 = a in omega arith));
      }

-- the stack without its last frame
pub popped-is : (frames : List FollowEpsilon) (top : ℕ) (v : FollowEpsilon) → 0 < top → top ≤ length frames
    → v ≡ get_or frames (top - 1) v → take top frames ≡ take (top - 1) frames ++ v ∷ []
popped-is frames top v some inside is = grind (arith, take_more frames (top - 1) v)

-- a stack that is cut is within as before
pub within-lower : (states count t u : ℕ) (frames : List FollowEpsilon) → t ≤ u
    → All (IsWithin states count) (take u frames) → All (IsWithin states count) (take t frames)
within-lower states count t u frames less fits =
    rw (← take-take t u frames less) (All-take (IsWithin states count) t (take u frames) fits)

-- frames as work
pub work_onto-push : (at : ℕ) (fs : List FollowEpsilon) (f : FollowEpsilon) (work : List Task)
    → work_onto at (fs ++ f ∷ []) work ≡ work_item_of at f ∷ work_onto at fs work
work_onto-push at [] f work = refl
work_onto-push at (g ∷ fs) f work = work_onto-push at fs f (work_item_of at g ∷ work)

-- a frame that is applied
Follows-undone : (nfa : Automaton) (x : Search) (at : ℕ) (met : Marks) (front : Frontier) (work : List Task)
    (f : FollowEpsilon) (slots : Slots) → Follows nfa x at met front (work_item_of at f ∷ work) slots met front
    (with_state at (state_of f) work) (undone f slots)
Follows-undone nfa x at met front work f slots = grind (arith, Follows-none, Follows-restore)

-- no frame, or one more
pub Resumes-none : (stack : List FollowEpsilon) (slots : Slots) → Resumes stack slots None stack slots
Resumes-none stack slots = grind (arith, Follows-none)

pub Resumes-popped : {whole stack popped : List FollowEpsilon} (f : FollowEpsilon) {entry slots after : Slots}
    {state : Option ℕ} → Resumes whole entry None stack slots → stack ≡ popped ++ f ∷ [] → state ≡ state_of f
    → after ≡ undone f slots → Resumes whole entry state popped after
Resumes-popped {whole} {stack} {popped} f {entry} {slots} {after} {state} r pop is undo = record {
  fewer = omega (arith, r.fewer, ap length pop, length-append popped (f ∷ []));
  tried = rw is (omega (arith, rw pop at r.tried, sum_by_push tries popped f));
  follows = λ nfa x at met front work. rw (is, undo)
      (Follows-then nfa x at (rw (pop, work_onto-push at popped f work) at (r.follows nfa x at met front work))
      (Follows-undone nfa x at met front (work_onto at popped work) f slots));
}

pub moves-append : (edges : Pair → List Pair) (front more : Frontier)
    → moves edges (front ++ more) ≡ moves edges front ++ moves edges more
moves-append edges front more = flat_map-append (λ (a : Pair × Slots). map (λ v. (v.0, a.1)) (edges a.0)) front more

-- one front with no match after another
pub NoMatch-append : (test : Pair → Bool) (front more : Frontier) → NoMatch test front → NoMatch test more
    → NoMatch test (front ++ more)
NoMatch-append test [] more f m = m
NoMatch-append test (a ∷ front) more f m = grind (arith, NoMatch-append test front more)

-- the room that is kept
pub KeepsRoom-none : (a : ClosureOutput) → KeepsRoom a a
KeepsRoom-none a = record { size = refl; same = refl }

pub KeepsRoom-then : {a b c : ClosureOutput} → KeepsRoom a b → KeepsRoom b c → KeepsRoom a c
KeepsRoom-then k l = grind arith

-- the turns that wait and those that unmarked states may still bring are fewer after a turn
pub Paid-falls : {nfa : Automaton} {a b : Moment} {hand left waiting : ℕ} → Paid nfa a hand b left
    → a.met.turns + hand ≤ b.met.turns → waiting < sum_by tries b.stack + left
    → waiting + length b.kept + (sum (map degree nfa.states) - weight nfa degree b.met.bits)
    < sum_by tries a.stack + length a.kept + (sum (map degree nfa.states) - weight nfa degree a.met.bits)
Paid-falls p turned less = grind (arith, marked_sum-le)

-- there is still room
pub HasRoom-paid : {nfa : Automaton} {old new : ClosureOutput} {top frames : ℕ} → HasRoom nfa old top frames
    → {a : Moment} {stack : List FollowEpsilon} {row : Slots} {hand left : ℕ}
    → Paid nfa a hand (moment_of new stack row) left → KeepsRoom old new → a.met.bits ≡ old.seen.bits
    → length a.kept ≡ length old.next.items → length a.stack ≤ top → {now after : ℕ} → now ≡ length stack
    → after ≡ frames → HasRoom nfa new now after
HasRoom-paid room paid keeps bits kept stack is same = grind arith

-- The result of a turn that adds no pair to the front.
pub Turns-bare : {nfa : Automaton} {x : Search} {at s : ℕ} {old new : Moment} {Holds : Frontier → Type 0}
    {state : Option ℕ} → Holds [] → new.kept ≡ old.kept
    → ((before : Frontier) → Formed nfa at old.met.bits before → Formed nfa at new.met.bits before)
    → ((before : Frontier) (below : Slots) (work : List Task)
    → Follows nfa x at old.met before (Explore (s, at) ∷ work_onto at old.stack (Load below ∷ work)) old.slots
    new.met before (with_state at state (work_onto at new.stack (Load below ∷ work))) new.slots)
    → Paid nfa old 1 new (length (option_to_list state)) → TurnsGive nfa x at s old Holds state new
Turns-bare {old = old} holds same formed follows paid = record {
  front = [];
  holds = holds;
  added = same ∙ sym (append-nil old.kept);
  formed = λ before f. rw (append-nil before) (formed before f);
  follows = λ before below work. rw (append-nil before) (follows before below work);
  paid = paid;
}

module _ {nfa : Automaton} {x : Search} {at s : ℕ} {a : Moment} where
  module _ {Holds : Frontier → Type 0} where
    -- nothing was followed yet
    pub Turns-begin : Holds [] → TurnsGive nfa x at s a Holds (Some s) a
    Turns-begin holds = grind (arith, Turns-bare, Follows-none)

    -- frames are applied
    pub Turns-resumed : {b : Moment} {state : Option ℕ} {left : List FollowEpsilon} {then : Slots}
        → Resumes b.stack b.slots state left then → TurnsGive nfa x at s a Holds None b
        → TurnsGive nfa x at s a Holds state (record b { stack = left; slots = then })
    Turns-resumed {b} r f = record {
      front = f.front;
      holds = f.holds;
      added = f.added;
      formed = f.formed;
      follows = λ before below work. Follows-then nfa x at (f.follows before below work)
          (r.follows nfa x at b.met (before ++ f.front) (Load below ∷ work));
      paid = grind (arith, f.paid, r.tried, r.fewer);
    }

  -- more turns
  pub Turns-then : {b c : Moment} {Holds More Both : Frontier → Type 0} {sid : ℕ} {state : Option ℕ}
      → TurnsGive nfa x at s a Holds (Some sid) b → TurnsGive nfa x at sid b More state c
      → ((front more : Frontier) → Holds front → More more → Both (front ++ more)) → TurnsGive nfa x at s a Both state c
  Turns-then f h both = record {
    front = f.front ++ h.front;
    holds = both f.front h.front f.holds h.holds;
    added =
        h.added ∙ ap (λ l. l ++ moves (edges nfa x) h.front) f.added
        ∙ append_assoc a.kept (moves (edges nfa x) f.front) (moves (edges nfa x) h.front)
        ∙ ap (λ l. a.kept ++ l) (sym (moves-append (edges nfa x) f.front h.front));
    formed = λ before k. rw (← append_assoc before f.front h.front) (h.formed (before ++ f.front) (f.formed before k));
    follows = λ before below work. rw (← append_assoc before f.front h.front)
        (Follows-then nfa x at (f.follows before below work) (h.follows (before ++ f.front) below work));
    paid = grind (arith, f.paid, h.paid);
  }
