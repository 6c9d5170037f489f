-- The starts that are passed over, the first turn of a walk from the others, and what a walk means for the search.
use Rattle.nfa_paths.proofs.Common.{◌≡◌, ℕ, suc, zero, ◌+◌, ◌-◌, ◌<◌, ◌≤◌, inl, inr, List, ◌∷◌, map, sym, arith, subst, Some, None, Bool, cases_lt, Search, Automaton, Pair, IsFirst, start_state, starts, pairs_from, edges, is_match, space, Task, Slots, ExploresTo, Explore, [], length, replicate, false, half_found_of, HalfMatch, raised, IsScanAnswer, LeftmostFirst, GivesPath, marked_sum, sum, max_scan_turns, ◌∙◌, get_or, set, set-set, refl, Option, slice_get, Path, NoPath, IsMatch, capture, node_at, slot_of, Hit, found, Capture, Restore, stop, go}
use Rattle.nfa_paths.proofs.StartLemmas.{pairs_from-step, node_at-get}
use Rattle.nfa_scan_core.specs.Marks.{Marks}
use Rattle.nfa_scan_core.specs.FirstBytes.{IsRefused, IsFirstBytes}
use Rattle.nfa_backtrack.specs.Walk.{WalkAnswer, Carries, weights, Agrees, Ends, EndsAt, HasBits, Walk, pair_of, start_tasks, BeginsAt, IsStatePos, StartFails, Taken, WasMarked}
use Rattle.nfa_backtrack.proofs.WalkLemmas.{Carries-then, Carries-none, IsMarked-clear, sum-weights, marked_sum-taken, Carries-marked, Carries-restore, Carries-unkept, Carries-write}
use Rattle.nfa_paths.proofs.ScanAnswerLemmas.{scan_none, scan_some}
use Rattle.nfa_paths.proofs.TurnLemmas.{marked_sum-le}
use Rattle.nfa_backtrack.specs.declared.frame.StatePos.{StatePos}

module _ (nfa : Automaton) (x : Search) where
  -- a start from which no match is reached is passed over, with no turn
  Carries-dead : (m : Marks) (v : Pair) (w : List Task) (s : Slots)
      → ((marks : List Pair) → IsFirst (edges nfa x) (is_match nfa) marks v None)
      → Carries nfa x m (Explore v ∷ w) s m w s
  unfolding WalkAnswer ExploresTo
  Carries-dead m v w s dead = record {
    grows = omega arith;
    back = λ left more g e h pairs agrees.
        let same : more ≡ left = omega arith in
        inr (
          dead pairs,
          subst (λ n. ExploresTo (space nfa x) (is_match nfa) n None pairs w s g) (sym same) (h pairs agrees),
        );
  }

  -- and so are all up to the next one
  pub Carries-skip : (table : List Bool) → IsFirstBytes nfa table → (m : Marks) (s : Slots) (count at to limit : ℕ) → to
      ≡ at + count
      → ((k : ℕ) → at ≤ k → k < to → IsRefused table x k)
      → Carries nfa x m (map Explore (pairs_from nfa.anchored at (limit - at))) s m
      (map Explore (pairs_from nfa.anchored to (limit - to))) s
  Carries-skip table first m s zero at to limit is refused = grind arith
  Carries-skip table first m s (suc count) at to limit is refused =
      let next : to ≡ at + 1 + count = omega arith in
      let more = Carries-skip table first m s count (at + 1) to limit next (λ k h l. refused k (omega arith) l) in
      let here : IsRefused table x at = refused at (omega arith) (omega arith) in
      elim (cases_lt at limit) [
        | inl less ↦
            rw (pairs_from-step nfa.anchored less)
            (Carries-then (Carries-dead m (nfa.anchored, at)
            (map Explore (pairs_from nfa.anchored (at + 1) (limit - (at + 1)))) s (first.none x at here)) more)
        | inr past ↦ grind arith
      ]

  -- the starts that were skipped, or none if they may not be skipped
  pub Carries-pass : (table : List Bool) → IsFirstBytes nfa table
      → (m : Marks) (s : Slots) (sid from until to limit : ℕ) → x.start ≤ from → from ≤ to
      → (until ≤ from → to ≡ from) → (x.start < until → start_state nfa x.anchored ≡ Some nfa.anchored)
      → start_state nfa x.anchored ≡ Some sid
      → ((k : ℕ) → from ≤ k → k < to → IsRefused table x k)
      → Carries nfa x m (map Explore (pairs_from sid from (limit - from))) s m
      (map Explore (pairs_from sid to (limit - to))) s
  Carries-pass table first m s sid from until to limit ahead le stays anchored is refused =
      elim (cases_lt from until) [
        | inl less ↦
            let here : x.start < until = omega arith in
            let known : start_state nfa x.anchored ≡ Some nfa.anchored = anchored here in
            let same : sid ≡ nfa.anchored = cc in
            rw same (Carries-skip table first m s (to - from) from to limit (omega arith) refused)
        | inr past ↦ rw (stays past) (Carries-none nfa x m (map Explore (pairs_from sid from (limit - from))) s)
      ]

  -- from all starts on
  pub Carries-first : (table : List Bool) → IsFirstBytes nfa table → (m : Marks) (s : Slots) (sid until to limit : ℕ)
      → x.start ≤ to
      → (until ≤ x.start → to ≡ x.start) → (x.start < until → start_state nfa x.anchored ≡ Some nfa.anchored)
      → start_state nfa x.anchored ≡ Some sid
      → ((k : ℕ) → x.start ≤ k → k < to → IsRefused table x k) → starts nfa x ≡ pairs_from sid x.start (limit - x.start)
      → Carries nfa x m (map Explore (starts nfa x)) s m (map Explore (pairs_from sid to (limit - to))) s
  Carries-first table first m s sid until to limit le stays anchored is refused all =
      subst (λ (ps : List Pair). Carries nfa x m (map Explore ps) s m (map Explore (pairs_from sid to (limit - to))) s)
      (sym all)
      (Carries-pass table first m s sid x.start until to limit (omega arith) le stays anchored is refused)

module _ (nfa : Automaton) (x : Search) where
  -- nothing is marked
  fresh : (bits : List Bool) → bits ≡ replicate (length bits) false → Agrees nfa x bits []
  fresh bits clear v = (λ i. absurd i, λ m. absurd (IsMarked-clear nfa x (length bits) v (rw clear at m)))

  module _ (old : Walk) (clear : old.marks.bits ≡ replicate (length old.marks.bits) false) where
    -- all starts were tried, and nothing was found
    pub starts-none : (turns : ℕ) → Ends nfa x old.marks (map Explore (starts nfa x)) old.slots None turns
        → IsScanAnswer nfa x LeftmostFirst false None
    unfolding WalkAnswer
    starts-none turns e =
        let g = e.grows in
        scan_none nfa x (turns - old.marks.turns) old.slots
        (e.answer (turns - old.marks.turns) (omega arith) [] (fresh old.marks.bits clear))

    -- a match was found
    pub starts-some : (half : HalfMatch) (new : Walk) → old.slots ≡ replicate (length new.slots) None
        → EndsAt nfa x (half_found_of half) old (map Explore (starts nfa x)) new
        → GivesPath nfa LeftmostFirst false x half new.slots (new.marks.turns - old.marks.turns)
    unfolding WalkAnswer
    starts-some half new unset e =
        let g = e.ends.grows in
        let turns = new.marks.turns - old.marks.turns in
        let found = scan_some nfa x (length new.slots) turns (e.state, (half_found_of half).offset) new.slots
        (rw unset at (e.ends.answer turns (omega arith) [] (fresh old.marks.bits clear))) in
        grind arith

-- what bounds the turns of a scan
pub ruleset turn_bounds = (sum-weights, marked_sum-le)

-- a walk from a start, after those from the starts before it
pub turns-walked : (nfa : Automaton) (x : Search) (old turns now at : ℕ) (bits : List Bool)
    → now + marked_sum (weights nfa x) bits ≤ turns + 1 + sum (weights nfa x)
    → turns ≤ old + (at - x.start) + marked_sum (weights nfa x) bits → x.start ≤ at → at ≤ x.end
    → now ≤ old + max_scan_turns nfa x
turns-walked nfa x old turns now at bits bounded tried low high = grind (arith, turn_bounds)

-- the walks from all starts
pub turns-tried : (nfa : Automaton) (x : Search) (old turns at : ℕ) (bits : List Bool)
    → turns ≤ old + (at - x.start) + marked_sum (weights nfa x) bits → x.start ≤ at → at ≤ x.end + 1
    → turns ≤ old + max_scan_turns nfa x
turns-tried nfa x old turns at bits tried low high = grind (arith, turn_bounds)

-- with no start there is no path
pub no-path : (nfa : Automaton) (x : Search) → starts nfa x ≡ [] → NoPath (edges nfa x) (starts nfa x) (IsMatch nfa)
no-path nfa x none m p path wanted = absurd (rw none at path.among)

-- the same after some restarts, if there are as many marks as before
pub room-after : (nfa : Automaton) (x y : Search) (i : ℕ) (bits after : List Bool) → length after ≡ length bits → y
    ≡ raised x i
    → HasBits nfa x bits → HasBits nfa y after
room-after nfa x y i bits after same is room = grind arith

module _ (nfa : Automaton) (x : Search) where
  -- a path from a pair that writes the slot finds the same slots, whatever the slot held
  found-over : (v : Pair) (k : ℕ) → slot_of (node_at nfa v.0) ≡ Some k → {p : List Pair}
      → Path (edges nfa x) (is_match nfa) v p → (slots : Slots) (old : Option ℕ)
      → found (capture nfa) p slots ≡ found (capture nfa) p (set slots k old)
  found-over v k writes (stop t) slots old = rw (writes, set-set) refl
  found-over v k writes (go f i n q) slots old = rw (writes, set-set) refl

  -- so do all starts of its state
  Answer-over : (left : ℕ) (pairs : List Pair) (s at count k : ℕ) → slot_of (node_at nfa s) ≡ Some k
      → (slots : Slots) (old : Option ℕ) (g : Hit)
      → ExploresTo (space nfa x) (is_match nfa) left None pairs (start_tasks s at count) slots g
      → ExploresTo (space nfa x) (is_match nfa) left None pairs (start_tasks s at count) (set slots k old) g
  unfolding ExploresTo
  Answer-over left pairs s at zero k writes slots old g h = h
  Answer-over left pairs s at (suc count) k writes slots old g h =
      elim h [
        | inl hit ↦
            inl (hit.0, hit.1, hit.2 ∙ found-over (s, at) k writes hit.1.0.path slots old, hit.3)
        | inr later ↦ inr (later.0, Answer-over left pairs s (at + 1) count k writes slots old g later.1)
      ]

  -- a slot that later starts write need not be restored
  Carries-kept : (m : Marks) (s at count k : ℕ) (old : Option ℕ) (slots : Slots) → slot_of (node_at nfa s) ≡ Some k
      → Carries nfa x m (Restore k old ∷ start_tasks s at count) slots m (start_tasks s at count) slots
  unfolding WalkAnswer
  Carries-kept m s at count k old slots own =
      Carries-then (Carries-restore nfa x m (start_tasks s at count) slots k old) (record {
        grows = omega arith;
        back = λ left more g e h pairs agrees.
            let same : more ≡ left = omega arith in
            rw same (Answer-over left pairs s at count k own slots old g (h pairs agrees));
      })

module _ {nfa : Automaton} {x : Search} where
  -- the start is marked already
  pub StartFails-marked : {s at : ℕ} {m n : Marks} (slots : Slots) → WasMarked nfa x (s, at) m n
      → StartFails nfa x (s, at) (record { stack = []; marks = m; slots = slots })
      (record { stack = []; marks = n; slots = slots })
  StartFails-marked {s} slots seen = record {
    empty = refl;
    follows = λ at count. Carries-marked seen (start_tasks s at count) slots;
    spent = rw seen.same (omega (arith, seen.counted));
  }

  -- the turn at a Capture
  spent : {s at next slot : ℕ} {m n : Marks} → Taken nfa x (s, at) m n
      → slice_get nfa.states s ≡ Some (Capture next slot)
      → n.turns + marked_sum (weights nfa x) m.bits ≤ m.turns + marked_sum (weights nfa x) n.bits
  spent {next = next} {slot} t is = omega (arith, t.counted, marked_sum-taken t (Capture next slot) is)

  module _ {place : StatePos} (p : IsStatePos nfa x place) {a : Walk} where
    -- no turn is taken at most states
    pub BeginsAt-none : BeginsAt nfa x (pair_of place) place a a
    BeginsAt-none = record {
      is_place = p;
      restores = [];
      follows = λ work. Carries-none nfa x a.marks (Explore (pair_of place) ∷ work) a.slots;
      needless = λ m slots at count. Carries-none nfa x m (start_tasks place.sid at count) slots;
      spent = omega arith;
    }

    -- a Capture writes its slot, or has no slot
    module _ {n : Marks} (t : Taken nfa x (pair_of place) a.marks n) {next slot : ℕ}
        (is : slice_get nfa.states place.sid ≡ Some (Capture next slot)) (below : next < length nfa.states) where
      pub BeginsAt-write : BeginsAt nfa x (pair_of place) (record place { sid = next }) a
          (record a { marks = n; slots = set a.slots slot (Some place.at) })
      BeginsAt-write = record {
        is_place = record { state = below; from = p.from; to = p.to; row = p.row };
        restores = Restore slot (get_or a.slots slot None) ∷ [];
        follows = λ work. Carries-write t work a.slots next slot is;
        needless = λ m slots at count.
            Carries-kept nfa x m place.sid at count slot (get_or a.slots slot None) slots
            (rw (node_at-get nfa place.sid (Capture next slot) is) refl);
        spent = spent t is;
      }

      pub BeginsAt-unkept : length a.slots ≤ slot
          → BeginsAt nfa x (pair_of place) (record place { sid = next }) a (record a { marks = n })
      BeginsAt-unkept past = record {
        is_place = record { state = below; from = p.from; to = p.to; row = p.row };
        restores = [];
        follows = λ work. Carries-unkept t work a.slots next slot is past;
        needless = λ m slots at count. Carries-none nfa x m (start_tasks place.sid at count) slots;
        spent = spent t is;
      }
