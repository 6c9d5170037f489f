-- The steps of a walk, one for each kind of state.
use Rattle.std.proofs.lemmas.Nat.{same_from_place}
use Rattle.thompson_nfa.specs.Automaton.Node.{Match}
use Rattle.nfa_paths.proofs.SearchLemmas.{Answer-more, Answer-none, Answer-restore, Answer-marked, Answer-target, Answer-plain, Answer-write, Answer-unkept}
use Rattle.nfa_paths.proofs.TurnLemmas.{marked_sum-set, sum-repeated, get_or-repeated}
use Rattle.nfa_scan_core.specs.Marks.{Marks}
use Rattle.nfa_backtrack.specs.Walk.{bit_of, IsMarked, Agrees, weights, Walk, WalkAnswer, Carries, Ends, EndsAt, Taken, WasMarked}
use Rattle.nfa_paths.proofs.StartLemmas.{node_at-get}
use Rattle.nfa_paths.proofs.Common.{ℕ_discrete, ◌≡◌, ℕ, suc, ◌+◌, ◌-◌, ◌*◌, ◌<◌, ◌≤◌, ◌⊎◌, ◌↔◌, List, [], ◌∷◌, ◌++◌, length, rules, get_or, set, map, replicate, refl, arith, Option, Some, None, false, Bool, sum, slice_get, slice_get-map, get_or_from_slice_get, length-map, sum-map, Search, Automaton, Node, Path, Pair, In, Space, span_len, degree, pattern_of, slot_of, edges_of, is_match, space, total_degree, Task, Slots, Hit, ExploresTo, HalfFound, Capture, stop, go, Explore, Restore, marked_sum}
use Rattle.nfa_scan_core.proofs.TargetLemmas.{none-set}

-- no path leads on from a pair without edges
pub no_path : (edges : Pair → List Pair) (target : Pair → Bool) {v : Pair} {p : List Pair} → target v ≡ false
    → edges v ≡ [] → Path edges target v p → ⊥
no_path edges target plain none (stop t) = cc (t, plain)
no_path edges target plain none (go f i n q) = rw none at i

-- a pair that leads nowhere is dropped
Answer-dead : (space : Space) (target : Pair → Bool) (left : ℕ) (otherwise : Hit) (marks : List Pair) (v : Pair)
    (rest : List Task) (slots : Slots) (g : Hit) → target v ≡ false → space.edges v ≡ []
    → ExploresTo space target left otherwise marks rest slots g
    → ExploresTo space target (suc left) otherwise marks (Explore v ∷ rest) slots g
unfolding ExploresTo
Answer-dead space target left otherwise marks v rest slots g plain none h = grind (arith, Answer-more)

module _ (nfa : Automaton) (x : Search) where
  -- all of them together
  pub sum-weights : sum (weights nfa x) ≡ (span_len x + 1) * total_degree nfa
  unfolding weights
  sum-weights = grind (arith, sum-map, sum-repeated)

  -- no pair is marked in a table of clear bits
  pub IsMarked-clear : (n : ℕ) (v : Pair) → IsMarked nfa x (replicate n false) v → ⊥
  IsMarked-clear n v s = none-set n (bit_of nfa x v) s.set

  -- no step
  pub Carries-none : (m : Marks) (w : List Task) (s : Slots) → Carries nfa x m w s m w s
  Carries-none m w s = grind arith

  -- a slot has its old value again
  pub Carries-restore : (m : Marks) (w : List Task) (s : Slots) (k : ℕ) (old : Option ℕ)
      → Carries nfa x m (Restore k old ∷ w) s m w (set s k old)
  unfolding WalkAnswer
  Carries-restore m w s k old = grind (arith, Answer-restore)

  -- nothing is left
  pub Ends-none : (m : Marks) (s : Slots) → Ends nfa x m [] s None m.turns
  unfolding WalkAnswer
  Ends-none m s = grind (arith, Answer-none)

-- a turn at the pair
module _ {nfa : Automaton} {x : Search} {s at : ℕ} {marks after : Marks} where
  -- that finds it marked
  pub Carries-marked : WasMarked nfa x (s, at) marks after → (rest : List Task) (slots : Slots)
      → Carries nfa x marks (Explore (s, at) ∷ rest) slots after rest slots
  unfolding WalkAnswer
  Carries-marked seen rest slots = record {
    grows = omega (arith, seen.counted);
    back = λ left more g e a pairs agrees.
        let one : more ≡ suc left = omega (arith, seen.counted) in
        let set = seen.marked_before in
        let same = seen.same in
        grind (arith, Answer-marked);
  }

  -- that marks nothing, since the pair leads nowhere
  pub Carries-dead : after.turns ≡ marks.turns + 1 → after.bits ≡ marks.bits → (node : Node)
      → slice_get nfa.states s ≡ Some node → pattern_of node ≡ None → edges_of x node at ≡ [] → (rest : List Task)
      (slots : Slots) → Carries nfa x marks (Explore (s, at) ∷ rest) slots after rest slots
  unfolding WalkAnswer
  Carries-dead counted same node is plain leads rest slots = record {
    grows = omega arith;
    back = λ left more g e a pairs agrees.
        let one : more ≡ suc left = omega arith in
        search (rules, Answer-dead, node_at-get);
  }

  module _ (t : Taken nfa x (s, at) marks after) where
    -- that marks it: this adds its state's degree
    pub marked_sum-taken : (node : Node) → slice_get nfa.states s ≡ Some node
        → marked_sum (weights nfa x) after.bits ≡ marked_sum (weights nfa x) marks.bits + degree node
    unfolding weights
    marked_sum-taken node is =
        let here : at - x.start < span_len x + 1 = omega (arith, t.from, t.to) in
        let one = get_or-repeated (span_len x + 1) (map degree nfa.states) (at - x.start) s 0 here
        (rw length-map t.state) in
        let w : get_or (map degree nfa.states) s 0
        ≡ degree node = get_or_from_slice_get (map degree nfa.states) s (degree node) 0
        (rw (slice_get-map degree nfa.states s, is) refl) in
        grind (arith, length-map, marked_sum-set)

    -- it marks no other pair
    IsMarked-taken : (v : Pair) → IsMarked nfa x after.bits v ↔ ((v ≡ (s, at)) ⊎ IsMarked nfa x marks.bits v)
    IsMarked-taken v =
        let state = t.state in
        let from = t.from in
        let inside = t.inside in
        rw t.set (
          λ m.
              elim (ℕ_discrete (bit_of nfa x v) (bit_of nfa x (s, at))) [
                | yes e ↦
                    let both = same_from_place (v.1 - x.start) v.0 (at - x.start) s (length nfa.states) m.state state
                    e in
                    grind arith
                | no n ↦ search rules
              ],
          search rules,
        )

    free : (pairs : List Pair) → Agrees nfa x marks.bits pairs → ¬ (In (s, at) pairs)
    free pairs agrees i = search rules

    grown : (pairs : List Pair) → Agrees nfa x marks.bits pairs → Agrees nfa x after.bits ((s, at) ∷ pairs)
    grown pairs agrees v = grind (arith, IsMarked-taken)

    module _ (rest : List Task) (slots : Slots) where
      Carries-taken : (work : List Task) (written : Slots)
          → ((left : ℕ) (pairs : List Pair) (g : Hit) → ¬ (In (s, at) pairs)
          → ExploresTo (space nfa x) (is_match nfa) left None ((s, at) ∷ pairs) work written g
          → ExploresTo (space nfa x) (is_match nfa) (suc left) None pairs (Explore (s, at) ∷ rest) slots g)
          → Carries nfa x marks (Explore (s, at) ∷ rest) slots after work written
      unfolding WalkAnswer
      Carries-taken work written step = record {
        grows = omega (arith, t.counted);
        back = λ left more g e a pairs agrees.
            let one : more ≡ suc left = omega (arith, t.counted) in
            rw one (step left pairs g (free pairs agrees) (a ((s, at) ∷ pairs) (grown pairs agrees)));
      }

      -- a match ends the search
      pub Ends-match : (pattern : ℕ) → slice_get nfa.states s ≡ Some (Match pattern)
          → Ends nfa x marks (Explore (s, at) ∷ rest) slots (Some ((s, at), slots)) after.turns
      unfolding WalkAnswer
      Ends-match pattern is = record {
        grows = omega (arith, t.counted);
        answer = λ left e pairs agrees.
            let one : left ≡ suc 0 = omega (arith, t.counted) in
            search (rules, Answer-target, node_at-get);
      }

      -- a state that writes nothing gives way to its edges
      pub Carries-plain : (node : Node) → slice_get nfa.states s ≡ Some node → pattern_of node ≡ None
          → slot_of node ≡ None
          → Carries nfa x marks (Explore (s, at) ∷ rest) slots after (map Explore (edges_of x node at) ++ rest) slots
      Carries-plain node is plain writes =
          let n = node_at-get nfa s node is in
          Carries-taken (map Explore (edges_of x node at) ++ rest) slots (grind (arith, Answer-plain))

      -- a Capture writes its slot, which is restored below its edge; or has no slot
      module _ (next slot : ℕ) (is : slice_get nfa.states s ≡ Some (Capture next slot)) where
        pub Carries-write : Carries nfa x marks (Explore (s, at) ∷ rest) slots after
            (Explore (next, at) ∷ Restore slot (get_or slots slot None) ∷ rest) (set slots slot (Some at))
        unfolding edges_of
        Carries-write =
            let n = node_at-get nfa s (Capture next slot) is in
            Carries-taken (Explore (next, at) ∷ Restore slot (get_or slots slot None) ∷ rest)
            (set slots slot (Some at))
            (λ left pairs g f. Answer-write (space nfa x) (is_match nfa) left None pairs (s, at) rest slots
            g f (rw n refl) ((next, at) ∷ []) (rw n refl) slot (rw n refl))

        pub Carries-unkept : length slots ≤ slot
            → Carries nfa x marks (Explore (s, at) ∷ rest) slots after (Explore (next, at) ∷ rest) slots
        unfolding edges_of
        Carries-unkept past =
            let n = node_at-get nfa s (Capture next slot) is in
            Carries-taken (Explore (next, at) ∷ rest) slots
            (λ left pairs g f. Answer-unkept (space nfa x) (is_match nfa) left None pairs (s, at) rest slots
            g f (rw n refl) ((next, at) ∷ []) (rw n refl) slot (rw n refl) past)

module _ {nfa : Automaton} {x : Search} where
  -- steps one after another
  module _ {m : Marks} {w : List Task} {s : Slots} where
    module _ {n : Marks} {y : List Task} {t : Slots} (f : Carries nfa x m w s n y t) where
      pub Carries-then : {o : Marks} {z : List Task} {u : Slots} → Carries nfa x n y t o z u → Carries nfa x m w s o z u
      Carries-then {o = o} k = let p = f.grows in let q = k.grows in record {
        grows = omega arith;
        back = λ left more g e h.
            f.back (left + (o.turns - n.turns)) more g (omega arith)
            (k.back left (left + (o.turns - n.turns)) g (omega arith) h);
      }

      pub Carries-ends : {g : Hit} {turns : ℕ} → Ends nfa x n y t g turns → Ends nfa x m w s g turns
      Carries-ends {g} {turns} e = let p = f.grows in let q = e.grows in record {
        grows = omega arith;
        answer = λ left k. f.back (turns - n.turns) left g (omega arith) (e.answer (turns - n.turns) (omega arith));
      }

  -- steps before the end
  pub EndsAt-along : {half : HalfFound} {a b c : Walk} {w y : List Task}
      → Carries nfa x a.marks w a.slots b.marks y b.slots → EndsAt nfa x half b y c → EndsAt nfa x half a w c
  EndsAt-along f e = record { state = e.state; matches = e.matches; ends = Carries-ends f e.ends }
