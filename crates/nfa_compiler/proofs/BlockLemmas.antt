-- From each pair of a pattern's states the first accepting path is what the pattern's own NFA does from there, and the
-- writes of the path give its slots.
use Rattle.regex_nfa.specs.States.{covers, target_in, next_on, byte_below, visit, read}
use Rattle.regex_nfa.specs.Run.{state_of, measure, run}
use Rattle.regex_nfa.proofs.RunLemmas.{sound_of, run_at, next_on_within, byte_below_some, measure_induction, measure_falls_empty, measure_falls_byte}
use Rattle.regex_nfa.specs.declared.state.Transition as their_transition
use Rattle.regex_nfa.specs.declared.state.State as their_state
use Rattle.regex_nfa.specs.declared.state.State.TheVariants as their
use Rattle.regex_nfa.specs.declared.nfa.Nfa.{Nfa}
use Rattle.thompson_nfa.specs.Automaton.Node.{Match}
use Rattle.nfa_paths.proofs.PathLemmas.{IsFirst-target, IsFirst-step}
use Rattle.nfa_compiler.specs.declared.block.Site.{Site}
use Rattle.nfa_compiler.proofs.EachLemmas.{Both, both-or}
use Rattle.nfa_compiler.proofs.LookLemmas.{look-same}
use Rattle.nfa_paths.proofs.PathToLemmas.{EndsWith-cons}
use Rattle.nfa_paths.proofs.Common.{get_or-map-range_with_len, length-map-range_with_len, ◌≡◌, ℕ, ◌<◌, false, List, [], ◌∷◌, ◌++◌, length, map, refl, ap, sym, ◌∙◌, arith, Option, None, Some, if◌then◌else◌, ◌==◌, range_with_len, option_or, slice_get-get_or, Automaton, Pair, capture, offset_at, slot_among, suc, ◌+◌, ◌≤◌, Bool, true, subst, is_some, All, slice_range, option_map, option_and_then, option_to_list, number_of, Search, Node, In, EndsWith, IsFirst, FirstAmong, pattern_of, slot_of, node_at, is_match, edges_of, edges, byte_at, target_on, first_target, Look, Fail}
use Rattle.nfa_paths.proofs.MemberLemmas.{option_or-None, option_or-assoc}
use Rattle.nfa_compiler.specs.Common.{last_write, Trace, Rest, write, holds, look_of, match_at, slot_in, moved, node_for, Stands, IsBlock}

-- the last write of two lists in turn
pub last_write-append : (ws vs : List (ℕ × ℕ)) (slot : ℕ)
    → last_write (ws ++ vs) slot ≡ option_or (last_write vs slot) (last_write ws slot)
last_write-append [] vs slot = sym (option_or-None (last_write vs slot))
last_write-append (w ∷ ws) vs slot =
    ap (λ o. option_or o (if w.0 == slot then Some w.1 else None)) (last_write-append ws vs slot)
    ∙ option_or-assoc (last_write vs slot) (last_write ws slot) (if w.0 == slot then Some w.1 else None)

-- a row of slots at one of them
pub offset-at : (f : ℕ → Option ℕ) (count slot : ℕ) → slot < count
    → offset_at (map f (range_with_len 0 count)) slot ≡ f slot
offset-at f count slot less =
    let long : slot < length (map f (range_with_len 0 count)) = omega (arith, length-map-range_with_len f 0 count) in
    rw (slice_get-get_or (map f (range_with_len 0 count)) slot None long)
    (get_or-map-range_with_len f 0 count slot slot None less (omega arith))

-- the node for a state is no Match
pub node-plain : (ts : List their_transition.Transition) (s : Site) (state : their_state.State)
    → is_some (pattern_of (node_for ts s state)) ≡ false
node-plain ts s their.Match = refl
node-plain ts s _ = refl

-- trying in turn

module _ (edges : Pair → List Pair) (target : Pair → Bool) (marks : List Pair) where
  -- the first of a list that has a path
  pub among-cons : (w : Pair) (ws : List Pair) (r s : Option (List Pair)) → IsFirst edges target marks w r
      → FirstAmong edges target marks ws s → FirstAmong edges target marks (w ∷ ws) (option_or r s)
  among-cons w ws r s h k = grind arith

  -- of a list of one
  pub among-one : (w : Pair) (r : Option (List Pair)) → IsFirst edges target marks w r
      → FirstAmong edges target marks (w ∷ []) r
  among-one w r h = grind arith

-- bytes

-- a moved transition holds the same bytes
first-moved : (s : Site) (ts : List their_transition.Transition) (b : ℕ)
    → first_target (map (moved s) ts) b ≡ option_map (λ r. s.base + r) (target_in ts b)
first-moved s [] b = refl
first-moved s (t ∷ ts) b = grind (arith, first-moved s ts b)

-- and its target is within
first-within : (n : ℕ) (ts : List their_transition.Transition) (b r : ℕ) → All (λ t. t.next < n) ts
    → target_in ts b ≡ Some r → r < n
first-within n [] b r all e = cc
first-within n (t ∷ ts) b r all e =
    let here : t.next < n = all 0 t (omega arith) in
    grind (arith, first-within n ts b r (λ i d h. all (suc i) d (omega arith)))

-- what a path says of a trace

-- all of these are to slots of explicit groups
abbrev pub AreExplicit : List (ℕ × ℕ) → Type 0
AreExplicit [] = Unit {0}
AreExplicit (w ∷ ws) = (2 ≤ w.0) × AreExplicit ws

module _ (a : Automaton) (s : Site) where
  -- the path ends with the pattern's Match at the end of the trace, and its slots have what the trace and then the end
  -- write
  pub record Told (t : Trace) (p : List Pair) : Type 0 where
    pub ends : EndsWith (match_at s, t.end) p
    pub writes : (slot : ℕ) → slot_among a p slot
        ≡ last_write (map (λ w. (slot_in s w.0, w.1)) t.writes ++ (slot_in s 1, t.end) ∷ []) slot
    pub explicit : AreExplicit t.writes

  -- both are none, or the path follows the trace
  abbrev pub Tells : Option Trace → Option (List Pair) → Type 0
  Tells = Both Told

  -- one more pair in front, which writes nothing
  Tells-cons : (v : Pair) (o : Option Trace) (r : Option (List Pair)) → capture a v ≡ None → Tells o r
      → Tells o (option_map (λ p. v ∷ p) r)
  Tells-cons v o r none h = grind (arith, EndsWith-cons, option_or-None)

  -- or a slot of the pattern
  Tells-write : (v : Pair) (slot : ℕ) (o : Option Trace) (r : Option (List Pair))
      → capture a v ≡ Some (slot_in s slot) → 2 ≤ slot → Tells o r
      → Tells (write slot v.1 o) (option_map (λ p. v ∷ p) r)
  Tells-write v slot o r is two h = grind (arith, EndsWith-cons)

-- the walk

module _ (a : Automaton) (x : Search) (nfa : Nfa) (s : Site) (block : IsBlock a.states nfa s)
    (inside : x.end ≤ length x.haystack) where
  abbrev go : ℕ → Rest
  go = run nfa x.haystack x.end

  abbrev left : ℕ → ℕ → ℕ
  left q i = measure nfa x.haystack x.end q i

  -- the first that is found from these in turn, and their pairs in the NFA of all
  abbrev first_of : List (ℕ × ℕ) → Option Trace
  first_of [] = None
  first_of (n ∷ ns) = option_or (go n.0 n.1) (first_of ns)

  abbrev placed : List (ℕ × ℕ) → List Pair
  placed ns = map (λ n. (s.base + n.0, n.1)) ns

  -- no mark is a pair that a walk from below n may reach
  pub record IsClear (marks : List Pair) (n : ℕ) : Type 0 where
    pub states : (r j : ℕ) → r < s.size → left r j < n → In (s.base + r, j) marks → ⊥
    pub match : (j : ℕ) → In (match_at s, j) marks → ⊥

  -- from this pair the first path is what the pattern's NFA does
  abbrev Walks : ℕ → ℕ → Type 0
  Walks q i = (r : Option (List Pair)) × Tells a s (go q i) r
      × ((marks : List Pair) → IsClear marks (suc (left q i))
      → IsFirst (edges a x) (is_match a) marks (s.base + q, i) r)

  -- marking the pair itself leaves clear what is below it
  clear-less : (marks : List Pair) (q i r j : ℕ) → q < s.size → left r j < left q i → IsClear marks (suc (left q i))
      → IsClear ((s.base + q, i) ∷ marks) (suc (left r j))
  clear-less marks q i r j is less clear = grind arith

  free : (marks : List Pair) (q i : ℕ) → q < s.size → IsClear marks (suc (left q i)) → In (s.base + q, i) marks → ⊥
  free marks q i is clear = clear.states q i is (omega arith)

  abbrev leads : ℕ → ℕ → List Pair
  leads q i = edges a x (s.base + q, i)

  -- the state at this place
  here : (q : ℕ) → q < s.size → (state : their_state.State) → state_of nfa q ≡ state
      → Stands nfa.transitions.items s state (node_at a (s.base + q))
  unfolding node_at
  here q below state is = grind arith

  -- and the Match after the states
  match_here : node_at a (match_at s) ≡ Match (number_of s.pattern)
  unfolding node_at
  match_here = block.match

  module _ (q i : ℕ) (below : q < s.size) (within : i ≤ x.end) where
    abbrev v : Pair
    v = (s.base + q, i)

    -- the walks from what is below this pair
    abbrev Below : Type 0
    Below = (r j : ℕ) → left r j < left q i → r < s.size → j ≤ x.end → Walks r j

    -- these are pairs of the pattern's states, from which less is left
    abbrev AreBelow : List (ℕ × ℕ) → Type 0
    AreBelow [] = Unit {0}
    AreBelow (n ∷ ns) = (n.0 < s.size) × (n.1 ≤ x.end) × (left n.0 n.1 < left q i) × AreBelow ns

    -- the walks from them in turn
    walk-among : Below → (ns : List (ℕ × ℕ)) → AreBelow ns → (r : Option (List Pair)) × Tells a s (first_of ns) r
        × ((marks : List Pair) → IsClear marks (suc (left q i))
        → FirstAmong (edges a x) (is_match a) (v ∷ marks) (placed ns) r)
    walk-among under [] low = (None, tt, λ marks clear. refl)
    walk-among under (n ∷ ns) low =
        let w = under n.0 n.1 low.2 low.0 low.1 in
        let rest = walk-among under ns low.3 in (
          option_or w.0 rest.0,
          both-or (Told a s) (go n.0 n.1) (first_of ns) w.0 rest.0 w.1 rest.1,
          λ marks clear. among-cons (edges a x) (is_match a) (v ∷ marks) (s.base + n.0, n.1) (placed ns) w.0 rest.0
              (w.2 (v ∷ marks) (clear-less marks q i n.0 n.1 below low.2 clear)) (rest.2 marks clear),
        )

    module _ (under : Below) (state : their_state.State) (is : state_of nfa q ≡ state)
        (stands : Stands nfa.transitions.items s state (node_at a (s.base + q))) where
      abbrev n : Node
      n = node_for nfa.transitions.items s state

      gives : go q i ≡ visit nfa.transitions.items x.haystack x.end go state i
      gives = run_at nfa x.haystack x.end q i state is

      plain : is_match a v ≡ false
      plain = ap (λ k. is_some (pattern_of k)) stands.1 ∙ node-plain nfa.transitions.items s state

      -- the walk that goes on with one of these
      walk-on : (ns : List (ℕ × ℕ)) → AreBelow ns → edges_of x n i ≡ placed ns
          → ((r : Option (List Pair)) → Tells a s (first_of ns) r
          → Tells a s (visit nfa.transitions.items x.haystack x.end go state i) (option_map (λ p. v ∷ p) r))
          → Walks q i
      walk-on ns low leads tells =
          let w = walk-among under ns low in (
            option_map (λ p. v ∷ p) w.0,
            subst (λ o. Tells a s o (option_map (λ p. v ∷ p) w.0)) (sym gives) (tells w.0 w.1),
            λ marks clear. IsFirst-step (edges a x) (is_match a) marks v (free marks q i below clear) plain w.0
                (subst (λ es. FirstAmong (edges a x) (is_match a) (v ∷ marks) es w.0)
                (sym (ap (λ k. edges_of x k i) stands.1 ∙ leads)) (w.2 marks clear)),
          )

      -- and writes nothing
      walk-plain : (ns : List (ℕ × ℕ)) → AreBelow ns → slot_of n ≡ None → edges_of x n i ≡ placed ns
          → visit nfa.transitions.items x.haystack x.end go state i ≡ first_of ns → Walks q i
      walk-plain ns low none leads same = grind (arith, walk-on, Tells-cons)

      -- what is known of a state that reads a byte
      record Reads : Type 0 where
        visits : visit nfa.transitions.items x.haystack x.end go state i
            ≡ read nfa.transitions.items x.haystack x.end go state i
        leads_on : edges_of x n i
            ≡ option_to_list (option_and_then (λ b. option_map (λ next. (next, i + 1)) (target_on n b)) (byte_at x i))
        targets : (b : ℕ) → target_on n b ≡ option_map (λ r. s.base + r) (next_on nfa.transitions.items state b)
        small : (b r : ℕ) → next_on nfa.transitions.items state b ≡ Some r → r < s.size
        writes_nothing : slot_of n ≡ None

      walk-read : Reads → Walks q i
      unfolding byte_below
      walk-read reads = by_byte (byte_below x.haystack x.end i) refl
        where
          by_target : (b : ℕ) → byte_below x.haystack x.end i ≡ Some b → (o : Option ℕ)
              → next_on nfa.transitions.items state b ≡ o → Walks q i
          by_target b byte None next =
              walk-plain [] tt reads.writes_nothing (reads.leads_on ∙ rw (byte, reads.targets b, next) refl)
              (reads.visits ∙ rw (byte, next) refl)
          by_target b byte (Some r) next =
              let inner = byte_below_some x.haystack x.end i b byte in
              let bound = next_on_within nfa q b r (ap (λ st. next_on nfa.transitions.items st b) is ∙ next) in
              let less : left r (i + 1) < left q i = measure_falls_byte nfa x.haystack x.end r q i inner.0 bound in
              walk-plain ((r, i + 1) ∷ [])
              (reads.small b r next, omega (arith, inner.0), less, tt)
              reads.writes_nothing (reads.leads_on ∙ rw (byte, reads.targets b, next) refl)
              (reads.visits ∙ rw (byte, next) (sym (option_or-None (go r (i + 1)))))

          by_byte : (o : Option ℕ) → byte_below x.haystack x.end i ≡ o → Walks q i
          by_byte None byte =
              walk-plain [] tt reads.writes_nothing (reads.leads_on ∙ rw byte refl) (reads.visits ∙ rw byte refl)
          by_byte (Some b) byte = by_target b byte (next_on nfa.transitions.items state b) refl

    -- the walk from here, by the state at this place
    walk-from : Below → (state : their_state.State) → state_of nfa q ≡ state
        → Stands nfa.transitions.items s state (node_at a (s.base + q)) → Walks q i
    unfolding edges_of next_on
    walk-from under (their.ByteRange t) is stands =
        walk-read under (their.ByteRange t) is stands (record {
          visits = refl;
          leads_on = refl;
          targets = λ b. range-target b (covers t b);
          small = λ b r e. range-small r (covers t b) stands.0 e;
          writes_nothing = refl;
        })
      where
        range-target : (b : ℕ) (hit : Bool) → (if hit then Some (s.base + t.next) else None)
            ≡ option_map (λ r. s.base + r) (if hit then Some t.next else None)
        range-target b hit = grind arith

        range-small : (r : ℕ) (hit : Bool) → t.next < s.size → (if hit then Some t.next else None) ≡ Some r → r < s.size
        range-small r hit small e = grind arith
    walk-from under (their.Sparse from to) is stands =
        walk-read under (their.Sparse from to) is stands (record {
          visits = refl;
          leads_on = refl;
          targets = first-moved s (slice_range nfa.transitions.items from to);
          small = λ b r e. first-within s.size (slice_range nfa.transitions.items from to) b r stands.0 e;
          writes_nothing = refl;
        })
    walk-from under (their.Split first second) is stands =
        let sound = sound_of nfa q (their.Split first second) is in
        let less = measure_falls_empty nfa x.haystack x.end first q i sound.0 in
        let small = measure_falls_empty nfa x.haystack x.end second q i sound.1 in
        walk-plain under (their.Split first second) is stands ((first, i) ∷ (second, i) ∷ [])
        (stands.0.0, within, less, (stands.0.1, within, small, tt)) refl refl
        (ap (option_or (go first i)) (sym (option_or-None (go second i))))
    walk-from under (their.Save slot next) is stands =
        let sound = sound_of nfa q (their.Save slot next) is in
        walk-on under (their.Save slot next) is stands ((next, i) ∷ [])
        (stands.0.1, within, measure_falls_empty nfa x.haystack x.end next q i sound.1, tt) refl
        (λ r t. Tells-write a s v slot (go next i) r (ap slot_of stands.1) stands.0.0
        (subst (λ o. Tells a s o r) (option_or-None (go next i)) t))
    walk-from under (their.Look l next) is stands = by_holds (holds l x.haystack i) refl
      where
        leads : (b : Bool) → holds l x.haystack i ≡ b
            → edges_of x (Look (look_of l) (s.base + next)) i ≡ (if b then (s.base + next, i) ∷ [] else [])
        leads b e = ap (λ c. if c then (s.base + next, i) ∷ [] else []) (look-same l x.haystack i (omega arith) ∙ e)

        by_holds : (b : Bool) → holds l x.haystack i ≡ b → Walks q i
        by_holds false fails =
            walk-plain under (their.Look l next) is stands [] tt refl (leads false fails) (rw fails refl)
        by_holds true ok =
            let less : left next i < left q i =
            measure_falls_empty nfa x.haystack x.end next q i (sound_of nfa q (their.Look l next) is) in
            walk-plain under (their.Look l next) is stands ((next, i) ∷ []) (stands.0, within, less, tt)
            refl (leads true ok) (rw ok (sym (option_or-None (go next i))))
    walk-from under their.Match is stands = (
      Some (v ∷ (match_at s, i) ∷ []),
      subst (λ o. Tells a s o (Some (v ∷ (match_at s, i) ∷ []))) (sym (run_at nfa x.haystack x.end q i their.Match is))
          (record {
            ends = refl;
            writes = λ slot. rw (ap slot_of stands.1, ap slot_of match_here) refl;
            explicit = tt;
          }),
      λ marks clear. IsFirst-step (edges a x) (is_match a) marks v (free marks q i below clear)
          (ap (λ k. is_some (pattern_of k)) stands.1) (Some ((match_at s, i) ∷ []))
          (subst (λ es. FirstAmong (edges a x) (is_match a) (v ∷ marks) es (Some ((match_at s, i) ∷ [])))
          (sym (ap (λ k. edges_of x k i) stands.1))
          (among-one (edges a x) (is_match a) (v ∷ marks) (match_at s, i) (Some ((match_at s, i) ∷ []))
          (IsFirst-target (edges a x) (is_match a) (v ∷ marks) (match_at s, i) (unmarked marks clear)
          (ap (λ k. is_some (pattern_of k)) match_here)))),
    )
      where
        unmarked : (marks : List Pair) → IsClear marks (suc (left q i)) → In (match_at s, i) (v ∷ marks) → ⊥
        unmarked marks clear member = grind (arith, clear.match i)
    walk-from under their.Fail is stands = walk-plain under their.Fail is stands [] tt refl refl refl

  -- from each pair of the pattern's states
  pub walks : (q i : ℕ) → q < s.size → i ≤ x.end → Walks q i
  walks = measure_induction nfa x.haystack x.end (λ q i. q < s.size → i ≤ x.end → Walks q i)
      (λ q i under below within.
      walk-from q i below within under (state_of nfa q) refl (here q below (state_of nfa q) refl))
