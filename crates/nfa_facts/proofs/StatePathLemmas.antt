-- Ways, the places that they lead to, what a place says about the two slots, and the table of those that were reached.
use Rattle.nfa_paths.proofs.Common.{ℕ_discrete, ◌≡◌, ℕ, ◌+◌, ◌*◌, ◌==◌, List, [], ◌∷◌, ◌++◌, sym, arith, Option, Some, None, false, if◌then◌else◌, option_or, option_map_or, Automaton, Node, Pair, slot_of, slot_among, Capture, ◌<◌, length, refl, rules, subst, true, ◌&&◌, IsAutomaton, In, HeadIs, Linked, EndsWith, node_at, pattern_of, inl, inr, get_or, set, ap, ◌∙◌, get_or-set_other, length-set, Bool, append_assoc, length-append, sum_by-set}
use Rattle.nfa_paths.specs.StatePaths.{reads, position_after, targets, open_edges, IsStatePath, PatternRecordsMatchSpans, RecordsMatchSpans}
use Rattle.nfa_facts.specs.PathStates.{fresh_path_state, at_state, after_node, Describes, next_places, is_recorded, IsFresh, IsLedTo, IsClosed, path_state_number, IsTable, GainsPathStates}
use Rattle.nfa_facts.specs.declared.match_spans.path_state.PathState.{PathState}
use Rattle.nfa_paths.proofs.MemberLemmas.{option_or-None, option_or-assoc, In-map, In-append, In-append_left, In-append_right, In-mapped}
use Rattle.nfa_paths.proofs.PathToLemmas.{EndsWith-last}
use Rattle.nfa_paths.proofs.PatternLemmas.{node-pattern}

-- the value of the slot after the state, which is at this position
abbrev pub written : Node → ℕ → ℕ → Option ℕ → Option ℕ
written node slot position held =
    option_or (if option_map_or (λ k. k == slot) (slot_of node) false then Some position else None) held

-- the slots of two rows
pub slot_among-append : (nfa : Automaton) (p q : List Pair) (slot : ℕ)
    → slot_among nfa (p ++ q) slot ≡ option_or (slot_among nfa q slot) (slot_among nfa p slot)
slot_among-append nfa [] q slot = sym (option_or-None (slot_among nfa q slot))
slot_among-append nfa (v ∷ p) q slot =
    rw (slot_among-append nfa p q slot) (option_or-assoc (slot_among nfa q slot) (slot_among nfa p slot) _)

-- at the start of a way
pub Describes-fresh : (s position : ℕ) → Describes position position None None (fresh_path_state s)
Describes-fresh s position = grind arith

module _ {start position : ℕ} {start_slot end_slot : Option ℕ} {v : PathState} where
  Describes-captured : (pattern next slot s : ℕ) → Describes start position start_slot end_slot v
      → Describes start position (written (Capture next slot) (2 * pattern) position start_slot)
      (written (Capture next slot) (2 * pattern + 1) position end_slot)
      (at_state (after_node pattern (Capture next slot) v) s)
  unfolding after_node
  Describes-captured pattern next slot s h = grind arith

  -- after the turn of the place's state
  pub Describes-after : (pattern : ℕ) (node : Node) (s : ℕ) → Describes start position start_slot end_slot v
      → Describes start (position_after node position) (written node (2 * pattern) position start_slot)
      (written node (2 * pattern + 1) position end_slot) (at_state (after_node pattern node v) s)
  unfolding after_node reads
  Describes-after = grind (arith, Describes-captured)

HeadIs-append : (s : Pair) (p q : List Pair) → HeadIs s p → HeadIs s (p ++ q)
HeadIs-append = grind arith

EndsWith-append : (m : Pair) (p : List Pair) → EndsWith m (p ++ m ∷ [])
EndsWith-append m [] = refl
EndsWith-append m (x ∷ p) = grind (arith, EndsWith-append m p)

Linked-more : (edges : Pair → List Pair) (p : List Pair) (x y : Pair) → Linked edges (p ++ x ∷ []) → In y (edges x)
    → Linked edges ((p ++ x ∷ []) ++ y ∷ [])
Linked-more edges [] x y l i = (i, tt)
Linked-more edges (v ∷ []) x y l i = (l.0, (i, tt))
Linked-more edges (v ∷ (w ∷ p)) x y l i = (l.0, Linked-more edges (w ∷ p) x y l.1 i)

module _ (nfa : Automaton) (pattern : ℕ) where
  -- a way leads to each state that searches start with
  pub IsLedTo-fresh : (v : PathState) → IsFresh nfa v → IsLedTo nfa pattern v
  IsLedTo-fresh v f = record {
    start = (v.state, 0);
    starts = f.0;
    before = [];
    position = 0;
    head = refl;
    linked = tt;
    done = subst (Describes 0 0 None None) (sym f.1) (Describes-fresh v.state 0);
  }

  -- and from a place on to what follows
  pub IsLedTo-next : (v w : PathState) → IsLedTo nfa pattern v → In w (next_places nfa pattern v)
      → IsLedTo nfa pattern w
  IsLedTo-next v w led i =
      (grind (arith, In-mapped, onward))
    where
      slots : (slot : ℕ) → slot_among nfa (led.before ++ (v.state, led.position) ∷ []) slot
          ≡ written (node_at nfa v.state) slot led.position (slot_among nfa led.before slot)
      slots slot = slot_among-append nfa led.before ((v.state, led.position) ∷ []) slot

      onward : (s : ℕ) → In s (targets (node_at nfa v.state))
          → IsLedTo nfa pattern (at_state (after_node pattern (node_at nfa v.state) v) s)
      onward s j = record {
        start = led.start;
        starts = led.starts;
        before = led.before ++ (v.state, led.position) ∷ [];
        position = position_after (node_at nfa v.state) led.position;
        head = HeadIs-append led.start (led.before ++ (v.state, led.position) ∷ []) _ led.head;
        linked = Linked-more (open_edges nfa) led.before (v.state, led.position)
            (s, position_after (node_at nfa v.state) led.position) led.linked
            (In-map (λ t. (t, position_after (node_at nfa v.state) led.position)) s (targets (node_at nfa v.state)) j);
        done = search (rules, Describes-after, slots);
      }

  -- if a way leads to a Match that lacks a bound, not each way writes its bounds
  pub unrecorded : (v : PathState) → IsLedTo nfa pattern v → pattern_of (node_at nfa v.state) ≡ Some pattern
      → is_recorded v ≡ false → PatternRecordsMatchSpans nfa pattern → ⊥
  unrecorded v led matches lacks all =
      let end : Pair = (v.state, led.position) in
      let p = led.before ++ end ∷ [] in
      let ends = EndsWith-append end led.before in
      let way : IsStatePath nfa end p = grind arith in
      let writes = all end p way matches in
      (grind (arith, EndsWith-last, both, slots))
    where
      slots : (slot : ℕ) → slot_among nfa (led.before ++ (v.state, led.position) ∷ []) slot
          ≡ slot_among nfa led.before slot
      slots slot = grind (arith, slot_among-append)

      both : v.start_written ≡ true → v.end_written ≡ true → ⊥
      both s e = let b : v.start_written && v.end_written ≡ true = rw (s, e) refl in cc (b, lacks)

  module _ (places : List PathState) (closed : IsClosed nfa pattern places places) where
    -- From a place that was reached on, each way to a Match writes its bounds.
    onward-writes : (rest : List Pair) (v : PathState) (start position : ℕ) (start_slot end_slot : Option ℕ) (m : Pair)
        → In v places → Describes start position start_slot end_slot v
        → Linked (open_edges nfa) ((v.state, position) ∷ rest) → EndsWith m ((v.state, position) ∷ rest)
        → pattern_of (node_at nfa m.0) ≡ Some pattern
        → (option_or (slot_among nfa ((v.state, position) ∷ rest) (2 * pattern)) start_slot ≡ Some start)
        × (option_or (slot_among nfa ((v.state, position) ∷ rest) (2 * pattern + 1)) end_slot ≡ Some m.1)
    onward-writes [] v start position start_slot end_slot m i h linked ends matches = grind arith
    onward-writes (y ∷ rest) v start position start_slot end_slot m i h linked ends matches =
        let node = node_at nfa v.state in
        let of = In-mapped (λ s. (s, position_after node position)) y (targets node) linked.0 in
        let s = of.0 in
        let w = at_state (after_node pattern node v) s in
        let there : In w places =
        closed.covers v i w (In-map (at_state (after_node pattern node v)) s (targets node) of.1) in
        let later = onward-writes rest w start (position_after node position)
        (written node (2 * pattern) position start_slot) (written node (2 * pattern + 1) position end_slot) m there
        (Describes-after pattern node s h) in
        grind (arith, option_or-assoc, written, later)

    -- so each way does
    pub closed-records : PatternRecordsMatchSpans nfa pattern
    closed-records end [] way matches = absurd way.head
    closed-records end (x ∷ rest) way matches =
        let s = way.start in
        let linked : Linked (open_edges nfa) ((s.0, s.1) ∷ rest) =
        subst (λ (z : Pair). Linked (open_edges nfa) (z ∷ rest)) way.head way.linked in
        let ends : EndsWith end ((s.0, s.1) ∷ rest) =
        subst (λ (z : Pair). EndsWith end (z ∷ rest)) way.head way.ends in
        let both = onward-writes rest (fresh_path_state s.0) s.1 s.1 None None end (closed.starts s.0 way.starts)
        (Describes-fresh s.0 s.1) linked ends matches in
        grind (arith, EndsWith-last, option_or-None)

-- what holds of all patterns holds of all ways
pub RecordsMatchSpans-each : (nfa : Automaton) → IsAutomaton nfa
    → ((k : ℕ) → k < length nfa.patterns → PatternRecordsMatchSpans nfa k) → RecordsMatchSpans nfa
RecordsMatchSpans-each nfa valid each end p way matches = search (rules, node-pattern)

-- a place that was not marked is marked, and listed
pub IsTable-more : (marks : List Bool) (places : List PathState) (v : PathState) → path_state_number v < length marks
    → get_or marks (path_state_number v) false ≡ false → IsTable marks places
    → IsTable (set marks (path_state_number v) true) (places ++ v ∷ [])
IsTable-more marks places v inside clear table =
    grind (arith, In-append_left, In-append_right, get_or-set_other, length-append, length-set, sum_by-set, ℕ_discrete)

-- places that were added

pub GainsPathStates-one : (old : List PathState) (v : PathState) → GainsPathStates old (old ++ v ∷ []) (v ∷ [])
GainsPathStates-one old v = grind (arith, In-append_right)

-- some, and then more
pub GainsPathStates-then : {a b c ws us : List PathState} → GainsPathStates a b ws → GainsPathStates b c us
    → GainsPathStates a c (ws ++ us)
GainsPathStates-then {a = a} {b = b} {c = c} {ws = ws} {us = us} f g = record {
  more = f.more ++ g.more;
  kept = g.kept ∙ ap (λ l. l ++ g.more) f.kept ∙ append_assoc a f.more g.more;
  only = λ v i.
      elim (In-append v f.more g.more i) [
        | inl j ↦ In-append_left v ws us (f.only v j)
        | inr j ↦ In-append_right v ws us (g.only v j)
      ];
  all = λ v i.
      elim (In-append v ws us i) [
        | inl j ↦ rw g.kept (In-append_left v b g.more (f.all v j))
        | inr j ↦ g.all v j
      ];
}
