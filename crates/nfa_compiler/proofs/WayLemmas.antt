-- Each way of an NFA of patterns writes its start and its end. From the start of a pattern it stays among the states of
-- the pattern, which are before the choice between all.
use Rattle.regex_nfa.specs.States.{state_at}
use Rattle.regex_nfa.specs.declared.state.Transition as their_transition
use Rattle.regex_nfa.specs.declared.state.State as their_state
use Rattle.regex_nfa.specs.declared.state.State.TheVariants as their
use Rattle.regex_nfa.specs.declared.nfa.Nfa.{Nfa}
use Rattle.thompson_nfa.specs.Automaton.Node.{Match}
use Rattle.nfa_paths.proofs.PathToLemmas.{EndsWith-last}
use Rattle.nfa_paths.specs.StatePaths.{targets, reads, position_after, open_edges, RecordsMatchSpans}
use Rattle.nfa_compiler.specs.declared.block.Site.{Site}
use Rattle.nfa_compiler.proofs.BlockLemmas.{node-plain}
use Rattle.nfa_paths.specs.Starts.{alternates_of, started_at, StartsMatchTheirPatterns, TriesPatternsInOrder}
use Rattle.nfa_paths.proofs.OpenPathLemmas.{linked-open, pattern-alone}
use Rattle.nfa_paths.proofs.MemberLemmas.{same_some}
use Rattle.nfa_paths.proofs.Common.{◌≡◌, ℕ, ◌+◌, ◌≤◌, ◌<◌, [], sym, subst, arith, Some, if◌then◌else◌, ◌↔◌, ◌==◌, ◌||◌, option_map_or, nat_tests, Search, is_anchored, Automaton, Pair, In, start_state, start_count, starts, suc, ◌*◌, ◌⊎◌, inl, inr, Bool, false, List, ◌∷◌, map, length, refl, ap, true≢false, ◌∙◌, None, Option, is_some, All, slice_index, slice_range, option_and_then, le-ltb, cond-false, slice_get_within, get_or_from_slice_get, number_of, Anchored, Node, Linked, EndsWith, pattern_of, slot_of, node_at, slot_among, IsMatch, Pattern, Union, Capture, slice_get, HeadIs, PathTo, edges, path_pattern, Yes}
use Rattle.nfa_paths.proofs.StartLemmas.{pairs_from-has}
use Rattle.nfa_paths.proofs.FirstStartLemmas.{pairs_from-in, start-there}
use Rattle.nfa_compiler.specs.Common.{Re, match_at, moved, node_for, LeadsInside, Stands, IsBlock, IsNfaOf, explicit_slot}

module _ (a : Automaton) (x : Search) where
  -- the last position at which a match may start
  abbrev last : ℕ
  last = if is_anchored x.anchored || (a.anchored == a.unanchored) then x.start else x.end

  -- the count of starts says so
  counted : (i : ℕ) → x.start ≤ i → (i < x.start + start_count a x) ↔ ((x.start ≤ x.end) × (i ≤ last))
  counted i from = grind (arith, nat_tests)

  -- which is within the span
  pub within-end : (i : ℕ) → x.start ≤ x.end → i ≤ last → i ≤ x.end
  within-end i inside to = grind arith

  -- a start is at the start state, and at a position at which a match may start
  pub starts-sound : (v : Pair) → In v (starts a x)
      → (start_state a x.anchored ≡ Some v.0) × (x.start ≤ v.1) × (x.start ≤ x.end) × (v.1 ≤ last)
  starts-sound v i = grind (arith, pairs_from-in, counted)

  -- and each of these is a start
  pub starts-complete : (state i : ℕ) → start_state a x.anchored ≡ Some state → x.start ≤ i → x.start ≤ x.end → i ≤ last
      → In (state, i) (starts a x)
  starts-complete state i is from inside to = grind (arith, nat_tests, pairs_from-has, counted, inside)

-- the pairs that may follow a state at position i
abbrev pub after : Node → ℕ → List Pair
after n i = map (λ t. (t, position_after n i)) (targets n)

-- whether the state writes the slot
abbrev writes : Node → ℕ → Bool
writes n slot = option_map_or (λ k. k == slot) (slot_of n) false

-- another state is no Match
pub no-match : (a : Automaton) (v m : Pair) → is_some (pattern_of (node_at a v.0)) ≡ false → v ≡ m → IsMatch a m → ⊥
no-match a v m plain ends matches =
    true≢false (sym matches ∙ ap (λ (w : Pair). is_some (pattern_of (node_at a w.0))) (sym ends) ∙ plain)

-- the list ends with a Match of pattern k, and of its two slots writes the start, if there is one, and its own end
pub record WritesBoth (a : Automaton) (k : ℕ) (p : List Pair) (first : Option ℕ) (m : Pair) : Type 0 where
  pub pattern : pattern_of (node_at a m.0) ≡ Some k
  pub start : slot_among a p (2 * k) ≡ first
  pub end : slot_among a p (2 * k + 1) ≡ Some m.1

-- the list goes to no state after `last`, and does so if it ends with a Match
pub record Follows (a : Automaton) (k : ℕ) (p : List Pair) (last : ℕ) (first : Option ℕ) (m : Pair) : Type 0 where
  pub below : m.0 ≤ last
  pub writes : IsMatch a m → WritesBoth a k p first m

-- the states of one pattern

module _ (s : Site) (k : ℕ) (is : number_of s.pattern ≡ k) (behind : 2 * k + 1 < s.slots) where
  -- one of the pattern's own states follows, and none of the two slots is written
  record StaysInside (n : Node) (y : Pair) : Type 0 where
    state : ℕ
    below : state < s.size
    at : y.0 ≡ s.base + state
    spares : (slot : ℕ) → slot ≤ 2 * k + 1 → writes n slot ≡ false

  -- the Match follows, and the end is written
  record ReachesMatch (n : Node) (i : ℕ) (y : Pair) : Type 0 where
    at : y.0 ≡ match_at s
    same : y.1 ≡ i
    slot : slot_of n ≡ Some (2 * k + 1)

  inside : (n : Node) (q j : ℕ) (y : Pair) → slot_of n ≡ None → q < s.size → In y ((s.base + q, j) ∷ [])
      → StaysInside n y
  inside n q j y none below (inl e) = record {
    state = q;
    below = below;
    at = ap (λ (w : Pair). w.0) e;
    spares = λ slot less. ap (λ o. option_map_or (λ k. k == slot) o false) none;
  }
  inside n q j y none below (inr never) = absurd never

  -- targets of moved transitions
  transitions-inside : (n : Node) (ts : List their_transition.Transition) (j : ℕ) (y : Pair) → slot_of n ≡ None
      → All (λ t. t.next < s.size) ts
      → In y (map (λ t. (t, j)) (map (λ t. t.next) (map (moved s) ts))) → StaysInside n y
  transitions-inside n [] j y none all never = absurd never
  transitions-inside n (t ∷ ts) j y none all (inl e) = inside n t.next j y none (all 0 t (omega arith)) (inl e)
  transitions-inside n (t ∷ ts) j y none all (inr later) =
      transitions-inside n ts j y none (λ i d h. all (suc i) d (omega arith)) later

  -- what follows a state of the pattern
  node-follows : (ts : List their_transition.Transition) (state : their_state.State) (i : ℕ) (y : Pair)
      → LeadsInside ts s state → In y (after (node_for ts s state) i)
      → StaysInside (node_for ts s state) y ⊎ ReachesMatch (node_for ts s state) i y
  unfolding targets reads
  node-follows ts (their.ByteRange t) i y below edge = inl (inside _ t.next (i + 1) y refl below edge)
  node-follows ts (their.Sparse from to) i y below edge =
      inl (transitions-inside _ (slice_range ts from to) (i + 1) y refl below edge)
  node-follows ts (their.Split first second) i y below (inl e) = inl (inside _ first i y refl below.0 (inl e))
  node-follows ts (their.Split first second) i y below (inr later) = inl (inside _ second i y refl below.1 later)
  node-follows ts (their.Save slot next) i y below edge = grind (arith, nat_tests, cond-false, le-ltb)
  node-follows ts (their.Look l next) i y below edge = inl (inside _ next i y refl below edge)
  node-follows ts their.Match i y below edge = grind (arith, nat_tests)
  node-follows ts their.Fail i y below never = absurd never

  follows : (ts : List their_transition.Transition) (state : their_state.State) (n : Node) (i : ℕ) (y : Pair)
      → Stands ts s state n → In y (after n i) → StaysInside n y ⊎ ReachesMatch n i y
  follows ts state n i y stands = grind (arith, nat_tests, node-follows)

  module _ (a : Automaton) (nfa : Nfa) (block : IsBlock a.states nfa s) where
    match_here : node_at a (match_at s) ≡ Match k
    unfolding node_at
    match_here = block.match ∙ ap Match is

    start_here : node_at a (match_at s + 1) ≡ Capture (s.base + nfa.start) (2 * k)
    unfolding node_at
    start_here = block.start ∙ ap (λ j. Capture (s.base + nfa.start) j)
        (let first : 2 * number_of s.pattern + 0 ≡ 2 * k = omega arith in first)

    stands_here : (q : ℕ) → q < s.size
        → Stands nfa.transitions.items s (state_at nfa.states.items q) (node_at a (s.base + q))
    unfolding node_at
    stands_here q below = block.states q below

    -- at the Match the way ends
    at-match : (v y m : Pair) (rest : List Pair) → y.0 ≡ match_at s → y.1 ≡ v.1
        → slot_of (node_at a v.0) ≡ Some (2 * k + 1) → Linked (open_edges a) (y ∷ rest) → EndsWith m (y ∷ rest)
        → Follows a k (v ∷ (y ∷ rest)) (match_at s) None m
    unfolding targets
    at-match v y m [] at same slot linked ends = grind (arith, nat_tests, match_here)
    at-match v y m (z ∷ rest) at same slot linked ends = grind (arith, nat_tests, match_here)

    -- from a state of the pattern on
    from-inside : (rest : List Pair) (v m : Pair) (q : ℕ) → q < s.size → v.0 ≡ s.base + q
        → Linked (open_edges a) (v ∷ rest) → EndsWith m (v ∷ rest) → Follows a k (v ∷ rest) (match_at s) None m
    from-inside [] v m q below at linked ends = record {
      below = let last : v.0 ≡ m.0 = ap (λ (w : Pair). w.0) ends in omega arith;
      writes = λ matches. absurd (no-match a v m (ap (λ n. is_some (pattern_of (node_at a n))) at
          ∙ ap (λ n. is_some (pattern_of n)) (stands_here q below).1
          ∙ node-plain nfa.transitions.items s (state_at nfa.states.items q)) ends matches);
    }
    from-inside (y ∷ rest) v m q below at linked ends =
        elim (follows nfa.transitions.items (state_at nfa.states.items q) (node_at a v.0) v.1 y
        (subst (λ n. Stands nfa.transitions.items s (state_at nfa.states.items q) (node_at a n)) (sym at)
        (stands_here q below)) linked.0) [
          | inl stays ↦
              let later = from-inside rest y m stays.state stays.below stays.at linked.1 ends in
              record {
                below = later.below;
                writes = λ matches. let w = later.writes matches in record {
                  pattern = w.pattern;
                  start = grind (arith, stays.spares (2 * k), w.start);
                  end = rw w.end refl;
                };
              }
          | inr reaches ↦ at-match v y m rest reaches.at reaches.same reaches.slot linked.1 ends
        ]

    -- from the pattern's start on
    pub from-start : (rest : List Pair) (v m : Pair) → v.0 ≡ match_at s + 1 → Linked (open_edges a) (v ∷ rest)
        → EndsWith m (v ∷ rest) → Follows a k (v ∷ rest) v.0 (Some v.1) m
    unfolding targets reads
    from-start [] v m at linked ends = grind (arith, nat_tests, no-match, start_here)
    from-start (y ∷ rest) v m at linked ends =
        let node : node_at a v.0 ≡ Capture (s.base + nfa.start) (2 * k) = ap (node_at a) at ∙ start_here in
        let there : In y (after (Capture (s.base + nfa.start) (2 * k)) v.1) =
        subst (λ n. In y (after n v.1)) node linked.0 in
        let first : y.0 ≡ s.base + nfa.start = grind (arith, there) in
        let later = from-inside rest y m nfa.start block.start_in first linked.1 ends in
        record {
          below = omega (arith, at, later.below);
          writes = λ matches. let w = later.writes matches in record {
            pattern = w.pattern;
            start = grind (arith, nat_tests, node, w.start);
            end = rw w.end refl;
          };
        }

-- all patterns

-- which of these starts follows
pub start-among : (starts : List ℕ) (j : ℕ) (y : Pair) → In y (map (λ t. (t, j)) starts)
    → (k : ℕ) × (k < length starts) × (y.0 ≡ slice_index starts k) × (y.1 ≡ j)
start-among [] j y i = absurd i
start-among (start ∷ starts) j y (inl e) = (0, omega arith, ap (λ (w : Pair). w.0) e, ap (λ (w : Pair). w.1) e)
start-among (start ∷ starts) j y (inr later) =
    let rest = start-among starts j y later in (suc rest.0, omega (arith, rest.1), rest.2, rest.3)

module _ (res : List Re) (a : Automaton) (made : IsNfaOf res a) where
  -- from the start of pattern k
  pub from-pattern : (k : ℕ) → k < length a.patterns → (rest : List Pair) (v m : Pair) → v.0 ≡ slice_index a.patterns k
      → Linked (open_edges a) (v ∷ rest) → EndsWith m (v ∷ rest) → Follows a k (v ∷ rest) v.0 (Some v.1) m
  from-pattern k known rest v m at linked ends =
      let one = made.each k (omega (arith, made.patterns)) in
      let place : one.site.slots ≡ explicit_slot a.groups k = one.slots_are in
      from-start one.site k one.pattern_is (omega (arith, made.patterns, made.groups)) a one.nfa one.block rest v m
      (at ∙ one.start_is) linked ends

  -- from the choice between all of them
  from-choice : (rest : List Pair) (v m : Pair) → v.0 ≡ a.anchored → Linked (open_edges a) (v ∷ rest)
      → EndsWith m (v ∷ rest) → IsMatch a m → (k : ℕ) × WritesBoth a k (v ∷ rest) (Some v.1) m
  unfolding targets node_at reads
  from-choice rest v m at linked ends matches = elim made.chooses [
    | inl one ↦ (
      0,
      (from-pattern 0 (omega (arith, ap length one)) rest v m (at ∙ ap (λ ps. slice_index ps 0) (sym one)) linked
          ends).writes matches,
    )
    | inr several ↦ of rest (ap (node_at a) at ∙ several.0) linked ends
  ]
    where
      of : (rest : List Pair) → node_at a v.0 ≡ Union a.patterns → Linked (open_edges a) (v ∷ rest)
          → EndsWith m (v ∷ rest) → (k : ℕ) × WritesBoth a k (v ∷ rest) (Some v.1) m
      of [] node linked ends = absurd (no-match a v m (ap (λ n. is_some (pattern_of n)) node) ends matches)
      of (y ∷ rest) node linked ends =
          let there : In y (after (Union a.patterns) v.1) = subst (λ n. In y (after n v.1)) node linked.0 in
          let among = start-among a.patterns v.1 y there in
          let later = (from-pattern among.0 among.1 rest y m among.2 linked.1 ends).writes matches in (
            among.0,
            record {
              pattern = later.pattern;
              start = rw (later.start, among.3) refl;
              end = rw later.end refl;
            },
          )

  -- from each start of a search
  from-any : (anchored : Anchored) (rest : List Pair) (v m : Pair) → start_state a anchored ≡ Some v.0
      → Linked (open_edges a) (v ∷ rest) → EndsWith m (v ∷ rest) → IsMatch a m
      → (k : ℕ) × WritesBoth a k (v ∷ rest) (Some v.1) m
  from-any (Pattern pattern) rest v m start linked ends matches = (
    number_of pattern,
    (from-pattern (number_of pattern) (slice_get_within a.patterns (number_of pattern) v.0 start) rest v m
        (sym (get_or_from_slice_get a.patterns (number_of pattern) v.0 0 start)) linked ends).writes matches,
  )
  from-any _ rest v m start linked ends matches =
      let at : v.0 ≡ a.anchored = cc in from-choice rest v m at linked ends matches

  -- each way writes its bounds
  pub ways-recorded : RecordsMatchSpans a
  ways-recorded end [] way matches = absurd way.head
  ways-recorded end (v ∷ rest) way matches = grind (arith, nat_tests, from-any, EndsWith-last)

-- the pattern that a search starts with, where pattern k is searched alone
starts-with : (nfa : Automaton) (x : Search) (k state : ℕ) → slice_get nfa.patterns k ≡ Some state
    → (v : Pair) → In v (starts (started_at nfa state) x) → (j : ℕ) × (slice_get nfa.patterns j ≡ Some v.0)
starts-with nfa x k state at v i = grind (arith, nat_tests, starts-sound)

-- a path of a pattern that is searched alone follows the edges of the NFA
linked-alone : (nfa : Automaton) (x : Search) (state : ℕ) (p : List Pair) → Linked (edges (started_at nfa state) x) p
    → Linked (edges nfa x) p
unfolding node_at
linked-alone nfa x state p h = h

module _ (res : List Re) (a : Automaton) (made : IsNfaOf res a) where
  -- a path from a pattern's start ends before the choice between all
  below-choice : All (λ s. s < a.anchored) a.patterns → (j : ℕ) (rest : List Pair) (v m : Pair)
      → slice_get a.patterns j ≡ Some v.0 → Linked (open_edges a) (v ∷ rest) → EndsWith m (v ∷ rest)
      → m.0 < a.anchored
  below-choice all j rest v m at linked ends =
      let known = slice_get_within a.patterns j v.0 at in
      let start : slice_index a.patterns j ≡ v.0 = get_or_from_slice_get a.patterns j v.0 0 at in
      let under : slice_index a.patterns j < a.anchored = all j 0 known in
      omega (arith, start, under, (from-pattern res a made j known rest v m (sym start) linked ends).below)

  module _ (x : Search) where
    never-back : All (λ s. s < a.anchored) a.patterns → (k state at : ℕ) (p : List Pair)
        → slice_get a.patterns k ≡ Some state
        → PathTo (edges a x) (starts (started_at a state) x) (a.anchored, at) p → ⊥
    never-back all k state at p is path = of p path.head path.linked path.ends
      where
        start : (j : ℕ) × (slice_get a.patterns j ≡ Some path.start.0)
        start = starts-with a x k state is path.start path.among

        of : (p : List Pair) → HeadIs path.start p → Linked (edges a x) p → EndsWith (a.anchored, at) p → ⊥
        of [] head linked ends = absurd head
        of (v ∷ rest) head linked ends =
            let less : a.anchored < a.anchored =
            below-choice all start.0 rest v (a.anchored, at) (start.1 ∙ ap (λ (w : Pair). Some w.0) (sym head))
            (linked-open a x (v ∷ rest) linked) ends
            in
            absurd (omega arith)

    pub tries-in-order : TriesPatternsInOrder a x
    unfolding node_at
    tries-in-order = elim made.chooses [
      | inl one ↦ inl one
      | inr several ↦ inr (record {
        union = ap alternates_of several.0;
        apart = never-back several.1;
      })
    ]

    -- a pattern that is searched alone matches as no other
    pub matches-alone : x.anchored ≡ Yes → StartsMatchTheirPatterns a x
    unfolding node_at
    matches-alone bound k state pattern is h =
        of h.along h.path.head (linked-alone a x state h.along h.path.linked) h.path.ends
        (sym (pattern-alone a state (Some h.along)) ∙ h.pattern_is)
      where
        at : h.path.start.0 ≡ state
        at = ap (λ (w : Pair). w.0) (start-there a x bound (started_at a state) h.path.start h.path.among).is

        known : k < length a.patterns
        known = slice_get_within a.patterns k state is

        of : (p : List Pair) → HeadIs h.path.start p → Linked (edges a x) p → EndsWith h.end p
            → path_pattern a p ≡ Some pattern → pattern ≡ k
        of [] head linked ends pattern_is = absurd head
        of (v ∷ rest) head linked ends pattern_is =
            let start : v.0 ≡ slice_index a.patterns k =
            ap (λ (w : Pair). w.0) head ∙ at ∙ sym (get_or_from_slice_get a.patterns k state 0 is) in
            let both = (from-pattern res a made k known rest v h.end start (linked-open a x (v ∷ rest) linked)
            ends).writes h.accepts in
            let own : path_pattern a (v ∷ rest) ≡ Some k =
            ap (option_and_then (λ (w : Pair). pattern_of (node_at a w.0)))
            (EndsWith-last None h.end (v ∷ rest) ends) ∙ both.pattern in
            same_some pattern k (sym pattern_is ∙ own)
