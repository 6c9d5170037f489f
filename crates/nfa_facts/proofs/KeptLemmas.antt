-- An NFA with fewer captures is one that `NFA::from_states` accepts. It has the same ways, and keeps its slots.
use Rattle.nfa_paths.proofs.Common.{◌≡◌, ◌∙◌, ℕ, zero, suc, ◌+◌, ◌*◌, ◌≤◌, ◌<◌, ◌==◌, inl, inr, false, List, [], ◌∷◌, ap, arith, length, map, ne_eqb, refl, replicate, sym, Option, None, Some, nat_lt, option_and_then, slice_index_or, range_with_len, sum_by, option_map_or, cases_Bool, cases_lt, le-ltb, lt-ltb, length-replicate, slot_count, Search, match_of, Automaton, Node, IsAutomaton, Pair, capture, edges_of, node_at, path_pattern, pattern_of, slot_among, slot_of, slot_row, Capture, Fail, subst, All, length-map, All-cons, All-head, All-map, All-nil, All-tail, LeadsBelow, PatternBelow, SlotBelow, AreGroupsOfPatterns}
use Rattle.nfa_paths.proofs.PatternLemmas.{length-slot_row, match-along-path}
use Rattle.nfa_facts.specs.Kept.{kept_node, with_groups, kept_groups, with_captures}
use Rattle.nfa_facts.proofs.SetLemmas.{HaveSameWays, pattern-same}
use Rattle.nfa_facts.specs.declared.captures.which.WhichCaptures.{WhichCaptures}
use Rattle.nfa_facts.specs.declared.captures.which.WhichCaptures.TheVariants as which

abbrev Groups : Type 0
Groups = List (List (Option (List ℕ)))

-- a state of a list that was mapped
state-kept : (count : ℕ) (states : List Node) (s : ℕ)
    → slice_index_or (map (kept_node count) states) s Fail ≡ kept_node count (slice_index_or states s Fail)
state-kept count [] s = refl
state-kept count (n ∷ states) zero = refl
state-kept count (n ∷ states) (suc s) = state-kept count states s

module _ (count : ℕ) where
  -- what follows a state
  edges-kept : (x : Search) (n : Node) (at : ℕ) → edges_of x (kept_node count n) at ≡ edges_of x n at
  unfolding edges_of
  edges-kept x (Capture next slot) at = elim (cases_Bool (nat_lt slot count)) [
    | inl below ↦ rw below refl
    | inr past ↦ rw past refl
  ]
  edges-kept x _ at = refl

  -- what it matches
  pattern-kept : (n : Node) → pattern_of (kept_node count n) ≡ pattern_of n
  pattern-kept (Capture next slot) = elim (cases_Bool (nat_lt slot count)) [
    | inl below ↦ rw below refl
    | inr past ↦ rw past refl
  ]
  pattern-kept _ = refl

  -- whether it writes a slot that is kept
  slot-kept : (slot : ℕ) → slot < count → (n : Node)
      → option_map_or (λ k. k == slot) (slot_of (kept_node count n)) false
      ≡ option_map_or (λ k. k == slot) (slot_of n) false
  slot-kept slot less (Capture next own) = elim (cases_lt own count) [
    | inl below ↦ rw (lt-ltb own count below) refl
    | inr past ↦
        let other : (own == slot) ≡ false = ne_eqb own slot (λ (e : own ≡ slot). omega arith) in
        rw (le-ltb own count past) (sym other)
  ]
  slot-kept slot less _ = refl

module _ (groups : Groups) (nfa : Automaton) where
  abbrev kept : Automaton
  kept = with_groups groups nfa

  node-kept : (s : ℕ) → node_at kept s ≡ kept_node (slot_count groups) (node_at nfa s)
  unfolding node_at
  node-kept s = state-kept (slot_count groups) nfa.states s

  pub same-ways : HaveSameWays kept nfa
  same-ways = record {
    edges_are = λ x. λ i v. (ap (λ (n : Node). edges_of x n v.1) (node-kept v.0)
        ∙ edges-kept (slot_count groups) x (node_at nfa v.0) v.1) i;
    starts_are = λ x. refl;
    patterns_are = λ i v. (ap pattern_of (node-kept v.0) ∙ pattern-kept (slot_count groups) (node_at nfa v.0)) i;
    utf8_is = refl;
  }

  -- a slot that is kept
  among-kept : (p : List Pair) (slot : ℕ) → slot < slot_count groups
      → slot_among kept p slot ≡ slot_among nfa p slot
  among-kept [] slot less = refl
  among-kept (v ∷ p) slot less =
      let rest = among-kept p slot less in
      let writes : option_map_or (λ k. k == slot) (capture kept v) false
      ≡ option_map_or (λ k. k == slot) (capture nfa v) false =
      ap (λ (n : Node). option_map_or (λ k. k == slot) (slot_of n) false) (node-kept v.0)
      ∙ slot-kept (slot_count groups) slot less (node_at nfa v.0) in
      rw (rest, writes) refl

  -- the first slots of a path
  pub row-kept : (n : ℕ) (r : Option (List Pair)) → n ≤ slot_count groups → slot_row kept n r ≡ slot_row nfa n r
  unfolding slot_row
  row-kept n None few = refl
  row-kept n (Some p) few = of 0 n (omega (arith, few))
    where
      of : (from count : ℕ) → from + count ≤ slot_count groups
          → map (slot_among kept p) (range_with_len from count) ≡ map (slot_among nfa p) (range_with_len from count)
      of from zero few = refl
      of from (suc count) few =
          let here = among-kept p from (omega arith) in
          let rest = of (from + 1) count (omega arith) in
          λ i. here i ∷ rest i

-- no explicit groups of n patterns
abbrev unnamed : ℕ → Groups
unnamed n = replicate n []

-- two slots for each pattern
pub slots-of-unnamed : (n : ℕ) → slot_count (unnamed n) ≡ 2 * n
slots-of-unnamed n =
    let none : sum_by length (unnamed n) ≡ 0 = of n in
    let count : length (unnamed n) ≡ n = length-replicate n [] in
    omega (arith, none, count)
  where
    of : (n : ℕ) → sum_by length (unnamed n) ≡ 0
    of zero = refl
    of (suc n) = of n

-- a match of the slots of groups 0
pub match-kept : (nfa : Automaton) → IsAutomaton nfa → (r : Option (List Pair))
    → match_of (option_and_then (path_pattern (with_groups (unnamed (length nfa.groups)) nfa)) r)
    (slot_row (with_groups (unnamed (length nfa.groups)) nfa) (slot_count (unnamed (length nfa.groups))) r)
    ≡ match_of (option_and_then (path_pattern nfa) r) (slot_row nfa (slot_count nfa.groups) r)
match-kept nfa valid r =
    let groups : Groups = unnamed (length nfa.groups) in
    let size : slot_count groups ≡ 2 * length nfa.groups = slots-of-unnamed (length nfa.groups) in
    let pattern = pattern-same (with_groups groups nfa) nfa (same-ways groups nfa) r in
    let few : slot_count groups ≤ slot_count groups = omega arith in
    let row = row-kept groups nfa (slot_count groups) r few ∙ ap (λ (n : ℕ). slot_row nfa n r) size in
    (λ i. match_of (pattern i) (row i)) ∙ of (option_and_then (path_pattern nfa) r) refl
  where
    of : (o : Option ℕ) → o ≡ option_and_then (path_pattern nfa) r
        → match_of (option_and_then (path_pattern nfa) r) (slot_row nfa (2 * length nfa.groups) r)
        ≡ match_of (option_and_then (path_pattern nfa) r) (slot_row nfa (slot_count nfa.groups) r)
    of None none = rw (sym none) refl
    of (Some k) some =
        let slots : List (Option ℕ) = slot_row nfa (2 * length nfa.groups) r in
        let size : length slots ≡ 2 * length nfa.groups = length-slot_row nfa (2 * length nfa.groups) r in
        ap (λ (o : Option ℕ). match_of o slots) (sym some)
        ∙ match-along-path nfa valid k slots size r some (ap (λ (n : ℕ). slot_row nfa n r) (sym size))

module _ (count : ℕ) where
  -- a state leads where it led
  leads-kept : (n : ℕ) (node : Node) → LeadsBelow n node → LeadsBelow n (kept_node count node)
  leads-kept n (Capture next slot) h = elim (cases_Bool (nat_lt slot count)) [
    | inl below ↦ rw below h
    | inr past ↦ rw past (All-cons (λ s. s < n) next [] h (All-nil (λ s. s < n)))
  ]
  leads-kept n _ h = h

  -- a state writes only slots that are kept
  slot-below : (node : Node) → SlotBelow count (kept_node count node)
  slot-below (Capture next slot) = elim (cases_lt slot count) [
    | inl below ↦ rw (lt-ltb slot count below) below
    | inr past ↦ rw (le-ltb slot count past) tt
  ]
  slot-below _ = tt

  pattern-below : (n : ℕ) (node : Node) → PatternBelow n node → PatternBelow n (kept_node count node)
  pattern-below n (Capture next slot) h = elim (cases_Bool (nat_lt slot count)) [
    | inl below ↦ rw below tt
    | inr past ↦ rw past tt
  ]
  pattern-below n _ h = h

  -- a state that writes no other slot is as it was
  node-same : (node : Node) → SlotBelow count node → kept_node count node ≡ node
  node-same (Capture next slot) h = rw (lt-ltb slot count h) refl
  node-same _ h = refl

  nodes-same : (nodes : List Node) → All (SlotBelow count) nodes → map (kept_node count) nodes ≡ nodes
  nodes-same [] h = refl
  nodes-same (n ∷ nodes) h =
      let here = node-same n (All-head (SlotBelow count) n nodes h) in
      let rest = nodes-same nodes (All-tail (SlotBelow count) n nodes h) in
      λ i. here i ∷ rest i

pub valid : (groups : List (List (Option (List ℕ)))) (nfa : Automaton) → IsAutomaton nfa
    → AreGroupsOfPatterns (with_groups groups nfa) → IsAutomaton (with_groups groups nfa)
valid groups nfa is of_patterns =
    let f = kept_node (slot_count groups) in
    let size : length nfa.states ≡ length (map f nfa.states) = sym (length-map nfa.states f) in
    let n = is.numbered in
    record {
      filled = subst (λ n. 0 < n) size is.filled;
      numbered = record {
        anchored_in = subst (λ n. nfa.anchored < n) size n.anchored_in;
        unanchored_in = subst (λ n. nfa.unanchored < n) size n.unanchored_in;
        patterns_in = subst (λ n. All (λ s. s < n) nfa.patterns) size n.patterns_in;
        targets_in = subst (λ n. All (LeadsBelow n) (map f nfa.states)) size
            (All-map (LeadsBelow (length nfa.states)) f nfa.states
            (λ k d less. leads-kept (slot_count groups) (length nfa.states) (slice_index_or nfa.states k d)
            (n.targets_in k d less)));
      };
      slots = All-map (SlotBelow (slot_count groups)) f nfa.states
          (λ k d less. slot-below (slot_count groups) (slice_index_or nfa.states k d));
      patterns = All-map (PatternBelow (length nfa.patterns)) f nfa.states
          (λ k d less. pattern-below (slot_count groups) (length nfa.patterns) (slice_index_or nfa.states k d)
          (is.patterns k d less));
      groups = of_patterns;
    }

groups-kept : (which : WhichCaptures) (nfa : Automaton) → IsAutomaton nfa
    → AreGroupsOfPatterns (with_captures which nfa)
unfolding with_captures
groups-kept which.All nfa is = is.groups
groups-kept which.Implicit nfa is =
    let unnamed : List (Option (List ℕ)) = [] in
    let size = length-replicate (length nfa.groups) unnamed in
    elim is.groups [
      | inl each ↦ inl (size ∙ each)
      | inr none ↦ inr (size ∙ none)
    ]
groups-kept which.None nfa is = inr refl

pub captures-valid : (which : WhichCaptures) (nfa : Automaton) → IsAutomaton nfa → IsAutomaton (with_captures which nfa)
unfolding with_captures
captures-valid which nfa is = valid (kept_groups which nfa.groups) nfa is (groups-kept which nfa is)

pub all-kept : (nfa : Automaton) → IsAutomaton nfa → with_captures which.All nfa ≡ nfa
unfolding with_captures
all-kept nfa is =
    ap (λ (states : List Node). (let made : Automaton = record nfa { states = states } in made))
    (nodes-same (slot_count nfa.groups) nfa.states is.slots)
