-- What an accepting path says about its pattern and its slots.
use Rattle.nfa_paths.proofs.Common.{◌≡◌, ℕ, ◌+◌, ◌*◌, ◌<◌, ◌≤◌, List, [], ◌∷◌, ◌++◌, length, map, take, replicate, refl, ap, sym, arith, rules, Option, Some, None, true, Bool, option_and_then, is_some, range_with_len, slice_get-get_or, get_or_past, replicate-append-replicate, ext_get_or, cases_lt, length-append, get_or_append_left, get_or-append_right, get_or-replicate, take-replicate, length-replicate, slot_count, Search, offset_at, match_of, MatchKind, Automaton, Node, IsAutomaton, Pair, pattern_of, slot_of, node_at, path_pattern, last_of, slot_among, slot_row, IsScanAnswer, IsSearchAnswer, IsAnswer, IsBoolAnswer, Slots, pattern_at}
use Rattle.std.proofs.lemmas.List.FromFn.{length-map-range_with_len, get_or-map-range_with_len, take-map-range_with_len}
use Rattle.nfa_paths.proofs.AnswerLemmas.{scan_answer-leads}
use Rattle.nfa_paths.proofs.PathToLemmas.{EndsWith-last}

-- a Match has a pattern
pub some-pattern : (node : Node) → is_some (pattern_of node) ≡ true → (k : ℕ) × (pattern_of node ≡ Some k)
some-pattern = grind arith

-- the pattern of a path that ends with the pair
pub ends-pattern : (nfa : Automaton) (p : List Pair) (v : Pair) → last_of p ≡ Some v
    → path_pattern nfa p ≡ pattern_at nfa v
ends-pattern nfa p v last = ap (λ o. option_and_then (λ (w : Pair). pattern_of (node_at nfa w.0)) o) last

-- the length of a row
pub length-slot_row : (nfa : Automaton) (count : ℕ) (path : Option (List Pair))
    → length (slot_row nfa count path) ≡ count
unfolding slot_row
length-slot_row = grind (arith, length-replicate, length-map-range_with_len)

module _ (nfa : Automaton) where
  -- a state's pattern is one of the NFA's
  pub node-pattern : IsAutomaton nfa → (q k : ℕ) → pattern_of (node_at nfa q) ≡ Some k → k < length nfa.patterns
  unfolding node_at
  node-pattern valid q k e = grind (arith, get_or_past)

  -- and so is its slot
  node-slot : IsAutomaton nfa → (q k : ℕ) → slot_of (node_at nfa q) ≡ Some k → k < slot_count nfa.groups
  unfolding node_at
  node-slot valid q k e = grind (arith, get_or_past)

  -- no path writes a slot past the NFA's
  pub slot_among-past : IsAutomaton nfa → (p : List Pair) (i : ℕ) → slot_count nfa.groups ≤ i
      → slot_among nfa p i ≡ None
  slot_among-past valid [] i past = refl
  slot_among-past valid (v ∷ p) i past = grind (arith, node-slot, slot_among-past valid p i past)

  -- so those of a row are none
  pub slot_row-more : IsAutomaton nfa → (width more : ℕ) → slot_count nfa.groups ≤ width → (path : Option (List Pair))
      → slot_row nfa (width + more) path ≡ slot_row nfa width path ++ replicate more None
  unfolding slot_row
  slot_row-more valid width more all None = sym (replicate-append-replicate width more None)
  slot_row-more valid width more all (Some p) =
      ext_get_or None (map (slot_among nfa p) (range_with_len 0 (width + more)))
      (map (slot_among nfa p) (range_with_len 0 width) ++ replicate more None)
      (grind (arith, length-append, length-replicate, length-map-range_with_len))
      (grind (
        arith,
        cases_lt,
        length-append,
        length-replicate,
        length-map-range_with_len,
        get_or_append_left,
        get_or-append_right,
        get_or-map-range_with_len,
        get_or-replicate,
        slot_among-past,
      ))

  -- a path's pattern is one of the NFA's
  pub pattern-within : IsAutomaton nfa → (p : List Pair) (k : ℕ) → path_pattern nfa p ≡ Some k → k < length nfa.patterns
  pattern-within valid p k = grind (arith, node-pattern)

  -- an offset of a path's row
  pub offset_at-slot_row : (p : List Pair) (count i : ℕ) → i < count
      → offset_at (slot_row nfa count (Some p)) i ≡ slot_among nfa p i
  unfolding slot_row
  offset_at-slot_row p count i inside =
      let h : i < length (map (slot_among nfa p) (range_with_len 0 count)) =
      rw (length-map-range_with_len (slot_among nfa p) 0 count) inside in
      rw (slice_get-get_or (map (slot_among nfa p) (range_with_len 0 count)) i None h)
      (get_or-map-range_with_len (slot_among nfa p) 0 count i i None inside (omega arith))

  match-row : IsAutomaton nfa → (p : List Pair) (k : ℕ) → path_pattern nfa p ≡ Some k
      → match_of (Some k) (slot_row nfa (2 * length nfa.groups) (Some p))
      ≡ match_of (Some k) (slot_row nfa (slot_count nfa.groups) (Some p))
  match-row valid p k pattern =
      (search (rules, no_groups, offset_at-slot_row, pattern-within))
    where
      no_groups : (groups : List (List (Option (List ℕ)))) → length groups ≡ 0 → 2 * length groups ≡ slot_count groups
      no_groups [] e = refl
      no_groups (g ∷ gs) e = absurd (omega arith)

  -- a row that has all patterns' slots gives the path's match
  pub match-along-path : IsAutomaton nfa → (k : ℕ) (slots : Slots) → length slots ≡ 2 * length nfa.groups
      → (path : Option (List Pair))
      → Some k ≡ option_and_then (path_pattern nfa) path → slots ≡ slot_row nfa (length slots) path
      → match_of (Some k) slots ≡ match_of (option_and_then (path_pattern nfa) path)
      (slot_row nfa (slot_count nfa.groups) path)
  match-along-path = grind (arith, match-row)

  -- a shorter row of a path is the beginning of a longer one
  pub slot_row-take : (k n : ℕ) (path : Option (List Pair)) → k ≤ n → take k (slot_row nfa n path) ≡ slot_row nfa k path
  unfolding slot_row
  slot_row-take = grind (arith, take-replicate, take-map-range_with_len)

module _ (nfa : Automaton) (kind : MatchKind) (earliest : Bool) where
  -- the pattern of an accepting path
  scan-pattern : (y : Search) (p : List Pair) → IsScanAnswer nfa y kind earliest (Some p)
      → (k : ℕ) × (path_pattern nfa p ≡ Some k)
  scan-pattern y p answer = grind (arith, EndsWith-last, scan_answer-leads, some-pattern)

  -- every search that has a path has a pattern
  search-pattern : (x : Search) (restarts : ℕ) (p : List Pair) → IsSearchAnswer nfa kind earliest x restarts (Some p)
      → (k : ℕ) × (path_pattern nfa p ≡ Some k)
  search-pattern x restarts p = search (rules, scan-pattern)

  -- a search that has no pattern has no slot that is set
  pub slots-unset : (x : Search) (slots : Slots) → IsAnswer nfa kind earliest x None slots
      → slots ≡ replicate (length slots) None
  unfolding slot_row
  slots-unset x slots a = grind (arith, search-pattern)

  -- and no path, and one that has a pattern has a path
  pub found-of : (x : Search) (slots : Slots) (pattern : Option ℕ) → IsAnswer nfa kind earliest x pattern slots
      → IsBoolAnswer nfa kind earliest x (is_some pattern)
  found-of x slots None a = grind (arith, search-pattern)
  found-of x slots (Some k) a = grind arith
