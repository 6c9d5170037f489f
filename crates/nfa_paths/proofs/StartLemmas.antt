-- The starts of the paths of an NFA, and the edges of its pairs.
use Rattle.nfa_paths.proofs.Common.{◌≡◌, ℕ, zero, suc, ◌+◌, ◌-◌, ◌≤◌, ◌<◌, true, false, List, [], ◌∷◌, map, length, All, refl, ap, arith, Option, None, Some, is_some, option_and_then, option_map, option_to_list, slice_get, All-nil, get_or, get_or_from_slice_get, slice_get-get_or, Search, Automaton, Node, Pair, In, Increasing, rests, is_resting, Holding, holding_at, epsilon_states, degree, pattern_of, slot_of, target_on, byte_at, pairs_from, raised, node_at, is_match, capture, edges_of, edges, starts, Look, Fail}

-- the pairs from a position on are at it or after it
pub pairs_from-ahead : (state at count : ℕ) (d : Pair) → In d (pairs_from state at count) → at ≤ d.1
pairs_from-ahead state at zero d i = absurd i
pairs_from-ahead state at (suc count) d i = grind (arith, pairs_from-ahead state (at + 1) count d)

-- and are all that are
pub pairs_from-has : (state at count i : ℕ) → at ≤ i → i < at + count → In (state, i) (pairs_from state at count)
pairs_from-has state at zero i low high = absurd (omega arith)
pairs_from-has state at (suc count) i low high = grind (arith, pairs_from-has state (at + 1) count i)

-- the pairs from a position on rise
pub pairs_from-increase : (state at count : ℕ) → Increasing (pairs_from state at count)
pairs_from-increase state at zero = tt
pairs_from-increase state at (suc count) = (
  λ d i. let k : at + 1 ≤ d.1 = pairs_from-ahead state (at + 1) count d i in omega arith,
  pairs_from-increase state (at + 1) count,
)

-- the pairs up to a position: the first, and those after it
pub pairs_from-step : (state : ℕ) {at stop : ℕ} → at < stop
    → pairs_from state at (stop - at) ≡ (state, at) ∷ pairs_from state (at + 1) (stop - (at + 1))
pairs_from-step state {at} {stop} less =
    let e : stop - at ≡ suc (stop - (at + 1)) = omega arith in rw e refl

-- past the last position there are none
pub pairs_from-end : (state : ℕ) {at stop : ℕ} → stop ≤ at → pairs_from state at (stop - at) ≡ []
pairs_from-end state {at} {stop} past = let e : stop - at ≡ 0 = omega arith in rw e refl

module _ (nfa : Automaton) (x : Search) where
  -- the starts rise
  pub starts-increase : Increasing (starts nfa x)
  starts-increase = grind (arith, pairs_from-increase)

  -- a span that is over holds no start
  pub starts-none : x.end < x.start → starts nfa x ≡ []
  starts-none past = grind arith

-- the pairs

-- a Match has no edges
Match-edges : (nfa : Automaton) (x : Search) (n : Node) (p : ℕ) → is_some (pattern_of n) ≡ true → edges_of x n p ≡ []
unfolding edges_of
Match-edges = grind arith

-- and writes nothing
Match-slot : (n : Node) → is_some (pattern_of n) ≡ true → slot_of n ≡ None
Match-slot = grind arith

-- a match leads nowhere
pub IsMatch-edges : (nfa : Automaton) (x : Search) (v : Pair) → is_match nfa v ≡ true → edges nfa x v ≡ []
IsMatch-edges nfa x v m = Match-edges nfa x (node_at nfa v.0) v.1 m

-- a match writes nothing
pub IsMatch-capture : (nfa : Automaton) (v : Pair) → is_match nfa v ≡ true → capture nfa v ≡ None
IsMatch-capture nfa v m = Match-slot (node_at nfa v.0) m

-- a state that rests writes nothing
pub resting-capture : (nfa : Automaton) (v : Pair) → is_resting nfa v ≡ true → capture nfa v ≡ None
resting-capture nfa v = grind arith

-- a byte that is read is before the end of the span
pub byte_at-within : (x : Search) (p b : ℕ) → byte_at x p ≡ Some b → p < x.end
byte_at-within x p b e = grind arith

-- and before the end of the span there is one
pub byte_at-inside : (x : Search) (at : ℕ) → at < x.end → x.end ≤ length x.haystack
    → byte_at x at ≡ Some (get_or x.haystack at 0)
byte_at-inside x at less fits = grind (arith, slice_get-get_or)

-- the pair that a state leads to on the byte, if it reads the byte
abbrev pub byte_pairs : Node → ℕ → Option ℕ → List Pair
byte_pairs node p byte = option_to_list (option_and_then (λ b. option_map (λ next. (next, p + 1)) (target_on node b))
    byte)

-- a state that rests leads to that pair
pub resting-edges : (x : Search) (node : Node) (p : ℕ) → rests node ≡ true
    → edges_of x node p ≡ byte_pairs node p (byte_at x p)
unfolding edges_of
resting-edges x _ p r = grind arith

-- and any other to the states that it leads to without a byte
pub epsilon-edges : (x : Search) (node : Node) (p : ℕ) → rests node ≡ false
    → edges_of x node p ≡ map (λ s. (s, p)) (epsilon_states (holding_at x.haystack p) node)
unfolding edges_of
epsilon-edges x _ p r = grind arith

-- which are among those that it would lead to if every assertion held
pub epsilon-all : (P : ℕ → Type 0) (holding : Holding) (node : Node) → All P (epsilon_states (λ look. true) node)
    → All P (epsilon_states holding node)
epsilon-all P holding (Look look next) all = grind (arith, All-nil)
epsilon-all P holding _ all = all

-- they are at most as many as the state has edges
pub epsilon-few : (holding : Holding) (node : Node) → length (epsilon_states holding node) ≤ degree node
epsilon-few holding _ = grind arith

-- the edges depend on the haystack and on the end of the span only
pub edges-alike : (nfa : Automaton) (x y : Search) → x.haystack ≡ y.haystack → x.end ≡ y.end
    → edges nfa x ≡ edges nfa y
unfolding edges_of
edges-alike nfa x y haystack end = λ i. edges nfa (record x { haystack = haystack i; end = end i })

-- what a state's number names
pub node_at-get : (nfa : Automaton) (s : ℕ) (node : Node) → slice_get nfa.states s ≡ Some node → node_at nfa s ≡ node
unfolding node_at
node_at-get nfa s node is = get_or_from_slice_get nfa.states s node Fail is

-- raised starts

-- a start raised by none
pub raised-zero : (x : Search) → raised x 0 ≡ x
raised-zero x = let e : x.start + 0 ≡ x.start = omega arith in ap (λ (s : ℕ). record x { start = s }) e
