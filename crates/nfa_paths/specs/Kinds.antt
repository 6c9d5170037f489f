-- What a search that goes position by position finds for each kind of scan, and what it keeps at a position.
use Rattle.std.specs.Prelude.{◌≡◌, ℕ, ◌≤◌, ◌<◌, Bool, true, cond, List, [], ◌∷◌, map, length, Option, None, Some}
use Rattle.std.specs.Option.{option_map_or}
use Rattle.thompson_nfa.specs.Automaton.{Automaton}
use Rattle.nfa_paths.specs.Graphs.{Pair, In, Space, NoRepeats, PathTo, NoPath, IsLastPath, Increasing}
use Rattle.nfa_paths.specs.Exploring.{Slots, Hit, Task, found, ExploresTo, ExploresAfter, Searching}
use Rattle.nfa_paths.specs.Exploring.Task.{Explore}
use Rattle.nfa_paths.specs.Paths.{node_at, rests}

-- the pair passes the test
abbrev pub Passes : (Pair → Bool) → Pair → Type 0
Passes test m = test m ≡ true

-- the pair is wanted, and is before position e
pub record WantedBefore (Wanted : Pair → Type 0) (e : ℕ) (m : Pair) : Type 0 where
  pub wanted : Wanted m
  pub before : m.1 < e

-- the result along a path, if there is one
abbrev pub found_along : (Pair → Option ℕ) → Option (List Pair) → Slots → Hit
found_along capture None slots = None
found_along capture (Some p) slots = found capture p slots

-- the pair and slots found are those of the path that is `Meant`, which has at most as many pairs as there were turns
pub record IsFoundBy (capture : Pair → Option ℕ) (slots : Slots) (Meant : Option (List Pair) → Type 0) (turns : ℕ)
    (g : Hit) : Type 0 where
  pub path : Option (List Pair)
  pub meant : Meant path
  pub leads : found_along capture path slots ≡ g
  pub short : option_map_or length path 0 ≤ turns

-- a path leads to a wanted pair of pattern k
pub record IsReached (edges : Pair → List Pair) (starts : List Pair) (Wanted : Pair → Type 0)
    (pattern : Pair → Option ℕ) (k : ℕ) : Type 0 where
  pub end : Pair
  pub along : List Pair
  pub path : PathTo edges starts end along
  pub wanted : Wanted end
  pub pattern_is : pattern end ≡ Some k

-- no path to a match pair ends before e
abbrev pub NoneBefore : Space → (Pair → Bool) → ℕ → Type 0
NoneBefore space is_match e = NoPath space.edges space.starts (WantedBefore (Passes is_match) e)

-- g is the result of the last of the first paths that end before e: of those with the greatest end
abbrev pub LastBefore : Space → (Pair → Bool) → Slots → ℕ → ℕ → Hit → Type 0
LastBefore space is_match slots e turns g =
    IsFoundBy space.capture slots (IsLastPath space.edges space.starts (WantedBefore (Passes is_match) e)) turns g

-- a path to a match pair of pattern k ends before e
abbrev pub ReachedBefore : Space → (Pair → Bool) → (Pair → Option ℕ) → ℕ → ℕ → Type 0
ReachedBefore space is_match pattern e k =
    IsReached space.edges space.starts (WantedBefore (Passes is_match) e) pattern k

-- every path to a match pair ends before e
abbrev pub EndsBefore : Space → (Pair → Bool) → ℕ → Type 0
EndsBefore space is_match e =
    (m : Pair) (p : List Pair) → PathTo space.edges space.starts m p → is_match m ≡ true → m.1 < e

-- the first match pair of a front, with its slots
abbrev pub first_match : (Pair → Bool) → List (Pair × Slots) → Hit
first_match is_match [] = None
first_match is_match (a ∷ front) = cond (is_match a.0) (Some a) (first_match is_match front)

-- the items of a front before its first match pair
abbrev pub before_match : (Pair → Bool) → List (Pair × Slots) → List (Pair × Slots)
before_match is_match [] = []
before_match is_match (a ∷ front) = cond (is_match a.0) [] (a ∷ before_match is_match front)

-- the last match pair of a front, or the result g from before
abbrev pub last_match : (Pair → Bool) → Hit → List (Pair × Slots) → Hit
last_match is_match g [] = g
last_match is_match g (a ∷ front) = last_match is_match (cond (is_match a.0) (Some a) g) front

-- a front with no match pair
abbrev pub NoMatch : (Pair → Bool) → List (Pair × Slots) → Type 0
NoMatch is_match front = (b : Pair × Slots) → In b front → is_match b.0 ≡ true → ⊥

-- the front contains a match pair of pattern k
pub record HoldsMatch (is_match : Pair → Bool) (pattern : Pair → Option ℕ) (k : ℕ)
    (front : List (Pair × Slots)) : Type 0 where
  pub item : Pair × Slots
  pub among : In item front
  pub matches : is_match item.0 ≡ true
  pub pattern_is : pattern item.0 ≡ Some k

-- The properties of the graph of a scan. Positions never fall along an edge, and rise after a resting pair. A match
-- pair leads nowhere and writes nothing. The starts ascend.
pub record Scanned (space : Space) (resting is_match : Pair → Bool) : Type 0 where
  pub onward : (x y : Pair) → In y (space.edges x) → x.1 ≤ y.1
  pub rises : (x y : Pair) → resting x ≡ true → In y (space.edges x) → x.1 < y.1
  pub leads_nowhere : (x : Pair) → is_match x ≡ true → space.edges x ≡ []
  pub writes_nothing : (x : Pair) → is_match x ≡ true → space.capture x ≡ None
  pub increasing : Increasing space.starts

-- a set of match pairs at position e or after it
abbrev pub MatchesFrom : (Pair → Bool) → ℕ → (Pair → Bool) → Type 0
MatchesFrom is_match e target = (x : Pair) → target x ≡ true → (is_match x ≡ true) × (e ≤ x.1)

-- `front` holds the resting pairs that are reached at e, as the search finds them in `turns` turns, for any set of
-- match pairs at e
pub record IsFrontier (space : Space) (resting is_match : Pair → Bool) (slots : Slots) (turns : ℕ)
    (front : List (Pair × Slots)) (e : ℕ) : Type 0 where
  pub waiting : List Task
  pub current : Slots
  pub rest : (a : Pair × Slots) → In a front → (resting a.0 ≡ true) × (a.0.1 ≡ e)
  pub once : NoRepeats (map (λ a. a.0) front)
  pub later : (k : Pair) → In (Explore k) waiting → e < k.1
  pub leads : (target : Pair → Bool) → ((x : Pair) → target x ≡ true → (is_match x ≡ true) × (x.1 ≡ e))
      → (marks : List Pair)
      × ((g : Hit) → ExploresAfter space target 0 front None marks waiting current g
      → ExploresTo space target turns None [] (map Explore space.starts) slots g)

-- nothing is left to explore at position e or after it: a search for any match pairs there finds none
pub record IsOver (space : Space) (is_match : Pair → Bool) (slots : Slots) (turns e : ℕ) : Type 0 where
  pub none : (target : Pair → Bool) → MatchesFrom is_match e target
      → ExploresTo space target turns None [] (map Explore space.starts) slots None

-- A scan at position e, in the form of a loop invariant. It stands for the searches for every set of match pairs at e
-- or after it, all in one state, after `spent` turns.
pub record Scanning (space : Space) (is_match : Pair → Bool) (slots : Slots) (e : ℕ) (Seen : Pair → Type 0) (spent : ℕ)
    (front : List (Pair × Slots)) (work : List Task) (current : Slots) : Type 0 where
  pub searching : (target : Pair → Bool) → MatchesFrom is_match e target
      → Searching space target (λ g total. ExploresTo space target total None [] (map Explore space.starts) slots g)
      Seen spent front None work current

-- the pair's state rests
abbrev pub is_resting : Automaton → Pair → Bool
is_resting nfa v = rests (node_at nfa v.0)
