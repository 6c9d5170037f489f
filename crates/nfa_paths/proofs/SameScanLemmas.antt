-- Two searches of one haystack that explore the same have the same answers. Their NFAs may differ in what their paths
-- write and in the anchored start, and the searches in the anchoring and the `earliest` flag, which no path reads.
use Rattle.regex_search_core.specs.declared.search.MatchKind.TheVariants.{All}
use Rattle.nfa_paths.proofs.PathToLemmas.{IsFirstTo-along}
use Rattle.nfa_paths.proofs.Common.{◌≡◌, ℕ, Bool, true, false, List, refl, subst, Option, Some, arith, Found, Search, is_anchored, Anchored, MatchKind, Automaton, Pair, edges, edges_of, is_match, is_utf8_empty, node_at, slot_row, starts, IsAnswer, IsBoolAnswer, IsFindAnswer, IsFirstPath, IsEarliestPath, IsLastPath, IsEarliestLastPath, IsScanAnswer, IsSearchAnswer, Passes, SplitsCharacter, LeftmostFirst, None, rules, WantedAt, IsLeastEnd, WantedBefore}

-- what a scan explores, and the pairs that it is for
pub record Explored : Type 0 where
  pub edges : Pair → List Pair
  pub starts : List Pair
  pub is_match : Pair → Bool

abbrev pub explored : Automaton → Search → Explored
explored nfa x = record { edges = edges nfa x; starts = starts nfa x; is_match = is_match nfa }

-- scans that explore the same have the same answers
pub scan-alike : (n m : Automaton) (x y : Search) → explored n x ≡ explored m y → (kind : MatchKind) (earliest : Bool)
    (r : Option (List Pair)) → IsScanAnswer n x kind earliest r
    → IsScanAnswer m y kind earliest r
scan-alike n m x y e LeftmostFirst false r h =
    subst (λ (g : Explored). IsFirstPath g.edges g.starts (Passes g.is_match) r) e h
scan-alike n m x y e LeftmostFirst true r h =
    subst (λ (g : Explored). IsEarliestPath g.edges g.starts (Passes g.is_match) r) e h
scan-alike n m x y e All false r h =
    subst (λ (g : Explored). IsLastPath g.edges g.starts (Passes g.is_match) r) e h
scan-alike n m x y e All true r h =
    subst (λ (g : Explored). IsEarliestLastPath g.edges g.starts (Passes g.is_match) r) e h

-- the search with this start, anchoring and flag
abbrev pub turned : Search → ℕ → Anchored → Bool → Search
turned x s anchored flag = record x { start = s; anchored = anchored; earliest = flag }

-- The scans of the search have answers of those of another NFA with this anchoring and flag, from each start on.
pub record ScansCarry (n m : Automaton) (x : Search) (anchored : Anchored) (flag : Bool) (kind : MatchKind)
    (earliest : Bool) : Type 0 where
  pub utf8 : is_utf8_empty n ≡ is_utf8_empty m
  pub bound : is_anchored x.anchored ≡ is_anchored anchored
  pub scans : (s : ℕ) (r : Option (List Pair)) → IsScanAnswer n (record x { start = s }) kind earliest r
      → IsScanAnswer m (turned x s anchored flag) kind earliest r

module _ {n m : Automaton} {x : Search} {anchored : Anchored} {flag : Bool} {kind : MatchKind} {earliest : Bool}
    (carry : ScansCarry n m x anchored flag kind earliest) where
  abbrev there : Search
  there = turned x x.start anchored flag

  split-carried : (s : ℕ) → SplitsCharacter n kind earliest (record x { start = s })
      → SplitsCharacter m kind earliest (turned x s anchored flag)
  split-carried s h = record { path = h.path; answers = carry.scans s (Some h.path) h.answers; splits = h.splits }

  -- so do their searches
  pub search-carried : (i : ℕ) (r : Option (List Pair)) → IsSearchAnswer n kind earliest x i r
      → IsSearchAnswer m kind earliest there i r
  search-carried i r h = grind (arith, split-carried)

  -- and whether there is a match
  pub found-carried : (found : Bool) → IsBoolAnswer n kind earliest x found → IsBoolAnswer m kind earliest there found
  found-carried found h = grind (arith, search-carried)

-- The NFA with this anchored start and the search with this anchoring and flag explore the same, from each start on.
pub record ExploresSame (nfa : Automaton) (x : Search) (state : ℕ) (anchored : Anchored) (flag : Bool) : Type 0 where
  pub bound : is_anchored x.anchored ≡ is_anchored anchored
  pub starts_are : (s : ℕ) → starts nfa (record x { start = s })
      ≡ starts (record nfa { anchored = state }) (turned x s anchored flag)

module _ {nfa : Automaton} {x : Search} {state : ℕ} {anchored : Anchored} {flag : Bool}
    (same : ExploresSame nfa x state anchored flag) (kind : MatchKind) (earliest : Bool) where
  abbrev other : Automaton
  other = record nfa { anchored = state }

  abbrev elsewhere : Search
  elsewhere = turned x x.start anchored flag

  carries : ScansCarry nfa other x anchored flag kind earliest
  unfolding edges_of node_at
  carries = record {
    utf8 = refl;
    bound = same.bound;
    scans = λ s. scan-alike nfa other (record x { start = s }) (turned x s anchored flag)
        (λ i. record { edges = edges nfa x; starts = same.starts_are s i; is_match = is_match nfa }) kind earliest;
  }

  pub search-same : (i : ℕ) (r : Option (List Pair)) → IsSearchAnswer nfa kind earliest x i r
      → IsSearchAnswer other kind earliest elsewhere i r
  search-same = search-carried carries

  -- whether there is a match
  pub found-same : (found : Bool) → IsBoolAnswer nfa kind earliest x found
      → IsBoolAnswer other kind earliest elsewhere found
  found-same = found-carried carries

  -- pattern and slots
  pub answer-same : (pattern : Option ℕ) (slots : List (Option ℕ)) → IsAnswer nfa kind earliest x pattern slots
      → IsAnswer other kind earliest elsewhere pattern slots
  unfolding node_at slot_row
  answer-same pattern slots h = grind (arith, search-same)

  -- the match
  pub match-same : (found : Option Found) → IsFindAnswer nfa kind earliest x found
      → IsFindAnswer other kind earliest elsewhere found
  unfolding node_at slot_row
  match-same found h = grind (arith, search-same)

module _ {P Q : Pair → Type 0} (to : (v : Pair) → P v → Q v) where
  pub at-along : (e : ℕ) (v : Pair) → WantedAt P e v → WantedAt Q e v
  at-along e v h = record { wanted = to v h.wanted; at = h.at }

  pub before-along : (e : ℕ) (v : Pair) → WantedBefore P e v → WantedBefore Q e v
  before-along e v h = record { wanted = to v h.wanted; before = h.before }

module _ (edges : Pair → List Pair) (starts : List Pair) {P Q : Pair → Type 0} (to : (v : Pair) → P v → Q v)
    (back : (v : Pair) → Q v → P v) where
  pub first-along : (path : Option (List Pair)) → IsFirstPath edges starts P path → IsFirstPath edges starts Q path
  first-along None h = λ m p w q. h m p w (back m q)
  first-along (Some p) h = IsFirstTo-along edges starts P Q to back h

  pub least-along : (e : ℕ) → IsLeastEnd edges starts P e → IsLeastEnd edges starts Q e
  least-along e h = record {
    is_end = grind arith;
    least = λ m p w q. h.least m p w (back m q);
  }

  pub earliest-along : (path : Option (List Pair)) → IsEarliestPath edges starts P path
      → IsEarliestPath edges starts Q path
  earliest-along None h = λ m p w q. h m p w (back m q)
  earliest-along (Some p) h = search (rules, least-along, IsFirstTo-along, at-along)
