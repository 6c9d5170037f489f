-- What a search answers, from its scans: the last one, and the only one if a match may end anywhere. The match of a
-- search is what its answer for all slots gives.
use Rattle.nfa_paths.proofs.Common.{◌≡◌, ◌∙◌, ℕ, ◌<◌, Bool, true, false, MatchBool, List, length, refl, ap, sym, subst, arith, Option, None, Some, option_and_then, Found, slot_count, Search, is_anchored, match_of, MatchKind, Automaton, Pair, is_utf8_empty, path_pattern, raised, slot_row, EndsOnBoundary, IsAnswer, IsFindAnswer, IsKeptAnswer, IsRestartedAnswer, IsScanAnswer, IsSearchAnswer, IsWhole, SplitsCharacter}
use Rattle.nfa_paths.proofs.PatternLemmas.{length-slot_row}
use Rattle.nfa_paths.proofs.StartLemmas.{raised-zero}

module _ (nfa : Automaton) (kind : MatchKind) (earliest : Bool) (x : Search) where
  -- the last scan of a search with a path, which is the only one if the search is anchored
  pub record LastScan (restarts : ℕ) (p : List Pair) : Type 0 where
    pub scan : IsScanAnswer nfa (raised x restarts) kind earliest (Some p)
    pub whole : is_utf8_empty nfa ≡ true → EndsOnBoundary x p
    pub only : is_anchored x.anchored ≡ true → IsScanAnswer nfa x kind earliest (Some p)

  pub last-scan : (restarts : ℕ) (p : List Pair) → IsSearchAnswer nfa kind earliest x restarts (Some p)
      → LastScan restarts p
  last-scan restarts p = of (is_utf8_empty nfa) (is_anchored x.anchored) refl refl
    where
      here : restarts ≡ 0 → IsScanAnswer nfa x kind earliest (Some p)
          → IsScanAnswer nfa (raised x restarts) kind earliest (Some p)
      here none scan = rw (none, raised-zero x) scan

      of : (u a : Bool) → is_utf8_empty nfa ≡ u → is_anchored x.anchored ≡ a
          → MatchBool u (MatchBool a ((restarts ≡ 0) × IsKeptAnswer nfa kind earliest x (Some p))
          (IsRestartedAnswer nfa kind earliest x restarts (Some p)))
          ((restarts ≡ 0) × IsScanAnswer nfa x kind earliest (Some p)) → LastScan restarts p
      of = grind (arith, here)

  -- An answer of the scan after these restarts, each after a scan that splits a codepoint, is that of the search if it
  -- is whole or need not be.
  pub settled-scan : (n : ℕ) (r : Option (List Pair))
      → ((i : ℕ) → i < n → SplitsCharacter nfa kind earliest (raised x i))
      → (0 < n → (is_utf8_empty nfa ≡ true) × (is_anchored x.anchored ≡ false))
      → IsScanAnswer nfa (raised x n) kind earliest r → (is_utf8_empty nfa ≡ true → IsWhole x r)
      → IsSearchAnswer nfa kind earliest x n r
  settled-scan n r skipped free scan whole = of (is_utf8_empty nfa) (is_anchored x.anchored) refl refl
    where
      first : n ≡ 0 → IsScanAnswer nfa x kind earliest r
      first none = subst (λ z. IsScanAnswer nfa z kind earliest r) (raised-zero x) (rw none at scan)

      of : (utf8 anchored : Bool) → is_utf8_empty nfa ≡ utf8 → is_anchored x.anchored ≡ anchored
          → MatchBool utf8 (MatchBool anchored ((n ≡ 0) × IsKeptAnswer nfa kind earliest x r)
          (IsRestartedAnswer nfa kind earliest x n r)) ((n ≡ 0) × IsScanAnswer nfa x kind earliest r)
      of = grind (arith, first)

  -- a scan whose path is whole, if it has to be, answers its search
  pub first-scan : (r : Option (List Pair)) → IsScanAnswer nfa x kind earliest r
      → (is_utf8_empty nfa ≡ true → IsWhole x r) → IsSearchAnswer nfa kind earliest x 0 r
  first-scan r scan = settled-scan 0 r (λ i less. absurd (omega arith)) (λ less. absurd (omega arith))
      (rw (raised-zero x) scan)

  module _ (anywhere : is_utf8_empty nfa ≡ false) where
    -- if a match may end anywhere, the answer of a search is that of its scan
    pub scan-of : (restarts : ℕ) (r : Option (List Pair)) → IsSearchAnswer nfa kind earliest x restarts r
        → IsScanAnswer nfa x kind earliest r
    scan-of restarts r h =
        let scan : (restarts ≡ 0) × IsScanAnswer nfa x kind earliest r = rw anywhere at h in scan.1

    -- and the other way round
    pub search-of : (r : Option (List Pair)) → IsScanAnswer nfa x kind earliest r
        → IsSearchAnswer nfa kind earliest x 0 r
    search-of r h = rw anywhere (refl, h)

  -- the path of an answer that has a pattern
  pub record HasPath (pattern : ℕ) (slots : List (Option ℕ)) : Type 0 where
    pub restarts : ℕ
    pub path : List Pair
    pub answers : IsSearchAnswer nfa kind earliest x restarts (Some path)
    pub pattern_is : Some pattern ≡ path_pattern nfa path
    pub slots_are : slots ≡ slot_row nfa (length slots) (Some path)

  pub has-path : (pattern : ℕ) (slots : List (Option ℕ)) → IsAnswer nfa kind earliest x (Some pattern) slots
      → HasPath pattern slots
  has-path pattern slots h = grind arith

  -- the answer of a search for all slots, which gives the match
  pub record GivesMatch (found : Option Found) : Type 0 where
    pub pattern : Option ℕ
    pub slots : List (Option ℕ)
    pub answers : IsAnswer nfa kind earliest x pattern slots
    pub count : length slots ≡ slot_count nfa.groups
    pub is : found ≡ match_of pattern slots

  unfoldable pub gives : (found : Option Found) → IsFindAnswer nfa kind earliest x found → GivesMatch found
  gives found a =
      let n = slot_count nfa.groups in
      let long = length-slot_row nfa n a.path in
      record {
        pattern = option_and_then (path_pattern nfa) a.path;
        slots = slot_row nfa n a.path;
        answers = record {
          restarts = a.restarts;
          path = a.path;
          answers = a.answers;
          pattern_is = refl;
          slots_are = ap (λ (c : ℕ). slot_row nfa c a.path) (sym long);
        };
        count = long;
        is = a.found_is;
      }

  pub given : (pattern : Option ℕ) (slots : List (Option ℕ)) → length slots ≡ slot_count nfa.groups
      → IsAnswer nfa kind earliest x pattern slots → IsFindAnswer nfa kind earliest x (match_of pattern slots)
  given pattern slots count a = grind arith

-- a search that has the answers of another has its matches
pub match-by : {n m : Automaton} {kind : MatchKind} {earliest : Bool} {x y : Search} {found : Found}
    → slot_count n.groups ≡ slot_count m.groups
    → ((pattern : ℕ) (slots : List (Option ℕ)) → IsAnswer n kind earliest x (Some pattern) slots
    → IsAnswer m kind earliest y (Some pattern) slots)
    → IsFindAnswer n kind earliest x (Some found) → IsFindAnswer m kind earliest y (Some found)
match-by {n} {m} {kind} {earliest} {x} {y} {found} groups to h =
    let g = gives n kind earliest x (Some found) h in of g.pattern g.slots g.answers g.count g.is
  where
    of : (pattern : Option ℕ) (slots : List (Option ℕ)) → IsAnswer n kind earliest x pattern slots
        → length slots ≡ slot_count n.groups → Some found ≡ match_of pattern slots
        → IsFindAnswer m kind earliest y (Some found)
    of None slots a count is = cc
    of (Some pattern) slots a count is =
        subst (IsFindAnswer m kind earliest y) (sym is)
        (given m kind earliest y (Some pattern) slots (count ∙ groups) (to pattern slots a))
