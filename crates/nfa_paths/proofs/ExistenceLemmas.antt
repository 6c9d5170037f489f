-- Every scan and every search of any NFA has an answer.
use Rattle.std.proofs.Math.Decide.{ℕ_discrete}
use Rattle.regex_search_core.specs.declared.search.MatchKind.TheVariants.{All}
use Rattle.nfa_paths.proofs.MemberLemmas.{In-append_left, In-append_right}
use Rattle.nfa_paths.proofs.StartLemmas.{pairs_from-has, starts-increase, IsMatch-edges}
use Rattle.nfa_paths.proofs.AnswerLemmas.{scan_answer-leads}
use Rattle.nfa_paths.proofs.OneScanLemmas.{first-scan, scan-of}
use Rattle.nfa_paths.proofs.ScanAnswerLemmas.{edges-within, starts-within}
use Rattle.nfa_paths.proofs.FinitePathLemmas.{IsFinite, first_to, first_path_exists, earliest_path_exists, last_path_exists, earliest_last_path_exists}
use Rattle.nfa_paths.proofs.Common.{◌≡◌, ℕ, zero, suc, ◌+◌, ◌≤◌, ◌<◌, ◌⊎◌, inl, inr, Bool, true, false, List, [], ◌∷◌, ◌++◌, length, refl, subst, arith, rules, Option, None, Some, is_some, MatchBool, below_more, cases_lt, get_or_past, Search, is_anchored, MatchKind, Automaton, Pair, In, NoPath, IsFirstPath, Passes, pairs_from, raised, node_at, is_match, IsMatch, is_utf8_empty, edges_of, edges, starts, IsScanAnswer, EndsOnBoundary, IsWhole, SplitsCharacter, IsKeptAnswer, IsRestartedAnswer, IsSearchAnswer, LeftmostFirst, Fail}

-- the pairs of an NFA

-- the pairs of the states below a number, at the positions below another
all_pairs : ℕ → ℕ → List Pair
all_pairs zero count = []
all_pairs (suc state) count = pairs_from state 0 count ++ all_pairs state count

-- each such pair is there
In-all_pairs : (states count : ℕ) (v : Pair) → v.0 < states → v.1 < count → In v (all_pairs states count)
unfolding all_pairs
In-all_pairs zero count v state below = absurd (omega arith)
In-all_pairs (suc s) count v state below =
    elim (ℕ_discrete v.0 s) [
      | yes is ↦ In-append_left v (pairs_from s 0 count) (all_pairs s count)
          (subst (λ (k : ℕ). In v (pairs_from k 0 count)) is
          (pairs_from-has v.0 0 count v.1 (omega arith) (omega arith)))
      | no other ↦ grind (arith, In-append_right, In-all_pairs s count v (omega arith) below)
    ]

module _ (nfa : Automaton) where
  module _ (x : Search) where
    -- the pairs that a scan may reach
    abbrev scan_pairs : List Pair
    scan_pairs = all_pairs (length nfa.states) (x.end + 1)

    -- a pair is one of them, or its state is none, which is as a Fail
    in_pairs : (v : Pair) → v.1 ≤ x.end → In v scan_pairs ⊎ (node_at nfa v.0 ≡ Fail)
    unfolding node_at
    in_pairs v within =
        elim (cases_lt v.0 (length nfa.states)) [
          | inl state ↦ inl (In-all_pairs (length nfa.states) (x.end + 1) v state (omega arith))
          | inr past ↦ inr (get_or_past nfa.states v.0 Fail past)
        ]

    -- they are finite
    pairs_finite : IsFinite (edges nfa x) (starts nfa x) scan_pairs x.end
    unfolding edges_of
    pairs_finite = record {
      stays = λ v y i within. edges-within nfa x v y i within;
      begins = starts-within nfa x;
      leads_on = grind (arith, in_pairs);
      increase = starts-increase nfa x;
    }

    -- a match is one of them
    matches_in : (v : Pair) → v.1 ≤ x.end → is_match nfa v ≡ true → In v scan_pairs
    matches_in v within t = elim (in_pairs v within) [ inl among ↦ among | inr fails ↦ absurd (cc (rw fails at t)) ]

    -- of the paths to the matches that a test wants there is a first one, or there is none
    pub first_wanted-exists : (wants : Pair → Bool) → ((v : Pair) → wants v ≡ true → is_match nfa v ≡ true)
        → (path : Option (List Pair)) × IsFirstPath (edges nfa x) (starts nfa x) (Passes wants) path
    first_wanted-exists wants sub = first_to pairs_finite wants (λ v t. IsMatch-edges nfa x v (sub v t))

    -- every scan has an answer, of each kind
    pub scan_answer-exists : (kind : MatchKind) (earliest : Bool) → (path : Option (List Pair))
        × IsScanAnswer nfa x kind earliest path
    scan_answer-exists LeftmostFirst false = first_path_exists pairs_finite (is_match nfa)
        (IsMatch-edges nfa x) matches_in
    scan_answer-exists LeftmostFirst true = earliest_path_exists pairs_finite (is_match nfa)
        (IsMatch-edges nfa x) matches_in
    scan_answer-exists All false = last_path_exists pairs_finite (is_match nfa) (IsMatch-edges nfa x) matches_in
    scan_answer-exists All true = earliest_last_path_exists pairs_finite (is_match nfa) (IsMatch-edges nfa x) matches_in

    -- a scan that answers none, of whichever kind, says that no path leads to a match
    pub scan_answer-none : (kind : MatchKind) (earliest : Bool) → IsScanAnswer nfa x kind earliest None
        → NoPath (edges nfa x) (starts nfa x) (IsMatch nfa)
    scan_answer-none LeftmostFirst false h = h
    scan_answer-none LeftmostFirst true h = h
    scan_answer-none All false h = h
    scan_answer-none All true h = h

    -- scans of all kinds find a path, or all find none
    pub scan_answers-agree : (kind other : MatchKind) (earliest sooner : Bool) (r s : Option (List Pair))
        → IsScanAnswer nfa x kind earliest r → IsScanAnswer nfa x other sooner s → is_some r ≡ is_some s
    scan_answers-agree kind other earliest sooner None None h k = refl
    scan_answers-agree kind other earliest sooner None (Some q) h k =
        let leads = scan_answer-leads nfa x other sooner q k in
        absurd (scan_answer-none kind earliest h leads.end q leads.path leads.matches)
    scan_answers-agree kind other earliest sooner (Some p) None h k =
        let leads = scan_answer-leads nfa x kind earliest p h in
        absurd (scan_answer-none other sooner k leads.end p leads.path leads.matches)
    scan_answers-agree kind other earliest sooner (Some p) (Some q) h k = refl

    -- so do searches, if a match may end anywhere
    pub search_answers-agree : is_utf8_empty nfa ≡ false
        → (kind other : MatchKind) (earliest sooner : Bool) (i j : ℕ) (r s : Option (List Pair))
        → IsSearchAnswer nfa kind earliest x i r → IsSearchAnswer nfa other sooner x j s → is_some r ≡ is_some s
    search_answers-agree anywhere kind other earliest sooner i j r s h k =
        scan_answers-agree kind other earliest sooner r s (scan-of nfa kind earliest x anywhere i r h)
        (scan-of nfa other sooner x anywhere j s k)

  -- boundaries

  -- a path ends on a boundary, or not
  EndsOnBoundary-cases : (x : Search) (p : List Pair) → EndsOnBoundary x p ⊎ ¬ (EndsOnBoundary x p)
  EndsOnBoundary-cases x [] = inr (λ h. h)
  EndsOnBoundary-cases x (v ∷ p) = grind (arith, EndsOnBoundary-cases x p)

  module _ (kind : MatchKind) (earliest : Bool) where
    -- a scan splits a codepoint, or has an answer that is whole
    scan-cases : (x : Search) → SplitsCharacter nfa kind earliest x
        ⊎ ((r : Option (List Pair)) × IsScanAnswer nfa x kind earliest r × IsWhole x r)
    scan-cases x = let r = scan_answer-exists x kind earliest in of r.0 r.1
      where
        of : (r : Option (List Pair)) → IsScanAnswer nfa x kind earliest r
            → SplitsCharacter nfa kind earliest x ⊎ ((r : Option (List Pair))
            × IsScanAnswer nfa x kind earliest r × IsWhole x r)
        of None h = inr (None, h, tt)
        of (Some p) h =
            elim (EndsOnBoundary-cases x p) [
              | inl whole ↦ inr (Some p, h, whole)
              | inr splits ↦ inl (record { path = p; answers = h; splits = splits })
            ]

    -- with `left` positions left, a search that has restarted `restarts` times has an answer
    restarted_from : (x : Search) (left restarts : ℕ) → x.end < x.start + restarts + left
        → ((i : ℕ) → i < restarts → SplitsCharacter nfa kind earliest (raised x i))
        → (n : ℕ) × (r : Option (List Pair)) × IsRestartedAnswer nfa kind earliest x n r
    restarted_from x zero restarts few skipped =
        elim (scan-cases (raised x restarts)) [
          | inl split ↦ search rules
          | inr h ↦ (restarts, h.0, record { skipped = skipped; answers = h.1; whole = h.2 })
        ]
    restarted_from x (suc left) restarts few skipped =
        elim (scan-cases (raised x restarts)) [
          | inl split ↦ restarted_from x left (restarts + 1) (omega arith)
              (below_more (λ i. SplitsCharacter nfa kind earliest (raised x i)) restarts skipped split)
          | inr h ↦ (restarts, h.0, record { skipped = skipped; answers = h.1; whole = h.2 })
        ]

    -- every search has an answer, after some restarts
    pub search_answer-exists : (x : Search) → (restarts : ℕ) × (path : Option (List Pair))
        × IsSearchAnswer nfa kind earliest x restarts path
    search_answer-exists x =
        elim (scan-cases x) [
          | inl split ↦ of split (is_utf8_empty nfa) (is_anchored x.anchored)
          | inr h ↦ (0, h.0, first-scan nfa kind earliest x h.0 h.1 (λ mode. h.2))
        ]
      where
        of : SplitsCharacter nfa kind earliest x → (b c : Bool) → (restarts : ℕ) × (path : Option (List Pair))
            × MatchBool b (MatchBool c ((restarts ≡ 0) × IsKeptAnswer nfa kind earliest x path)
            (IsRestartedAnswer nfa kind earliest x restarts path))
            ((restarts ≡ 0) × IsScanAnswer nfa x kind earliest path)
        of split true true = (0, None, (refl, inr split))
        of split true false = restarted_from x (x.end + 1) 0 (omega arith) (λ i below. absurd (omega arith))
        of split false c = (0, Some split.path, (refl, split.answers))
