-- The answer of a leftmost first search of a compiled NFA is the hit that is to be found.
use Rattle.nfa_paths.proofs.Common.{◌≡◌, ℕ, Bool, false, List, ◌∙◌, arith, le-leb, Option, None, is_some, option_map, option_and_then, Found, slot_count, Search, match_of, Automaton, Pair, slot_row, path_pattern, IsSearchAnswer, IsAnswer, IsFindAnswer, IsBoolAnswer, LeftmostFirst, zero, suc, ◌+◌, ◌-◌, ◌≤◌, ◌<◌, ◌⊎◌, inl, inr, [], ◌∷◌, map, length, refl, sym, ap, subst, Some, All, slice_get, slice_index, slice_index_or, if◌then◌else◌, ◌==◌, ◌||◌, option_or, option_map_or, cases_lt, lt-ltb, le-ltb, slice_get_past, slice_get-get_or, number_of, is_anchored, Anchored, IsFirst, FirstAmong, pattern_of, slot_of, node_at, is_match, edges_of, edges, pairs_from, start_state, starts, is_utf8_empty, IsScanAnswer, No, Yes, Pattern, Union, Fail}
use Rattle.nfa_compiler.specs.Common.{AreOfHit, PatternHit, found_of_hit, slots_of, Re, empty, IsPattern, IsNfaOf, expected, first_hit, hit_in_mode, pick, pick_one}
use Rattle.nfa_paths.proofs.PathToLemmas.{EndsWith-last, IsFirstPath-of_all, IsFirstPath-unique}
use Rattle.nfa_compiler.proofs.EachLemmas.{both-elim, both-or}
use Rattle.nfa_compiler.proofs.MeantLemmas.{AreAlike, hit-writes}
use Rattle.nfa_compiler.proofs.StartLemmas.{TellsHit, ToldHit, TellsHit-cons, EndsBy, pattern-first, patterns-among}
use Rattle.nfa_compiler.proofs.BlockLemmas.{offset-at, among-one, among-cons}
use Rattle.nfa_paths.proofs.PathLemmas.{IsFirst-step, IsFirstOfAll-from_among}
use Rattle.nfa_paths.proofs.StartLemmas.{IsMatch-edges, starts-increase}

-- each answer of the search is the path of the hit
pub record IsAnsweredBy (a : Automaton) (x : Search) (h : Option PatternHit) : Type 0 where
  pub told : (restarts : ℕ) (path : Option (List Pair)) → IsSearchAnswer a LeftmostFirst false x restarts path
      → TellsHit a h path

-- a path of the hit has its pattern, its slots and its match, and exists exactly if there is a hit

module _ (a : Automaton) where
  told-pattern : (h : Option PatternHit) (path : Option (List Pair)) → TellsHit a h path
      → option_and_then (path_pattern a) path ≡ option_map (λ (g : PatternHit). g.pattern) h
  told-pattern h path t = grind (arith, EndsWith-last None)

  told-slots : (count : ℕ) (h : Option PatternHit) (path : Option (List Pair)) → TellsHit a h path
      → slot_row a count path ≡ slots_of a.groups count h
  unfolding slot_row slots_of
  told-slots count = grind (arith, both-elim, ToldHit)

  told-match : (h : Option PatternHit) (path : Option (List Pair)) → TellsHit a h path
      → match_of (option_and_then (path_pattern a) path) (slot_row a (slot_count a.groups) path) ≡ found_of_hit h
  unfolding slot_row
  told-match = grind (arith, both-elim, ToldHit, told-pattern, offset-at, le-leb)

  -- of a hit that a caller cannot tell apart
  tells-alike : (h g : Option PatternHit) (path : Option (List Pair)) → TellsHit a h path → AreAlike h g
      → TellsHit a g path
  tells-alike h g path t e = grind (arith, hit-writes a.groups)

  told-found : (h : Option PatternHit) (path : Option (List Pair)) → TellsHit a h path → is_some path ≡ is_some h
  told-found h path t = grind arith

-- what a search gives

module _ {a : Automaton} {x : Search} {h : Option PatternHit} (by : IsAnsweredBy a x h) where
  pub answer-is : (pattern : Option ℕ) (slots : List (Option ℕ)) → IsAnswer a LeftmostFirst false x pattern slots
      → AreOfHit a.groups h pattern slots
  answer-is pattern slots answer = grind (arith, told-pattern, told-slots)

  pub match-is : (found : Option Found) → IsFindAnswer a LeftmostFirst false x found → found ≡ found_of_hit h
  match-is found answer =
      answer.found_is ∙ told-match a h answer.path (by.told answer.restarts answer.path answer.answers)

  pub found-is : (found : Bool) → IsBoolAnswer a LeftmostFirst false x found → found ≡ is_some h
  found-is found answer =
      answer.found_is ∙ told-found a h answer.path (by.told answer.restarts answer.path answer.answers)

  -- and of a hit that a caller cannot tell apart
  pub answered-alike : (g : Option PatternHit) → AreAlike h g → IsAnsweredBy a x g
  answered-alike g e = grind (arith, tells-alike)

-- the first of a list of one is that of its pair
from-one : (edges : Pair → List Pair) (target : Pair → Bool) (marks : List Pair) (w : Pair) (r : Option (List Pair))
    → FirstAmong edges target marks (w ∷ []) r → IsFirst edges target marks w r
from-one edges target marks w r h = grind arith

module _ (res : List Re) (a : Automaton) (made : IsNfaOf res a) where
  -- whether each search is bound to its start
  abbrev pub is_bound : Bool
  is_bound = a.anchored == a.unanchored

  module _ (x : Search) (whole : x.end ≡ length x.haystack) where
    -- from the anchored start the first path is the pick
    abbrev Chosen : ℕ → Type 0
    Chosen i = (r : Option (List Pair)) × TellsHit a (pick x.haystack res 0 i) r
        × IsFirst (edges a x) (is_match a) [] (a.anchored, i) r

    chosen : (i : ℕ) → i ≤ x.end → Chosen i
    unfolding edges_of node_at
    chosen i within = elim made.chooses [ inl h ↦ only h | inr h ↦ union h ]
      where
        each : (j : ℕ) → j < length res
            → IsPattern a.states a.groups (0 + j) (slice_index a.patterns j) (slice_index_or res j empty)
        each j less = let same : j ≡ 0 + j = omega arith in
            subst (λ n. IsPattern a.states a.groups n (slice_index a.patterns j) (slice_index_or res j empty)) same
            (made.each j less)

        among : (marks : List Pair)
            → ((j : ℕ) → j < length a.patterns → EndsBy a x whole (slice_index a.patterns j) marks)
            → (r : Option (List Pair)) × TellsHit a (pick x.haystack res 0 i) r
            × FirstAmong (edges a x) (is_match a) marks (map (λ state. (state, i)) a.patterns) r
        among marks behind = patterns-among a x whole i within res a.patterns 0 made.patterns
            (omega (arith, made.groups)) each marks behind

        only : a.patterns ≡ a.anchored ∷ [] → Chosen i
        only one =
            let w = among [] (λ j less v member. absurd member) in (
              w.0,
              w.1,
              from-one (edges a x) (is_match a) [] (a.anchored, i) w.0
                  (subst (λ ss. FirstAmong (edges a x) (is_match a) [] (map (λ state. (state, i)) ss) w.0) one w.2),
            )

        union : (slice_index_or a.states a.anchored Fail ≡ Union a.patterns) × All (λ s. s < a.anchored) a.patterns
            → Chosen i
        union h =
            let w = among ((a.anchored, i) ∷ []) (λ j less v member. grind (arith, h.1 j 0 less)) in (
              option_map (λ p. (a.anchored, i) ∷ p) w.0,
              TellsHit-cons a (a.anchored, i) (pick x.haystack res 0 i) w.0 (ap slot_of h.0) w.1,
              IsFirst-step (edges a x) (is_match a) [] (a.anchored, i) (λ member. member)
                  (ap (λ n. is_some (pattern_of n)) h.0) w.0
                  (subst (λ es. FirstAmong (edges a x) (is_match a) ((a.anchored, i) ∷ []) es w.0)
                  (sym (ap (λ n. edges_of x n i) h.0)) w.2),
            )

    -- from n positions on, in turn
    run-first : (n i : ℕ) → i + n ≤ x.end + 1 → (r : Option (List Pair))
        × TellsHit a (first_hit (pick x.haystack res 0) n i) r
        × FirstAmong (edges a x) (is_match a) [] (pairs_from a.anchored i n) r
    run-first zero i room = (None, tt, refl)
    run-first (suc n) i room =
        let here = chosen i (omega arith) in
        let rest = run-first n (i + 1) (omega arith) in (
          option_or here.0 rest.0,
          both-or (ToldHit a) (pick x.haystack res 0 i) (first_hit (pick x.haystack res 0) n (i + 1))
              here.0 rest.0 here.1 rest.1,
          among-cons (edges a x) (is_match a) [] (a.anchored, i) (pairs_from a.anchored (i + 1) n)
              here.0 rest.0 here.2 rest.2,
        )

    -- the first path of the search is the expected hit
    abbrev Finds : Option PatternHit → List Pair → Type 0
    Finds h es = (r : Option (List Pair)) × TellsHit a h r × FirstAmong (edges a x) (is_match a) [] es r

    one-position : x.start ≤ x.end → Finds (pick x.haystack res 0 x.start) (pairs_from a.anchored x.start 1)
    one-position inside =
        let here = chosen x.start inside in
        (here.0, here.1, among-one (edges a x) (is_match a) [] (a.anchored, x.start) here.0 here.2)

    finds-at : x.start ≤ x.end → (mode : Anchored)
        → Finds (hit_in_mode
        (first_hit (pick x.haystack res 0) (if is_bound then 1 else (x.end - x.start + 1)) x.start)
        (pick x.haystack res 0 x.start) (λ k. pick_one x.haystack res k x.start) mode)
        (option_map_or (λ state. pairs_from state x.start
        (if is_anchored mode || is_bound then 1 else (x.end - x.start + 1))) (start_state a mode) [])
    finds-at inside No = grind (arith, run-first)
    finds-at inside Yes = one-position inside
    finds-at inside (Pattern pattern) = by_known (cases_lt (number_of pattern) (length res))
      where
        by_known : (number_of pattern < length res) ⊎ (length res ≤ number_of pattern)
            → Finds (pick_one x.haystack res (number_of pattern) x.start)
            (option_map_or (λ state. pairs_from state x.start 1) (slice_get a.patterns (number_of pattern)) [])
        by_known (inl known) =
            let first = pattern-first a x whole (number_of pattern) (slice_index a.patterns (number_of pattern))
            (slice_index_or res (number_of pattern) empty) (made.each (number_of pattern) known)
            (omega (arith, made.groups)) x.start inside in
            rw (
              slice_get-get_or res (number_of pattern) empty known,
              slice_get-get_or a.patterns (number_of pattern) 0 (omega (arith, made.patterns)),
            ) (
              first.0,
              first.1,
              among-one (edges a x) (is_match a) [] (slice_index a.patterns (number_of pattern), x.start) first.0
                  (first.2 [] (λ v member. absurd member)),
            )
        by_known (inr past) =
            rw (
              slice_get_past res (number_of pattern) past,
              slice_get_past a.patterns (number_of pattern)
                  (omega (arith, made.patterns)),
            )
            (None, tt, refl)

    finds : Finds (expected res is_bound x) (starts a x)
    unfolding expected
    finds = elim (cases_lt x.end x.start) [ inl past ↦ behind past | inr inside ↦ ahead inside ]
      where
        nowhere : (o : Option ℕ) → option_map_or (λ state. pairs_from state x.start 0) o [] ≡ []
        nowhere None = refl
        nowhere (Some state) = refl

        behind : x.end < x.start → Finds (expected res is_bound x) (starts a x)
        behind past = rw (lt-ltb x.end x.start past) (rw (nowhere (start_state a x.anchored)) (None, tt, refl))

        ahead : x.start ≤ x.end → Finds (expected res is_bound x) (starts a x)
        ahead inside = rw (le-ltb x.end x.start inside) (finds-at inside x.anchored)

    -- the scan's answer, which is the only one
    pub scan : (r : Option (List Pair)) × TellsHit a (expected res is_bound x) r
        × IsScanAnswer a x LeftmostFirst false r
    scan = let f = finds in (
      f.0,
      f.1,
      IsFirstPath-of_all (edges a x) (starts a x) (is_match a) (starts-increase a x) (IsMatch-edges a x) f.0
          (IsFirstOfAll-from_among (edges a x) (is_match a) [] (starts a x) f.0 f.2),
    )

    pub told-scan : (path : Option (List Pair)) → IsScanAnswer a x LeftmostFirst false path
        → TellsHit a (expected res is_bound x) path
    told-scan path answer = grind (arith, TellsHit, IsFirstPath-unique, scan)

    -- so is the search's
    pub hit-answered : is_utf8_empty a ≡ false → IsAnsweredBy a x (expected res is_bound x)
    hit-answered anywhere = grind (arith, told-scan)
