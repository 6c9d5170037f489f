-- The answer of a leftmost first search in UTF-8 mode is the hit that ends on a boundary: what a scan finds counts if
-- it ends on one; if not, the search is to find what it is to find from one byte further on.
use Rattle.nfa_paths.proofs.Common.{◌≡◌, ℕ, zero, suc, ◌+◌, ◌-◌, ◌≤◌, inl, inr, Bool, true, false, List, length, refl, arith, Option, None, Some, if◌then◌else◌, nat_tests, slice_get_past, slice_get-get_or, IsBoundary, Search, is_anchored, raised, No, sym, ap, subst, false_from_ne_true, Anchored, Automaton, Pair, is_utf8_empty, EndsOnBoundary, IsWhole, SplitsCharacter, IsKeptAnswer, IsRestartedAnswer, IsScanAnswer, IsSearchAnswer, LeftmostFirst}
use Rattle.nfa_compiler.specs.Common.{Re, is_boundary, is_none_or, ends_on_boundary, expected_on_boundary, on_boundary, restarted_hit, PatternHit, expected, first_hit, pick, IsNfaOf}
use Rattle.nfa_compiler.proofs.EachLemmas.{in-each-mode, hit-lies}
use Rattle.nfa_paths.proofs.AnswerLemmas.{ends_on_boundary as ends_where}
use Rattle.nfa_paths.proofs.PathToLemmas.{EndsWith-last}
use Rattle.nfa_compiler.proofs.SearchLemmas.{IsAnsweredBy, is_bound, told-scan}
use Rattle.nfa_compiler.proofs.StartLemmas.{TellsHit, ToldHit}

-- the two definitions of a boundary agree within the haystack

pub boundary-true : (haystack : List ℕ) (i : ℕ) → IsBoundary haystack i → is_boundary haystack i ≡ true
unfolding is_boundary
boundary-true haystack i (inl end) = rw (slice_get_past haystack i (omega arith)) refl
boundary-true haystack i (inr b) = grind (arith, nat_tests, slice_get-get_or haystack i 0)

pub boundary-is : (haystack : List ℕ) (i : ℕ) → i ≤ length haystack → is_boundary haystack i ≡ true
    → IsBoundary haystack i
unfolding is_boundary
boundary-is haystack i within e = grind (arith, nat_tests, slice_get-get_or haystack i 0)

module _ (haystack : List ℕ) (at : ℕ → Option PatternHit) where
  -- the first hit ends on a boundary, or there is none
  first-kept : (n i : ℕ) → is_none_or (first_hit at n i) (ends_on_boundary haystack) ≡ true
      → first_hit (λ j. on_boundary haystack (at j)) n i ≡ first_hit at n i
  first-kept zero i e = refl
  first-kept (suc n) i e = grind (arith, first-kept n (i + 1))

  -- it does not: none that starts there ends on one
  first-split : (n i : ℕ) (h : PatternHit) → first_hit at (suc n) i ≡ Some h → ends_on_boundary haystack h ≡ false
      → first_hit (λ j. on_boundary haystack (at j)) (suc n) i ≡ first_hit (λ j. on_boundary haystack (at j)) n (i + 1)
  first-split n i h e off = grind arith

module _ (res : List Re) (bound : Bool) (x : Search) where
  -- an anchored search
  pub anchored-kept : is_anchored x.anchored ≡ true
      → expected_on_boundary res bound x ≡ on_boundary x.haystack (expected res bound x)
  unfolding expected expected_on_boundary
  anchored-kept anchored = grind (arith, nat_tests, in-each-mode)

  -- what a scan of n positions from i on finds, and what the search does
  abbrev scan_hit : Bool → ℕ → ℕ → Option PatternHit
  scan_hit b n i = first_hit (pick x.haystack res 0) (if b then 1 else n) i

  abbrev search_hit : Bool → ℕ → ℕ → Option PatternHit
  search_hit b n i =
      if b then restarted_hit x.haystack (pick x.haystack res 0) n i
      else first_hit (λ j. on_boundary x.haystack (pick x.haystack res 0 j)) n i

  searched-kept : (b : Bool) (n i : ℕ) → is_none_or (scan_hit b (suc n) i) (ends_on_boundary x.haystack) ≡ true
      → search_hit b (suc n) i ≡ scan_hit b (suc n) i
  searched-kept false n i e = first-kept x.haystack (pick x.haystack res 0) (suc n) i e
  searched-kept true n i e = grind arith

  searched-split : (b : Bool) (n i : ℕ) (h : PatternHit) → scan_hit b (suc n) i ≡ Some h
      → ends_on_boundary x.haystack h ≡ false → search_hit b (suc n) i ≡ search_hit b n (i + 1)
  searched-split false n i h e off = first-split x.haystack (pick x.haystack res 0) n i h e off
  searched-split true n i h e off = grind arith

  searched-none : (b : Bool) (i : ℕ) → search_hit b 0 i ≡ None
  searched-none true i = refl
  searched-none false i = refl

  module _ (free : x.anchored ≡ No) where
    count : x.end - x.start + 1 ≡ suc (x.end - x.start)
    count = omega arith

    -- what a scan finds counts
    pub free-kept : is_none_or (expected res bound x) (ends_on_boundary x.haystack) ≡ true
        → expected_on_boundary res bound x ≡ expected res bound x
    unfolding expected expected_on_boundary
    free-kept e = grind (arith, nat_tests, searched-kept bound (x.end - x.start) x.start)

    -- it does not: the search is to find what it is to find from one byte further on
    pub free-split : (h : PatternHit) → expected res bound x ≡ Some h → ends_on_boundary x.haystack h ≡ false
        → expected_on_boundary res bound x ≡ expected_on_boundary res bound (raised x 1)
    unfolding expected expected_on_boundary
    free-split h e off =
        grind (arith, nat_tests, searched-split bound (x.end - x.start) x.start h, searched-none bound (x.start + 1))

-- a search that is not anchored
unanchored : (mode : Anchored) → is_anchored mode ≡ false → mode ≡ No
unanchored mode is = grind arith

-- no restart, and one restart before the others
pub raised-none : (x : Search) → x ≡ raised x 0
raised-none x = let same : x.start ≡ x.start + 0 = omega arith in ap (λ n. record x { start = n }) same

raised-more : (x : Search) (i : ℕ) → raised x (suc i) ≡ raised (raised x 1) i
raised-more x i =
    let same : x.start + suc i ≡ x.start + 1 + i = omega arith in ap (λ n. record x { start = n }) same

module _ (res : List Re) (a : Automaton) (made : IsNfaOf res a) (mode : is_utf8_empty a ≡ true) where
  -- what a search is to find, in one scan and in all
  abbrev scanned : Search → Option PatternHit
  scanned x = expected res (is_bound res a made) x

  abbrev searched : Search → Option PatternHit
  searched x = expected_on_boundary res (is_bound res a made) x

  module _ (x : Search) (whole : x.end ≡ length x.haystack) where
    -- the answer of a scan is the path of the hit
    told-first : (path : Option (List Pair)) → IsScanAnswer a x LeftmostFirst false path → TellsHit a (scanned x) path
    told-first = told-scan res a made x whole

    -- the path ends on a boundary exactly if the hit does
    told-end : (h : PatternHit) (p : List Pair) → ToldHit a h p
        → (EndsOnBoundary x p → IsBoundary x.haystack h.trace.end)
        × (IsBoundary x.haystack h.trace.end → EndsOnBoundary x p)
    told-end h p t =
        let b = ends_where x p (EndsWith-last None t.end p t.ends) in
        (λ on. subst (IsBoundary x.haystack) t.at (b.0 on), λ on. b.1 (subst (IsBoundary x.haystack) (sym t.at) on))

    -- the same, as the test of the hit
    on-true : (h : PatternHit) (p : List Pair) → ToldHit a h p → EndsOnBoundary x p → ends_on_boundary x.haystack h
        ≡ true
    on-true h p t on = boundary-true x.haystack h.trace.end ((told-end h p t).0 on)

    on-false : (h : PatternHit) (p : List Pair) → scanned x ≡ Some h → ToldHit a h p → (EndsOnBoundary x p → ⊥)
        → ends_on_boundary x.haystack h ≡ false
    on-false h p is t off =
        let within = (hit-lies res (is_bound res a made) x h whole is).inside in
        false_from_ne_true (ends_on_boundary x.haystack h)
        (λ on. off ((told-end h p t).1 (boundary-is x.haystack h.trace.end within on)))

    -- the scan's answer counts
    kept : (path : Option (List Pair)) → IsScanAnswer a x LeftmostFirst false path → IsWhole x path
        → is_none_or (scanned x) (ends_on_boundary x.haystack) ≡ true
    kept path answers on = grind (arith, told-first path answers, on-true)

    -- it does not
    split : SplitsCharacter a LeftmostFirst false x
        → (h : PatternHit) × (scanned x ≡ Some h) × (ends_on_boundary x.haystack h ≡ false)
    split s = of (scanned x) refl (told-first (Some s.path) s.answers)
      where
        of : (o : Option PatternHit) → scanned x ≡ o → TellsHit a o (Some s.path)
            → (h : PatternHit) × (scanned x ≡ Some h) × (ends_on_boundary x.haystack h ≡ false)
        of None is t = absurd t
        of (Some h) is t = (h, is, on-false h s.path is t s.splits)

    -- the answer of an anchored search
    told-kept : is_anchored x.anchored ≡ true → (path : Option (List Pair)) → IsKeptAnswer a LeftmostFirst false x path
        → TellsHit a (searched x) path
    told-kept anchored path answer =
        rw (anchored-kept res (is_bound res a made) x anchored) (of path answer)
      where
        on : (o : Option PatternHit) (path : Option (List Pair)) → TellsHit a o path
            → is_none_or o (ends_on_boundary x.haystack) ≡ true → TellsHit a (on_boundary x.haystack o) path
        on None path t e = t
        on (Some h) path t e = rw e t

        of : (path : Option (List Pair)) → IsKeptAnswer a LeftmostFirst false x path
            → TellsHit a (on_boundary x.haystack (scanned x)) path
        of None (inl answers) = on (scanned x) None (told-first None answers) (kept None answers tt)
        of None (inr s) = let h = split s in rw (h.1, h.2) tt
        of (Some p) answer = on (scanned x) (Some p) (told-first (Some p) answer.0) (kept (Some p) answer.0 answer.1)

  -- the answer of one that starts again
  told-restarted : (restarts : ℕ) (x : Search) → x.end ≡ length x.haystack → x.anchored ≡ No
      → (path : Option (List Pair)) → IsRestartedAnswer a LeftmostFirst false x restarts path
      → TellsHit a (searched x) path
  told-restarted zero x whole free path answer =
      let here : IsScanAnswer a x LeftmostFirst false path =
      subst (λ y. IsScanAnswer a y LeftmostFirst false path) (sym (raised-none x)) answer.answers in
      rw (free-kept res (is_bound res a made) x free (kept x whole path here answer.whole))
      (told-first x whole path here)
  told-restarted (suc n) x whole free path answer =
      let first : SplitsCharacter a LeftmostFirst false x =
      subst (SplitsCharacter a LeftmostFirst false) (sym (raised-none x)) (answer.skipped 0 (omega arith)) in
      let h = split x whole first in
      rw (free-split res (is_bound res a made) x free h.0 h.1 h.2)
      (told-restarted n (raised x 1) whole free path (record {
        skipped = λ i below. subst (SplitsCharacter a LeftmostFirst false) (raised-more x i)
            (answer.skipped (suc i) (omega arith));
        answers = subst (λ y. IsScanAnswer a y LeftmostFirst false path) (raised-more x n) answer.answers;
        whole = answer.whole;
      }))

  module _ (x : Search) (whole : x.end ≡ length x.haystack) where
    told-search : (restarts : ℕ) (path : Option (List Pair)) → IsSearchAnswer a LeftmostFirst false x restarts path
        → TellsHit a (searched x) path
    told-search restarts path answers = grind (arith, nat_tests, TellsHit, told-kept, told-restarted, unanchored)

    -- the search's answer is the hit
    pub boundary-answered : IsAnsweredBy a x (searched x)
    boundary-answered = record { told = told-search }
