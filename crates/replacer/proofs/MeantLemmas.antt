-- From the matches and captures of a text to the hits of what the patterns mean.
use Rattle.std.proofs.Common.{◌≡◌, ◌∙◌, ℕ, ◌+◌, ◌-◌, ◌≤◌, ◌<◌, ◌⊎◌, inl, inr, Bool, true, false, List, [], ◌∷◌, length, map, take, All, arith, refl, sym, ap, ap₂, subst, Option, None, Some, if◌then◌else◌}
use Rattle.std.specs.List.{AllByRecursion}
use Rattle.std.specs.Prelude.{IsUtf8}
use Rattle.std.proofs.lemmas.Bool.{cases_lt, lt-ltb, le-ltb}
use Rattle.std.proofs.lemmas.List.{take-append-le, take_all}
use Rattle.std.proofs.lemmas.List.Elements.{recursion_from_All}
use Rattle.nfa_compiler.specs.Common.{Re, find_all_str, is_boundary, all_hits, hits_from, row_of_hit, LosesNoHit, boundary_hit, expected_on_boundary, on_boundary, res_of, IsLeftmostToTheEnd, hit, PatternHit, found_at, pick, all_str_hits, str_hit}
use Rattle.nfa_compiler.specs.Laws.{AllHitsAreFindAll, InBytes, InStrFromAnyStart, MatchesAreAllOfTexts, RowsAreAllOfTexts}
use Rattle.regex_search_core.specs.Found.{Found}
use Rattle.regex_search_core.specs.Search.{Search, whole}
use Rattle.regex_search_core.specs.Slots.{Captured}
use Rattle.nfa_engines.specs.Automaton.{Automaton}
use Rattle.nfa_search_base.specs.Common.{Row, row_of, AreRows, HasGroups, AreFirstMatches, AreMatches}
use Rattle.nfa_engines.specs.Paths.{is_utf8_empty}
use Rattle.nfa_search_base.proofs.ListLemmas.{matches-exist, matches-rest}
use Rattle.nfa_compiler.proofs.AllSearchLemmas.{AreAnsweredBy, all-matches, all-rows}
use Rattle.nfa_compiler.proofs.SearchLemmas.{answered-alike}
use Rattle.nfa_compiler.proofs.EachLemmas.{boundary-lies}
use Rattle.nfa_compiler.proofs.BoundarySearchLemmas.{boundary-answered}
use Rattle.nfa_compiler.proofs.MeantLemmas.{AreAlike, all-meant, first-alike, pick-alike}
use Rattle.nfa_compiler.proofs.UnboundLemmas.{boundary-unbound, hit-unbound, loses-none, texts-lose-none}
use Rattle.nfa_meta.specs.ChoiceState.{ChoiceState, kind_in}
use Rattle.replacer.specs.Hits.{AreAllHits, SearchesFor, captured_by, Sought, hits_in, next_hit, syntax_of}

-- alike hits end on a boundary alike
kept-alike : (text : List ℕ) (h g : Option PatternHit) → AreAlike h g
    → AreAlike (on_boundary text h) (on_boundary text g)
kept-alike text None None a = tt
kept-alike text None (Some g) a = absurd a
kept-alike text (Some h) None a = absurd a
kept-alike text (Some h) (Some g) a =
    of (is_boundary text h.trace.end) (is_boundary text g.trace.end) (ap (is_boundary text) a.end)
  where
    of : (b c : Bool) → b ≡ c → AreAlike (if b then Some h else None) (if c then Some g else None)
    of true true e = a
    of false false e = tt
    of true false e = absurd (cc)
    of false true e = absurd (cc)

-- captures with these groups are known by their rows
captures-are : (nfa : Automaton) (cs : List Captured) (hits : List PatternHit) → AllByRecursion (HasGroups nfa) cs
    → map row_of cs ≡ map (row_of_hit nfa) hits → cs ≡ map (captured_by nfa.groups) hits
captures-are nfa [] [] groups rows = refl
captures-are nfa [] (h ∷ hits) groups rows = absurd (cc)
captures-are nfa (c ∷ cs) [] groups rows = absurd (cc)
captures-are nfa (c ∷ cs) (h ∷ hits) groups rows =
    let one : row_of c ≡ row_of_hit nfa h = (cc) in
    let rest : map row_of cs ≡ map (row_of_hit nfa) hits = (cc) in
    let same : c ≡ captured_by nfa.groups h =
    λ i. record { groups = groups.0.groups i; pattern = (one i).pattern; slots = (one i).slots } in
    ap₂ (λ x xs. x ∷ xs) same (captures-are nfa cs hits groups.1 rest)

module _ (sought : Sought) (res : List Re) (r : ChoiceState) (text : List ℕ) (bytes : All (λ b. b < 256) text)
    (of : SearchesFor sought res r) where
  -- the hits that end on a boundary are those of the tree that was compiled
  module _ (mode : is_utf8_empty r.nfa ≡ true) where
    abbrev trees : List Re
    trees = res_of of.search.compiled.trees

    abbrev at_place : ℕ → Search
    at_place i = record (whole text) { start = i }

    free-alike : (i : ℕ) → AreAlike (expected_on_boundary trees false (at_place i)) (next_hit res true text i)
    unfolding expected_on_boundary
    free-alike i =
        elim (cases_lt (length text) i) [
          | inl past ↦ rw (lt-ltb (length text) i past) tt
          | inr inside ↦
              rw (le-ltb (length text) i inside)
              (first-alike text bytes (λ k. on_boundary text (pick text trees 0 k))
              (λ k. on_boundary text (pick text res 0 k))
              (λ k. kept-alike text (pick text trees 0 k) (pick text res 0 k)
              (pick-alike text bytes trees res 0 k
              (all-meant (syntax_of sought) sought.texts of.search.compiled.trees res
              of.search.compiled.read of.meant)))
              (length text - i + 1) i)
        ]

    next-alike : (i : ℕ) → AreAlike (boundary_hit trees r.nfa (at_place i)) (next_hit res true text i)
    next-alike i =
        subst (λ o. AreAlike o (next_hit res true text i))
        (sym (boundary-unbound trees r.nfa (at_place i) refl
        (loses-none trees r.nfa of.search.compiled.made of.search.free text)))
        (free-alike i)

    answered : AreAnsweredBy r.nfa (whole text) (next_hit res true text)
    answered = record {
      lies = λ i h. boundary-lies res false (at_place i) h refl;
      each = λ i. answered-alike (boundary-answered trees r.nfa of.search.compiled.made mode (at_place i) refl)
          (next_hit res true text i) (next-alike i);
    }

  abbrev leftmost : IsLeftmostToTheEnd (kind_in r) false (whole text)
  leftmost = record { leftmost = of.search.leftmost; latest = refl; whole = refl }

  -- no hit is lost
  kept : LosesNoHit res r.nfa text
  kept = texts-lose-none (syntax_of sought) sought.texts res r.nfa text of.search.compiled of.meant
      of.search.free bytes

  same-from : (i : ℕ) → hit res r.nfa (record (whole text) { start = i }) ≡ next_hit res false text i
  same-from i = hit-unbound res r.nfa (record (whole text) { start = i }) refl kept

  -- the hits of the NFA are those of the patterns
  plain : all_hits res r.nfa (whole text) ≡ hits_in res false text
  plain =
      let all : (λ i. hit res r.nfa (record (whole text) { start = i })) ≡ next_hit res false text =
      λ t i. same-from i t in
      ap₂ (λ (from : ℕ → Option PatternHit) (first : Option PatternHit). hits_from from (length text + 1) first) all
      (same-from 0)

  -- items of all hits of the NFA are those of all hits of the pattern
  of-all : {A : Type 0} (items : List A) (item : PatternHit → A) (hits : List PatternHit)
      → (is_utf8_empty r.nfa ≡ true → items ≡ map item (hits_in res true text))
      → (is_utf8_empty r.nfa ≡ false → items ≡ map item (all_hits res r.nfa (whole text)))
      → (IsUtf8 text → items ≡ map item (all_str_hits res r.nfa (whole text)))
      → AllHitsAreFindAll str_hit find_all_str
      → AreAllHits res (is_utf8_empty r.nfa) text hits → items ≡ map item hits
  of-all items item hits on-boundary texts strs found (inl e) =
      by-mode (is_utf8_empty r.nfa) refl ∙ ap (map item) (sym e)
    where
      by-mode : (b : Bool) → is_utf8_empty r.nfa ≡ b → items ≡ map item (hits_in res b text)
      by-mode true mode = on-boundary mode
      by-mode false mode = texts mode ∙ ap (map item) plain
  of-all items item hits on-boundary texts strs found (inr (utf8, (re, one, e))) =
      let alone : LosesNoHit (re ∷ []) r.nfa text = subst (λ (rs : List Re). LosesNoHit rs r.nfa text) one kept in
      strs utf8
      ∙ ap (λ (rs : List Re). map item (all_str_hits rs r.nfa (whole text))) one
      ∙ ap (map item) (found re r.nfa (whole text) alone refl refl refl ∙ sym e)

  module _ (texts : MatchesAreAllOfTexts InBytes hit) (strs : MatchesAreAllOfTexts InStrFromAnyStart str_hit)
      (found : AllHitsAreFindAll str_hit find_all_str) where
    pub matches-are : (ms : List Found) → AreMatches r.nfa (kind_in r) false (whole text) ms
        → (hits : List PatternHit)
        → AreAllHits res (is_utf8_empty r.nfa) text hits → ms ≡ map found_at hits
    matches-are ms are hits =
        of-all ms found_at hits (λ mode. all-matches (answered mode) ms (rw of.search.leftmost at are))
        (λ mode. texts (syntax_of sought) sought.texts res r.nfa (kind_in r) false (whole text) ms
        of.search.compiled of.meant mode leftmost bytes are)
        (λ utf8. strs (syntax_of sought) sought.texts res r.nfa (kind_in r) false (whole text) ms
        of.search.compiled of.meant of.search.compiled.mode of.search.free leftmost utf8 are) found

    pub first-are : (ms : List Found) (count : ℕ) → AreFirstMatches r.nfa (kind_in r) false (whole text) ms
        → (length ms ≡ count) ⊎ AreMatches r.nfa (kind_in r) false (whole text) ms → length ms ≤ count
        → (hits : List PatternHit) → AreAllHits res (is_utf8_empty r.nfa) text hits → ms
        ≡ take count (map found_at hits)
    first-are ms count first (inl same) few hits h =
        let all = matches-exist r.nfa (kind_in r) false (whole text) in
        let rest = matches-rest r.nfa (kind_in r) false (whole text) ms all.0 first all.1 in
        let within : count ≤ length ms = omega (arith, same) in
        sym (ap (take count) (sym (matches-are all.0 all.1 hits h) ∙ rest.1)
        ∙ take-append-le count ms rest.0 within ∙ take_all count ms few)
    first-are ms count first (inr are) few hits h =
        let is = matches-are ms are hits h in
        is ∙ sym (take_all count (map found_at hits) (subst (λ (l : List Found). length l ≤ count) is few))

  module _ (texts : RowsAreAllOfTexts InBytes hit) (strs : RowsAreAllOfTexts InStrFromAnyStart str_hit)
      (found : AllHitsAreFindAll str_hit find_all_str) where
    rows-are : (rows : List Row) → AreRows r.nfa (kind_in r) false (whole text) rows → (hits : List PatternHit)
        → AreAllHits res (is_utf8_empty r.nfa) text hits → rows ≡ map (row_of_hit r.nfa) hits
    rows-are rows are hits =
        of-all rows (row_of_hit r.nfa) hits (λ mode. all-rows (answered mode) rows (rw of.search.leftmost at are))
        (λ mode. texts (syntax_of sought) sought.texts res r.nfa (kind_in r) false (whole text) rows
        of.search.compiled of.meant mode leftmost bytes are)
        (λ utf8. strs (syntax_of sought) sought.texts res r.nfa (kind_in r) false (whole text) rows
        of.search.compiled of.meant of.search.compiled.mode of.search.free leftmost utf8 are) found

    pub caught-are : (cs : List Captured) → AreRows r.nfa (kind_in r) false (whole text) (map row_of cs)
        → All (HasGroups r.nfa) cs → (hits : List PatternHit) → AreAllHits res (is_utf8_empty r.nfa) text hits
        → cs ≡ map (captured_by r.nfa.groups) hits
    caught-are cs are groups hits h =
        captures-are r.nfa cs hits (recursion_from_All (HasGroups r.nfa) cs groups)
        (rows-are (map row_of cs) are hits h)
