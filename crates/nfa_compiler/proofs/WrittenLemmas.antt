-- A pattern that is written out matches exactly where the tree that is compiled for its text does.
use Rattle.regex_hir.proofs.AttemptLemmas.{attempt_complete, attempt_sound, cond_some}
use Rattle.regex_hir.proofs.OptionLemmas.{value_of_IsSome}
use Rattle.regex_syntax.proofs.Written.{is_some-option_map}
use Rattle.regex_syntax.proofs.CapturesLemmas.{alike_of_same, alike_sym}
use Rattle.nfa_compiler.proofs.UnboundLemmas.{hit-unbound, loses-none}
use Rattle.regex_hir.proofs.FindLemmas.{IsFirst-of_first_between, none_of_first_between}
use Rattle.nfa_paths.proofs.Common.{◌≡◌, ℕ, ◌≤◌, ◌<◌, Bool, true, false, List, [], ◌∷◌, length, refl, sym, ap, ◌∙◌, subst, arith, eq-eqb, Option, None, Some, All, is_some, option_map, if◌then◌else◌, ◌==◌, ◌↔◌, IsUtf8, AllZip, nat_tests, whole, Automaton, is_utf8_empty, IsBoolAnswer, LeftmostFirst}
use Rattle.nfa_compiler.proofs.SearchLemmas.{found-is, hit-answered}
use Rattle.nfa_compiler.proofs.MeantLemmas.{reads-give}
use Rattle.nfa_compiler.proofs.StrLemmas.{text-bytes, own-free}
use Rattle.nfa_compiler.proofs.AllSearchLemmas.{one-free, one-str-free}
use Rattle.nfa_compiler.specs.Common.{Matches, meaning, Re, Rest, Trace, accept, attempt, SameCaptures, outcome, Config, Parsed, FindsFromAnyStart, IsCompiled, IsTreeOf, res_of, IsReadAs, MatchesIn, MatchesInStr, Match, find, find_str, first_between, is_boundary, PatternHit, expected, hit_by, expected_in_str}

-- what a text is read as

pub read-as : (syntax : Config) (text : List ℕ) (tree : Parsed) (re : Re) → IsTreeOf syntax text tree
    → IsReadAs syntax text re → SameCaptures (meaning tree.hir) re
read-as syntax text tree re read is = grind (arith, nat_tests, reads-give, alike_of_same)

-- patterns that a caller cannot tell apart match alike

some-outcome : (o : Option Trace) → is_some (outcome o) ≡ is_some o
unfolding outcome
some-outcome None = refl
some-outcome (Some t) = refl

module _ (haystack : List ℕ) (bytes : All (λ b. b < 256) haystack) where
  pub match-alike : (a b : Re) → SameCaptures a b → (i j : ℕ) → Matches haystack a i j → Matches haystack b i j
  match-alike a b same i j m =
      let v = value_of_IsSome (attempt haystack b ends i)
      (sym (some-outcome (attempt haystack b ends i)) ∙ ap is_some (sym (same.at haystack bytes ends i))
      ∙ some-outcome (attempt haystack a ends i)
      ∙ attempt_complete haystack a ends i j m (rw (eq-eqb j j refl) refl)) in
      let c = attempt_sound haystack b ends i v.0 v.1 in
      subst (Matches haystack b i) (there c.at (cond_some (c.at == j) (accept c.at) c.rest c.gave).0) c.leads
    where
      -- the match ends at j
      ends : Rest
      ends l = if l == j then accept l else None

      there : (l : ℕ) → (l == j) ≡ true → l ≡ j
      there l e = grind (arith, nat_tests)

-- the only text

module _ (haystack : List ℕ) (bytes : All (λ b. b < 256) haystack) (on : ℕ → Bool) where
  -- the pattern matches from a position that passes the test
  abbrev Placed : Re → Type 0
  Placed re = (i : ℕ) × (j : ℕ) × (i ≤ length haystack) × (on i ≡ true) × Matches haystack re i j

  abbrev at_place : Re → Rest
  at_place re i = if on i then attempt haystack re accept i else None

  abbrev first_placed : Re → Option Match
  first_placed re = first_between (at_place re) 0 (length haystack)

  found-placed : (re : Re) → is_some (first_placed re) ≡ true → Placed re
  found-placed re found = grind (arith, nat_tests, value_of_IsSome, IsFirst-of_first_between, cond_some, attempt_sound)

  placed-found : (re : Re) → Placed re → is_some (first_placed re) ≡ true
  placed-found re m =
      let some = attempt_complete haystack re accept m.0 m.1 m.4 refl in
      grind (arith, none_of_first_between (at_place re) 0 (length haystack), m.2, m.3)

  -- what searches find of the pattern that is read in the text
  module _ (syntax : Config) (text : List ℕ) (re : Re) (is : IsReadAs syntax text re) (found : Bool)
      (hit_of_res : List Re → Option PatternHit)
      (one : (own : Re) → hit_of_res (own ∷ []) ≡ option_map (hit_by 0) (first_placed own)) where
    read-iff : (trees : List Parsed) → AllZip (IsTreeOf syntax) (text ∷ []) trees
        → found ≡ is_some (hit_of_res (res_of trees)) → (found ≡ true) ↔ Placed re
    read-iff [] read e = absurd read
    read-iff (tree ∷ (other ∷ trees)) read e = absurd read.1
    read-iff (tree ∷ []) read e = (
      λ yes. alike own re same (found-placed own (sym all ∙ yes)),
      λ m. all ∙ placed-found own (alike re own (alike_sym same) m),
    )
      where
        own : Re
        own = meaning tree.hir

        same : SameCaptures own re
        same = read-as syntax text tree re read.0 is

        all : found ≡ is_some (first_placed own)
        all = e ∙ ap is_some (one own) ∙ is_some-option_map (hit_by 0) (first_placed own)

        alike : (a b : Re) → SameCaptures a b → Placed a → Placed b
        alike a b like m = (m.0, m.1, m.2, m.3, match-alike haystack bytes a b like m.0 m.1 m.4)

module _ (syntax : Config) (text : List ℕ) (nfa : Automaton) (haystack : List ℕ)
    (compiled : IsCompiled syntax (text ∷ []) nfa) where
  abbrev own : List Re
  own = res_of compiled.trees

  -- a search of the whole haystack finds something exactly if the pattern matches
  pub found-as-read : is_utf8_empty nfa ≡ false → FindsFromAnyStart nfa → All (λ b. b < 256) haystack
      → (re : Re) → IsReadAs syntax text re
      → (found : Bool) → IsBoolAnswer nfa LeftmostFirst false (whole haystack) found
      → (found ≡ true) ↔ MatchesIn haystack re
  unfolding find
  found-as-read anywhere free bytes re is found answer =
      let kept = loses-none own nfa compiled.made free haystack in
      let hit_is = found-is (hit-answered own nfa compiled.made (whole haystack) refl anywhere) found answer
      ∙ ap is_some (hit-unbound own nfa (whole haystack) refl kept) in
      let same = read-iff haystack bytes (λ i. true) syntax text re is found
      (λ res. expected res false (whole haystack)) (λ re. one-free re (whole haystack) refl refl)
      compiled.trees compiled.read hit_is in (
        λ yes. let m = same.0 yes in record { start = m.0; end = m.1; within = m.2; matches = m.4 },
        λ m. same.1 (m.start, m.end, m.within, refl, m.matches),
      )

  -- in a `str`, in UTF-8 mode, the match is one from a boundary
  pub found-as-read-in-str : nfa.utf8 ≡ true → FindsFromAnyStart nfa → IsUtf8 haystack → (re : Re)
      → IsReadAs syntax text re → (found : Bool) → IsBoolAnswer nfa LeftmostFirst false (whole haystack) found
      → (found ≡ true) ↔ MatchesInStr haystack re
  unfolding find_str
  found-as-read-in-str mode free valid re is found answer =
      let hit_is = found-is (own-free syntax (text ∷ []) nfa compiled mode (whole haystack) refl valid free) found
      answer in
      let same = read-iff haystack (text-bytes haystack valid) (is_boundary haystack) syntax text re is found
      (λ res. expected_in_str res false (whole haystack)) (λ re. one-str-free re (whole haystack) refl refl)
      compiled.trees compiled.read hit_is in (
        λ yes. let m = same.0 yes in record { start = m.0; end = m.1; within = m.2; boundary = m.3; matches = m.4 },
        λ m. same.1 (m.start, m.end, m.within, m.boundary, m.matches),
      )
