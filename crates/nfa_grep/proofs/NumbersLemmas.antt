-- A pattern matches somewhere in a text exactly if the reference matcher finds it by itself. So a set of the patterns
-- that match holds those that are found.
use Rattle.regex_hir.proofs.FindLemmas.{IsFirst-of_first_between, find_complete, find_sound}
use Rattle.regex_hir.proofs.OptionLemmas.{value_of_IsSome}
use Rattle.nfa_grep.specs.Meant.{is_found, which_found, Re}
use Rattle.nfa_grep.proofs.MeantLemmas.{found-same}
use Rattle.nfa_paths.proofs.MemberLemmas.{same_test}
use Rattle.nfa_paths.proofs.Common.{◌≡◌, ◌∙◌, ℕ, zero, suc, ◌+◌, ◌-◌, ◌<◌, Bool, true, false, List, [], ◌∷◌, length, refl, sym, ap, arith, get_or, ◌↔◌, All, Option, None, Some, is_some, option_map, slice_index_or, AllZip, option_or, le-ltb, ext_get_or, get_or-map, length-map, whole, HoldsPattern}
use Rattle.nfa_compiler.specs.Common.{SameCaptures, find, first_from, Trace, accept, attempt, empty, PatternMatches, expected, first_hit, hit_of, pick, MatchesIn}

-- one pattern is found exactly if the search for it finds a match
module _ (text : List ℕ) (re : Re) where
  first-is : (n i : ℕ)
      → is_some (first_hit (pick text (re ∷ []) 0) n i) ≡ is_some (first_from (attempt text re accept) n i)
  unfolding first_from
  first-is zero i = refl
  first-is (suc n) i = of (attempt text re accept i) (first-is n (i + 1))
    where
      of : (o : Option Trace) → is_some (first_hit (pick text (re ∷ []) 0) n (i + 1))
          ≡ is_some (first_from (attempt text re accept) n (i + 1))
          → is_some (option_or (option_or (hit_of 0 i o) None) (first_hit (pick text (re ∷ []) 0) n (i + 1)))
          ≡ is_some (option_or (option_map (λ t. record { start = i; trace = t }) o)
          (first_from (attempt text re accept) n (i + 1)))
      of None later = later
      of (Some t) later = refl

  found-is : is_found (re ∷ []) text ≡ is_some (find re text 0)
  unfolding expected find
  found-is =
      let count : length text - 0 + 1 ≡ length text + 1 - 0 = omega arith in
      rw (le-ltb (length text) 0 (omega arith), count) (first-is (length text + 1 - 0) 0)

  pub found-matches : is_found (re ∷ []) text ≡ true → MatchesIn text re
  unfolding find
  found-matches found =
      let m = value_of_IsSome (find re text 0) (sym found-is ∙ found) in
      let first = IsFirst-of_first_between (attempt text re accept) 0 (length text) m.0 m.1 in
      record {
        start = m.0.start;
        end = m.0.trace.end;
        within = first.to;
        matches = (find_sound re text 0 m.0 m.1).1;
      }

  pub matches-found : MatchesIn text re → is_found (re ∷ []) text ≡ true
  matches-found m = found-is ∙ find_complete re text 0 m.start m.end (omega arith) m.within m.matches

module _ (text : List ℕ) (bytes : All (λ b. b < 256) text) where
  pub same-which : (trees res : List Re) → AllZip SameCaptures trees res → which_found trees text ≡ which_found res text
  same-which [] [] same = refl
  same-which [] (b ∷ res) same = absurd same
  same-which (a ∷ trees) [] same = absurd same
  same-which (a ∷ trees) (b ∷ res) same =
      ap (λ (found : Bool). found ∷ which_found trees text)
      (found-same text bytes (a ∷ []) (b ∷ []) (same.0, tt))
      ∙ ap (λ (rest : List Bool). is_found (b ∷ []) text ∷ rest) (same-which trees res same.1)

-- a set of as many patterns, which holds those that match
pub which-is : (text : List ℕ) (trees : List Re) (set : List Bool) → length set ≡ length trees
    → ((k : ℕ) → HoldsPattern set k ↔ PatternMatches trees false (whole text) k) → set ≡ which_found trees text
which-is text trees set room holds =
    ext_get_or false set (which_found trees text)
    (room ∙ sym (length-map trees (λ re. is_found (re ∷ []) text))) (λ k less. each k (omega arith))
  where
    each : (k : ℕ) → k < length trees → get_or set k false ≡ get_or (which_found trees text) k false
    each k less =
        same_test (get_or set k false) (is_found (slice_index_or trees k empty ∷ []) text)
        (λ held. let m = (holds k).0 held in matches-found text (slice_index_or trees k empty)
        (record { start = m.start; end = m.end; within = m.to; matches = m.matches }))
        (λ found. let m = found-matches text (slice_index_or trees k empty) found in (holds k).1 (record {
          start = m.start;
          end = m.end;
          known = less;
          tried = tt;
          from = omega arith;
          to = m.within;
          inside = omega arith;
          matches = m.matches;
        }))
        ∙ sym (get_or-map (λ re. is_found (re ∷ []) text) trees k empty false less)
