-- Searches of all kinds in UTF-8 mode: what they find shows that a pattern matches. If no position splits a codepoint,
-- the first scan gives the answer.
use Rattle.nfa_paths.proofs.Common.{◌≡◌, ℕ, ◌+◌, ◌≤◌, ◌<◌, Bool, true, false, List, length, refl, sym, subst, arith, Option, None, Some, is_some, All, option_and_then, slice_index_or, IsBoundary, Search, is_anchored, MatchKind, Automaton, Pair, IsPermittedEnd, IsScanAnswer, IsSearchAnswer, IsWhole, is_match, path_pattern}
use Rattle.nfa_compiler.specs.Common.{empty, Re, Matches, IsNfaOf, MatchesSomewhere}
use Rattle.regex_hir.proofs.MatchesLemmas.{Matches-IsSpan}
use Rattle.nfa_paths.proofs.AnswerLemmas.{ends_on_boundary as ends_where, scan_answer-leads, search_answer-unique}
use Rattle.nfa_paths.proofs.ExistenceLemmas.{scan_answer-exists}
use Rattle.nfa_paths.proofs.OneScanLemmas.{first-scan, last-scan}
use Rattle.nfa_paths.proofs.PathToLemmas.{EndsWith-last}
use Rattle.nfa_paths.proofs.ScanAnswerLemmas.{EndsBefore-span}
use Rattle.nfa_compiler.proofs.ExistsLemmas.{scan-sound, unbound-match}
use Rattle.nfa_compiler.proofs.SearchLemmas.{is_bound}

-- each position in ASCII is a boundary
pub ascii-boundary : (haystack : List ℕ) → All (λ b. b < 128) haystack → (i : ℕ) → i ≤ length haystack
    → IsBoundary haystack i
ascii-boundary haystack ascii i within = grind (arith, ascii i 0)

pub ascii-ends : (res : List Re) (a : Automaton) (x : Search) → x.end ≡ length x.haystack
    → All (λ b. b < 128) x.haystack → (k i e : ℕ) → i ≤ x.end
    → Matches x.haystack (slice_index_or res k empty) i e → IsPermittedEnd a x e
ascii-ends res a x whole ascii k i e within m = grind (arith, Matches-IsSpan, ascii-boundary)

module _ (a : Automaton) (kind : MatchKind) (earliest : Bool) (x : Search) (whole : x.end ≡ length x.haystack) where
  module _ (ascii : All (λ b. b < 128) x.haystack) where
    -- a path in ASCII ends on a boundary
    ascii-whole : (path : Option (List Pair)) → IsScanAnswer a x kind earliest path → IsWhole x path
    ascii-whole None answer = tt
    ascii-whole (Some p) answer =
        let leads = scan_answer-leads a x kind earliest p answer in
        let end = EndsBefore-span a x (is_match a) leads.end p leads.path leads.matches in
        (ends_where x p (EndsWith-last None leads.end p leads.path.ends)).1
        (ascii-boundary x.haystack ascii leads.end.1 (omega arith))

    -- so the answer of a search is that of its first scan
    pub ascii-scan : (restarts : ℕ) (path : Option (List Pair)) → IsSearchAnswer a kind earliest x restarts path
        → IsScanAnswer a x kind earliest path
    ascii-scan restarts path answers =
        let first = scan_answer-exists a x kind earliest in
        let same = search_answer-unique a kind earliest x restarts 0 path first.0 answers
        (first-scan a kind earliest x first.0 first.1 (λ mode. ascii-whole first.0 first.1)) in
        subst (IsScanAnswer a x kind earliest) (sym same.1) first.1

  -- a path that a search finds shows that some pattern matches
  module _ (res : List Re) (made : IsNfaOf res a) where
    search-sound : (restarts : ℕ) (p : List Pair) → IsSearchAnswer a kind earliest x restarts (Some p)
        → MatchesSomewhere res false x
    search-sound restarts p answers = of (is_anchored x.anchored) refl
      where
        from : (s : ℕ) → x.start ≤ s → (is_anchored x.anchored ≡ true → s ≡ x.start)
            → IsScanAnswer a (record x { start = s }) kind earliest (Some p) → MatchesSomewhere res false x
        from s least once answer =
            let m = scan-sound res a made (record x { start = s }) whole kind earliest p answer in
            record {
              pattern = m.pattern;
              matches = unbound-match res x m.pattern s (is_bound res a made) least once m.matches;
            }

        of : (anchored : Bool) → is_anchored x.anchored ≡ anchored → MatchesSomewhere res false x
        of true is = from x.start (omega arith) (λ e. refl) ((last-scan a kind earliest x restarts p answers).only is)
        of false is = from (x.start + restarts) (omega arith) (λ never. absurd (cc (is, never)))
            (last-scan a kind earliest x restarts p answers).scan

    pub found-sound : (restarts : ℕ) (path : Option (List Pair)) → IsSearchAnswer a kind earliest x restarts path
        → is_some path ≡ true → MatchesSomewhere res false x
    found-sound restarts path answers some = grind (arith, search-sound restarts)

    pub answer-sound : (restarts : ℕ) (path : Option (List Pair)) → IsSearchAnswer a kind earliest x restarts path
        → is_some (option_and_then (path_pattern a) path) ≡ true → MatchesSomewhere res false x
    answer-sound restarts path answers some = grind (arith, search-sound restarts)
