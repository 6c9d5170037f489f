-- A search that restarts finds its match, or half match, after the starts that it passed, and restarts only where a
-- start is left.
use Rattle.nfa_paths.proofs.Common.{◌≡◌, ℕ, ◌+◌, ◌-◌, ◌<◌, ◌≤◌, Bool, false, MatchBool, List, arith, Option, None, Some, ◌&&◌, not, Found, HalfFound, Search, is_anchored, MatchKind, Span, Automaton, Pair, IsKeptAnswer, IsFindAnswer, IsHalfAnswer, IsRestartedAnswer, IsScanAnswer, IsSearchAnswer, IsWithinScans, SplitsCharacter, is_utf8_empty, raised, max_scans}
use Rattle.nfa_paths.proofs.AnswerLemmas.{scan_answer-within}
use Rattle.nfa_paths.proofs.ExistenceLemmas.{search_answer-exists}
use Rattle.nfa_paths.proofs.InsideLemmas.{half-within, match-within}
use Rattle.nfa_search_base.specs.Common.{half_span_of, span_of}
use Rattle.nfa_search_base.proofs.SkipLemmas.{from-scan}

-- how many starts a search has at most
abbrev pub starts_left : Search → ℕ
starts_left x = x.end + 1 - x.start

-- the match lies in the span, and ends at the last of `count` starts or after it
abbrev pub Reaches : Search → ℕ → Option Span → Type 0
Reaches x count (Some p) = (x.start ≤ p.end) × (p.end ≤ x.end) × (x.start + count ≤ p.end + 1)
Reaches x count None = Unit {0}

-- whether a search may restart
abbrev pub restarts_in : Automaton → Search → Bool
restarts_in nfa x = is_utf8_empty nfa && not (is_anchored x.anchored)

module _ (nfa : Automaton) (kind : MatchKind) (earliest : Bool) where
  -- what a search answers, by whether it may end anywhere and whether it is anchored
  abbrev AnswersBy : Bool → Bool → Search → ℕ → Option (List Pair) → Type 0
  AnswersBy b c x restarts path = MatchBool b (MatchBool c ((restarts ≡ 0) × IsKeptAnswer nfa kind earliest x path)
      (IsRestartedAnswer nfa kind earliest x restarts path))
      ((restarts ≡ 0) × IsScanAnswer nfa x kind earliest path)

  -- as many restarts as starts are left, at most
  passed : (x : Search) (n : ℕ) → ((i : ℕ) → i < n → SplitsCharacter nfa kind earliest (raised x i))
      → n ≤ starts_left x
  passed = grind (arith, scan_answer-within)

  few-restarts : (x : Search) (restarts : ℕ) (path : Option (List Pair))
      → IsSearchAnswer nfa kind earliest x restarts path → restarts ≤ starts_left x
  few-restarts x restarts path h = grind (arith, passed)

  module _ (x : Search) (count : ℕ) (within : IsWithinScans nfa kind earliest x count) where
    -- no more scans than starts are left, and one more
    pub few-scans : count ≤ starts_left x + 1
    few-scans = grind (arith, search_answer-exists nfa kind earliest x, few-restarts)

    -- the match ends after the starts that were passed
    pub match-reaches : (f : Found) → IsFindAnswer nfa kind earliest x (Some f) → Reaches x count (Some (span_of f))
    match-reaches f a =
        let few = within a.restarts a.path a.answers in
        let k = match-within nfa kind earliest (raised x a.restarts) f (record {
          restarts = 0;
          path = a.path;
          answers = from-scan nfa kind earliest x a.restarts a.path a.answers;
          found_is = a.found_is;
        }) in
        (omega (arith, k.0, k.1), k.2, omega (arith, few, k.0, k.1))

    -- so does a half match
    pub half-reaches : (h : HalfFound) → IsHalfAnswer nfa kind earliest x (Some h)
        → Reaches x count (Some (half_span_of h))
    half-reaches h a =
        let few = within a.restarts a.path a.answers in
        let k = half-within nfa kind earliest (raised x a.restarts) h (record {
          restarts = 0;
          path = a.path;
          answers = from-scan nfa kind earliest x a.restarts a.path a.answers;
          found_is = a.found_is;
        }) in
        (omega (arith, k.0), k.1, omega (arith, few, k.0))

  -- a match that no scan finds lies in the span
  pub match-known : (x : Search) (f : Found) → IsFindAnswer nfa kind earliest x (Some f)
      → Reaches x 0 (Some (span_of f))
  match-known x f a = let k = match-within nfa kind earliest x f a in
      (omega (arith, k.0, k.1), k.2, omega (arith, k.0, k.1))

  -- so does such a half match
  pub half-known : (x : Search) (h : HalfFound) → IsHalfAnswer nfa kind earliest x (Some h)
      → Reaches x 0 (Some (half_span_of h))
  half-known x h a = let k = half-within nfa kind earliest x h a in (k.0, k.1, omega (arith, k.0))

-- one scan, where none restarts
pub one-scan : (nfa : Automaton) (x : Search) (count : ℕ) → restarts_in nfa x ≡ false → count ≤ max_scans nfa x
    → count ≤ 1
one-scan nfa x count never few = rw never at few
