-- What is found at the end of the span is the scan's answer.
use Rattle.regex_search_core.specs.declared.search.MatchKind.TheVariants.{All}
use Rattle.nfa_paths.proofs.AnswerLemmas.{scan_answer-unique}
use Rattle.nfa_paths.proofs.SearchingLemmas.{Searching-done}
use Rattle.nfa_paths.proofs.ScanLemmas.{NoneBefore-end, LastBefore-end}
use Rattle.nfa_paths.proofs.KindsLemmas.{IsFirstPath-found}
use Rattle.nfa_lazy_dfa.specs.Closures.{explore}
use Rattle.nfa_lazy_dfa.specs.Configurations.{Configuration, IsDead, position_count, closure_at, next_configuration, advance, scanned, scan_half}
use Rattle.nfa_lazy_dfa.proofs.FollowLemmas.{pairs, bare}
use Rattle.nfa_lazy_dfa.proofs.PositionLemmas.{waiting, waiting-none, shape, states-end, starts-end, past-end, ends-there}
use Rattle.nfa_lazy_dfa.proofs.LastScanLemmas.{Answered, Answered-found, LastScan, LastScan-scanned, EarliestScan, EarliestScan-scanned}
use Rattle.nfa_lazy_dfa.proofs.FirstScanLemmas.{FirstScan, FirstScan-scanned}
use Rattle.nfa_paths.proofs.MemberLemmas.{option_or-None}
use Rattle.nfa_paths.proofs.Common.{◌≡◌, ℕ, ◌+◌, ◌<◌, arith, inl, inr, Bool, true, false, List, [], ◌++◌, refl, ap, sym, ◌∙◌, Option, None, option_and_then, Search, MatchKind, Automaton, Pair, NoPath, is_resting, edges, starts, is_match, IsMatch, IsScanAnswer, path_half, LeftmostFirst}

module _ (nfa : Automaton) (x : Search) where
  -- no state and no start is left of the search for the first path
  first-end : (at : ℕ) (c : Configuration) → c.states ≡ [] → c.starts ≡ 0 → FirstScan nfa x at c
      → Answered nfa x LeftmostFirst false c.found
  first-end at c no_states no_starts s =
      let none : pairs at c.states ++ waiting nfa x at c.starts ≡ [] =
      rw (no_states, no_starts) (waiting-none nfa x at) in
      let done = Searching-done (bare nfa x) (is_match nfa) (rw none at s.finding) in
      rw (← s.found_is) (Answered-found nfa x LeftmostFirst false s.spent s.so_far
      (IsFirstPath-found (bare nfa x) (is_resting nfa) (is_match nfa) [] (shape nfa x) s.spent s.so_far done))

  -- every path has ended
  last-end : (at : ℕ) (c : Configuration) → x.end < at → LastScan nfa x at c → Answered nfa x All false c.found
  last-end at c past s =
      rw (← s.found_is) (Answered-found nfa x All false s.spent s.so_far
      (LastBefore-end (bare nfa x) (is_resting nfa) (is_match nfa) [] (shape nfa x) s.last (ends-there nfa x at past)))

  no-answer : (kind : MatchKind) → NoPath (edges nfa x) (starts nfa x) (IsMatch nfa)
      → IsScanAnswer nfa x kind true None
  no-answer kind none = grind arith

  earliest-end : (kind : MatchKind) (at : ℕ) (c : Configuration) → x.end < at → EarliestScan nfa x kind at c
      → Answered nfa x kind true c.found
  earliest-end kind at c past (inl s) = record {
    path = None;
    answers = no-answer kind (NoneBefore-end (bare nfa x) (is_resting nfa) (is_match nfa) [] (shape nfa x) s.none
        (ends-there nfa x at past));
    half_is = sym s.found_is;
  }
  earliest-end kind at c past (inr s) = s.answered

  -- each kind of scan
  pub scan-answered : (kind : MatchKind) (earliest : Bool)
      → Answered nfa x kind earliest (scan_half nfa x kind earliest)
  scan-answered LeftmostFirst false =
      let n = position_count x in
      first-end (x.start + n) (scanned nfa x LeftmostFirst false n)
      (states-end nfa x LeftmostFirst false n (past-end nfa x)) (starts-end nfa x LeftmostFirst false)
      (FirstScan-scanned nfa x n)
  scan-answered All false =
      let n = position_count x in
      last-end (x.start + n) (scanned nfa x All false n) (past-end nfa x) (LastScan-scanned nfa x n)
  scan-answered kind true =
      let n = position_count x in
      earliest-end kind (x.start + n) (scanned nfa x kind true n) (past-end nfa x) (EarliestScan-scanned nfa x kind n)

  -- the answer of a scan is what the steps find
  pub steps_find : (kind : MatchKind) (earliest : Bool) (path : Option (List Pair))
      → IsScanAnswer nfa x kind earliest path
      → option_and_then (path_half nfa) path ≡ scan_half nfa x kind earliest
  steps_find kind earliest path answers =
      let h = scan-answered kind earliest in
      rw (scan_answer-unique nfa x kind earliest path h.path answers h.answers) h.half_is

  -- with no state nothing follows
  closure-none : (at : ℕ) (c : Configuration) → IsDead c → closure_at nfa x at c ≡ []
  unfolding explore
  closure-none at c d = rw (d.states, d.starts) refl

  pub dead-stays : (kind : MatchKind) (earliest : Bool) (at : ℕ) (c : Configuration) → IsDead c
      → advance nfa x kind earliest at c ≡ c
  dead-stays kind earliest at c d =
      ap (λ (here : List ℕ). next_configuration nfa x kind earliest at here c) (closure-none at c d) ∙ of kind earliest
    where
      of : (k : MatchKind) (e : Bool) → next_configuration nfa x k e at [] c ≡ c
      of k e = grind (arith, option_or-None)
