-- A search whose anchored search at its first start finds nothing goes on one position further, also if a match has to
-- end on a boundary.
use Rattle.nfa_paths.proofs.Common.{◌≡◌, inl, inr, ℕ, zero, suc, ◌+◌, ◌-◌, ◌<◌, ◌≤◌, Bool, true, false, List, [], ◌∷◌, refl, ap, sym, ◌∙◌, subst, arith, cases_Bool, cases_lt, MatchBool, Option, None, Some, is_anchored, IsBoundary, Found, Search, Automaton, MatchKind, Pair, IsFindAnswer, IsHalfAnswer, IsKeptAnswer, IsRestartedAnswer, IsScanAnswer, IsSearchAnswer, IsWhole, SplitsCharacter, EndsOnBoundary, is_utf8_empty, node_at, raised, starts, LeftmostFirst}
use Rattle.nfa_paths.proofs.OneScanLemmas.{first-scan, scan-of, settled-scan}
use Rattle.nfa_paths.proofs.StartLemmas.{raised-zero}
use Rattle.nfa_lazy_dfa.specs.Configurations.{IsKeptHalf, IsRestartedHalf, StartsFrom, StepsFindTheHalf, scan_half}
use Rattle.nfa_engines.specs.StartLaws.{IsFirstStart, IsUnbound, StartsAnywhere, anchored_at, from_start}
use Rattle.nfa_paths.proofs.FirstStartLemmas.{next-first}
use Rattle.nfa_engines.proofs.StartAnswerLemmas.{first-of-bytes, free-of-bytes, of-bytes, scan-first, starts-past}
use Rattle.nfa_meta.specs.WindowLaws.{ScansAreFirstStarts, SearchGoesOn}
use Rattle.nfa_meta.proofs.WindowLemmas.{StartsLate, first-start, none-path, scan-back}

-- no accepting path starts before a first start
late-of : (nfa : Automaton) (x : Search) (s : ℕ) → IsUnbound nfa x → IsFirstStart nfa x s → StartsLate nfa x s
late-of nfa x s free first = record {
  free = free;
  low = first.from;
  from = record { from = starts-past nfa x free s first };
}

-- the NFA without its UTF-8 mode has the same paths
of-bytes-first : (nfa : Automaton) (x : Search) (s : ℕ) → IsFirstStart (of-bytes nfa) x s → IsFirstStart nfa x s
unfolding node_at
of-bytes-first nfa x s first = record {
  from = first.from;
  nothing = λ i low less. record { no_path = (first.nothing i low less).no_path };
}

from-of-bytes : (nfa : Automaton) (x : Search) (s : ℕ) → StartsFrom nfa x s → StartsFrom (of-bytes nfa) x s
unfolding node_at
from-of-bytes nfa x s from = record { from = from.from }

pub scan-first-start : ScansAreFirstStarts
scan-first-start nfa x s starts low from =
    of-bytes-first nfa x s (first-start (record {
      free = free-of-bytes nfa x starts;
      low = low;
      from = from-of-bytes nfa x s from;
    }))

module _ (nfa : Automaton) (x : Search) (starts : StartsAnywhere nfa x) (s : ℕ) (first : IsFirstStart nfa x s) where
  -- the answer of the scan from there on is that of the scan
  scan-passed : (path : Option (List Pair)) → IsScanAnswer nfa (from_start x s) LeftmostFirst false path
      → IsScanAnswer nfa x LeftmostFirst false path
  unfolding node_at
  scan-passed path h =
      scan-back (late-of (of-bytes nfa) x s (free-of-bytes nfa x starts) (first-of-bytes nfa x s first)) path h

-- whether a path ends on a boundary depends only on the haystack
boundary-same : (x y : Search) → x.haystack ≡ y.haystack → (p : List Pair) → EndsOnBoundary x p → EndsOnBoundary y p
boundary-same x y same [] e = absurd e
boundary-same x y same (v ∷ []) e = subst (λ (h : List ℕ). IsBoundary h v.1) same e
boundary-same x y same (v ∷ (w ∷ p)) e = boundary-same x y same (w ∷ p) e

whole-same : (x y : Search) → x.haystack ≡ y.haystack → (path : Option (List Pair)) → IsWhole x path → IsWhole y path
whole-same x y same None whole = tt
whole-same x y same (Some p) whole = boundary-same x y same p whole

module _ (nfa : Automaton) where
  abbrev Splits : Search → Type 0
  Splits = SplitsCharacter nfa LeftmostFirst false

  -- the same path splits a codepoint in each search of the haystack that it answers
  split-by : (x y : Search) → x.haystack ≡ y.haystack
      → ((p : List Pair) → IsScanAnswer nfa x LeftmostFirst false (Some p)
      → IsScanAnswer nfa y LeftmostFirst false (Some p)) → Splits x → Splits y
  split-by x y same to split = record {
    path = split.path;
    answers = to split.path split.answers;
    splits = λ whole. split.splits (boundary-same y x (sym same) split.path whole);
  }

  module _ (x : Search) (free : StartsAnywhere nfa x) (s : ℕ) (first : IsFirstStart nfa x s) where
    raised-free : (i : ℕ) → StartsAnywhere nfa (raised x i)
    raised-free i = record { unanchored = free.unanchored; prefixed = free.prefixed }

    raised-first : (i t : ℕ) → IsFirstStart nfa x t → x.start + i ≤ t → IsFirstStart nfa (raised x i) t
    raised-first i t first low = record {
      from = low;
      nothing = λ j from less. first.nothing j (omega (arith, from)) less;
    }

    -- the anchored search there splits a codepoint, so each scan up to there does
    split-first : Splits (anchored_at x s) → (i : ℕ) → i < s - x.start + 1 → Splits (raised x i)
    split-first split i less =
        let from : x.start ≤ s = first.from in
        split-by (anchored_at x s) (raised x i) refl
        (scan-first nfa (raised x i) (raised-free i) s (raised-first i s first (omega (arith, from, less)))) split

    -- nothing matches there, and the scan from the next position on splits a codepoint
    split-next : IsFirstStart nfa x (s + 1) → Splits (from_start x (s + 1)) → (i : ℕ) → i < s - x.start + 1
        → Splits (raised x i)
    split-next next split i less =
        let from : x.start ≤ s = first.from in
        split-by (from_start x (s + 1)) (raised x i) refl
        (λ p. scan-passed nfa (raised x i) (raised-free i) (s + 1)
        (raised-first i (s + 1) next (omega (arith, from, less))) (Some p)) split

    module _ (utf8 : is_utf8_empty nfa ≡ true) (r : ℕ) (path : Option (List Pair))
        (h : IsRestartedAnswer nfa LeftmostFirst false (from_start x (s + 1)) r path) where
      -- then the search restarts there
      restarted-on : ((i : ℕ) → i < s - x.start + 1 → Splits (raised x i))
          → IsSearchAnswer nfa LeftmostFirst false x (s - x.start + 1 + r) path
      restarted-on all =
          let from : x.start ≤ s = first.from in
          settled-scan nfa LeftmostFirst false x (s - x.start + 1 + r) path
          (λ i less. elim (cases_lt i (s - x.start + 1)) [
            | inl before ↦ all i before
            | inr past ↦
                let at : s + 1 + (i - (s - x.start + 1)) ≡ x.start + i = omega (arith, from, past) in
                subst Splits (ap (λ (n : ℕ). let y : Search = record x { start = n } in y) at)
                (h.skipped (i - (s - x.start + 1)) (omega (arith, less, past)))
          ])
          (λ less. (utf8, rw free.unanchored refl))
          (let at : s + 1 + r ≡ x.start + (s - x.start + 1 + r) = omega (arith, from) in
          subst (λ (n : ℕ). IsScanAnswer nfa (record x { start = n }) LeftmostFirst false path) at h.answers)
          (λ mode. whole-same (from_start x (s + 1)) x refl path h.whole)

      -- or it needs none
      next-on : IsFirstStart nfa x (s + 1)
          → (n : ℕ) × IsSearchAnswer nfa LeftmostFirst false x n path
      next-on next = of r refl
        where
          z : Search
          z = from_start x (s + 1)

          of : (k : ℕ) → r ≡ k → (n : ℕ) × IsSearchAnswer nfa LeftmostFirst false x n path
          of zero none =
              let scan : IsScanAnswer nfa z LeftmostFirst false path =
              subst (λ (y : Search). IsScanAnswer nfa y LeftmostFirst false path)
              (ap (raised z) none ∙ raised-zero z) h.answers in (
                0,
                first-scan nfa LeftmostFirst false x path (scan-passed nfa x free (s + 1) next path scan)
                    (λ mode. whole-same z x refl path h.whole),
              )
          of (suc k) some =
              let split : Splits z = subst Splits (raised-zero z) (h.skipped 0 (omega (arith, some))) in
              (s - x.start + 1 + r, restarted-on (split-next next split))

    module _ (none : IsHalfAnswer nfa LeftmostFirst false (anchored_at x s) None) (r : ℕ)
        (path : Option (List Pair)) (h : IsSearchAnswer nfa LeftmostFirst false (from_start x (s + 1)) r path) where
      kept : IsSearchAnswer nfa LeftmostFirst false (anchored_at x s) none.restarts None
      kept = none-path nfa LeftmostFirst false (anchored_at x s) none

      next : IsScanAnswer nfa (anchored_at x s) LeftmostFirst false None → IsFirstStart nfa x (s + 1)
      next no_path = next-first nfa x s first (record { no_path = no_path })

      answer-on : (n : ℕ) × IsSearchAnswer nfa LeftmostFirst false x n path
      answer-on = elim (cases_Bool (is_utf8_empty nfa)) [
        | inl utf8 ↦
            let free_is : is_anchored x.anchored ≡ false = rw free.unanchored refl in
            let on : IsRestartedAnswer nfa LeftmostFirst false (from_start x (s + 1)) r path =
            rw (utf8, free_is) at h in
            let at : (none.restarts ≡ 0) × IsKeptAnswer nfa LeftmostFirst false (anchored_at x s) None =
            rw utf8 at kept in
            elim at.1 [
              | inl no_path ↦ next-on utf8 r path on (next no_path)
              | inr split ↦ (s - x.start + 1 + r, restarted-on utf8 r path on (split-first split))
            ]
        | inr bytes ↦
            let no_path = scan-of nfa LeftmostFirst false (anchored_at x s) bytes none.restarts None kept in
            let scan = scan-of nfa LeftmostFirst false (from_start x (s + 1)) bytes r path h in (
              0,
              first-scan nfa LeftmostFirst false x path (scan-passed nfa x free (s + 1) (next no_path) path scan)
                  (λ mode. absurd (cc (bytes, mode))),
            )
      ]

pub goes-on : SearchGoesOn
goes-on nfa x s found free first none h =
    let a = answer-on nfa x free s first none h.restarts h.path h.answers in
    record { restarts = a.0; path = h.path; answers = a.1; found_is = h.found_is }

-- the matches of y are matches of x
pub record HasMatchesOf (nfa : Automaton) (kind : MatchKind) (x y : Search) : Type 0 where
  pub matches : (m : Found) → IsFindAnswer nfa kind false y (Some m) → IsFindAnswer nfa kind false x (Some m)

-- a search has its own matches
pub matches-self : (nfa : Automaton) (kind : MatchKind) (x : Search) → HasMatchesOf nfa kind x x
matches-self nfa kind x = record { matches = λ m h. h }

-- and those of the search from the next position on, if the anchored search at its first start finds nothing
pub matches-on : {nfa : Automaton} {kind : MatchKind} {x y : Search} {s : ℕ} → SearchGoesOn → kind ≡ LeftmostFirst
    → StartsAnywhere nfa y → IsFirstStart nfa y s → IsHalfAnswer nfa kind false (anchored_at y s) None
    → HasMatchesOf nfa kind x y → (z : Search) → z ≡ from_start y (s + 1) → HasMatchesOf nfa kind x z
matches-on {nfa = nfa} {x = x} {y = y} {s = s} law leftmost free first none on z is = record {
  matches = λ m h. on.matches m (rw leftmost (law nfa y s (Some m) free first (rw leftmost at none)
      (rw (is, leftmost) at h)));
}

-- a scan that finds nothing is the only one of its search
pub half-none : (nfa : Automaton) (kind : MatchKind) (earliest : Bool) (x : Search) → StepsFindTheHalf
    → None ≡ scan_half nfa x kind earliest → IsHalfAnswer nfa kind earliest x None
half-none nfa kind earliest x law is =
    (law nfa x kind earliest None).1 (of (is_utf8_empty nfa) (is_anchored x.anchored))
  where
    of : (u a : Bool) → MatchBool u (MatchBool a (IsKeptHalf nfa kind earliest x None)
        (IsRestartedHalf nfa kind earliest x None)) (scan_half nfa x kind earliest ≡ None)
    of true true = inl (sym is)
    of true false = record {
      restarts = 0;
      skipped = λ i less. absurd (omega arith);
      is = subst (λ (y : Search). scan_half nfa y kind earliest ≡ None) (sym (raised-zero x)) (sym is);
      whole = tt;
    }
    of false a = sym is
