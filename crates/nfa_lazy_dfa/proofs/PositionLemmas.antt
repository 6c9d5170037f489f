-- From one position of a scan to the next, and what is left at the end of the span.
use Rattle.nfa_paths.proofs.Common.{◌≡◌, ℕ, zero, suc, ◌+◌, ◌-◌, ◌<◌, ◌≤◌, inl, inr, Bool, true, false, List, [], ◌∷◌, ◌++◌, length, replicate, map, refl, ap, sym, subst, arith, append-nil, Option, None, option_map_or, le-ltb, length-replicate, Search, MatchKind, Automaton, Pair, In, NoRepeats, Slots, Hit, rests, is_resting, Scanned, IsFrontier, Scanning, EndsBefore, node_at, is_match, byte_at, pairs_from, start_state, starts, Explore, holding_at}
use Rattle.nfa_paths.proofs.PathToLemmas.{is_false}
use Rattle.nfa_paths.proofs.ScanAnswerLemmas.{Scanned-matches, EndsBefore-span}
use Rattle.nfa_paths.proofs.SearchingLemmas.{Scanning-front, Searching-start}
use Rattle.nfa_paths.proofs.StartLemmas.{pairs_from-ahead, starts-none}
use Rattle.nfa_lazy_dfa.specs.Closures.{step, kept}
use Rattle.nfa_lazy_dfa.specs.Configurations.{Configuration, advance, begin, start_here, closure_at, starts_after, position_count, scanned}
use Rattle.nfa_lazy_dfa.proofs.ExploreLemmas.{closure-explored, closure-once, closure-rests}
use Rattle.nfa_lazy_dfa.proofs.FollowLemmas.{pairs, place, bare, Finding, pairs-append, Followed, follow}
use Rattle.nfa_lazy_dfa.proofs.NextLemmas.{place-among, Explore-among, Finding-next}
use Rattle.nfa_scan_core.specs.Marks.{SeenAt}
use Rattle.nfa_scan_core.proofs.TargetLemmas.{SeenAt-none}

-- the list has as many pairs
pub length-pairs_from : (state at count : ℕ) → length (pairs_from state at count) ≡ count
length-pairs_from state at zero = refl
length-pairs_from state at (suc count) = ap suc (length-pairs_from state (at + 1) count)

-- What holds at the start of the span, and at each next position if it holds at a position, holds after the first n.
pub scanned-each : (nfa : Automaton) (x : Search) (kind : MatchKind) (earliest : Bool)
    (Holds : ℕ → Configuration → Type 0) → Holds x.start (begin nfa x)
    → ((at : ℕ) (c : Configuration) → Holds at c → Holds (at + 1) (advance nfa x kind earliest at c))
    → (n : ℕ) → Holds (x.start + n) (scanned nfa x kind earliest n)
scanned-each nfa x kind earliest Holds first next zero =
    let same : x.start ≡ x.start + 0 = omega arith in subst (λ (at : ℕ). Holds at (begin nfa x)) same first
scanned-each nfa x kind earliest Holds first next (suc n) =
    let same : x.start + n + 1 ≡ x.start + suc n = omega arith in
    subst (λ (at : ℕ). Holds at (scanned nfa x kind earliest (suc n))) same
    (next (x.start + n) (scanned nfa x kind earliest n) (scanned-each nfa x kind earliest Holds first next n))

module _ (nfa : Automaton) (x : Search) where
  -- the starts from a position on
  abbrev pub waiting : ℕ → ℕ → List Pair
  waiting at count = option_map_or (λ state. pairs_from state at count) (start_state nfa x.anchored) []

  -- no state was seen yet
  abbrev pub Fresh : ℕ → Pair → Type 0
  Fresh at = SeenAt at (replicate (length nfa.states) false)

  -- the starts

  -- at first all are left
  pub waiting-all : waiting x.start (length (starts nfa x)) ≡ starts nfa x
  waiting-all = grind (arith, length-pairs_from)

  -- none is left
  pub waiting-none : (at : ℕ) → waiting at 0 ≡ []
  waiting-none at = grind arith

  -- they are at the position or later
  pub waiting-later : (at count : ℕ) (k : Pair) → In k (waiting at count) → at ≤ k.1
  waiting-later at count k = grind (arith, pairs_from-ahead)

  -- the first one joins the states at its position
  pub waiting-joins : (at : ℕ) (states : List ℕ) (count : ℕ)
      → pairs at states ++ waiting at count
      ≡ pairs at (states ++ start_here nfa x count) ++ waiting (at + 1) (count - 1)
  waiting-joins at states zero = grind (arith, append-nil, waiting-none)
  waiting-joins at states (suc count) = grind (arith, append-nil, pairs-append)

  -- one position

  module _ (at : ℕ) (c : Configuration) where
    -- the closure is what the states and the start lead to
    pub closed : Followed nfa x at (replicate (length nfa.states) false) (c.states ++ start_here nfa x c.starts)
        (closure_at nfa x at c)
    closed =
        follow nfa x at (closure-explored nfa (holding_at x.haystack at) (c.states ++ start_here nfa x c.starts))
        (length-replicate (length nfa.states) false)

    pub closed-rests : (s : ℕ) → In s (closure_at nfa x at c) → rests (node_at nfa s) ≡ true
    closed-rests s i = (closure-rests nfa (holding_at x.haystack at) (c.states ++ start_here nfa x c.starts) s i).0

  -- the search for one set of matches, before a position
  pub follow-here : (at : ℕ) (c : Configuration) (target : Pair → Bool)
      → ((v : Pair) → target v ≡ true → is_match nfa v ≡ true) → (spent : ℕ) (otherwise : Hit)
      → Finding nfa x target (Fresh at) spent [] otherwise (pairs at c.states ++ waiting at c.starts)
      → Finding nfa x target (SeenAt at (closed at c).after) (spent + (closed at c).turns)
      (map (place at) (closure_at nfa x at c)) otherwise (waiting (at + 1) (c.starts - 1))
  follow-here at c target ok spent otherwise h =
      (closed at c).leads target ok spent [] otherwise (waiting (at + 1) (c.starts - 1))
      (subst (λ (w : List Pair). Finding nfa x target (Fresh at) spent [] otherwise w)
      (waiting-joins at c.states c.starts) h)

  -- it begins
  pub Finding-begin : (target : Pair → Bool)
      → Finding nfa x target (Fresh x.start) 0 [] None
      (pairs x.start [] ++ waiting x.start (length (starts nfa x)))
  Finding-begin target =
      subst (λ (w : List Pair). Finding nfa x target (Fresh x.start) 0 [] None w) (sym waiting-all)
      (Searching-start (bare nfa x) target (Fresh x.start) None (map Explore (starts nfa x)) []
      (SeenAt-none x.start (length nfa.states)))

  -- all sets of matches at once

  pub record AllScan (at spent : ℕ) (c : Configuration) : Type 0 where
    pub scanning : Scanning (bare nfa x) (is_match nfa) [] at (Fresh at) spent []
        (map Explore (pairs at c.states ++ waiting at c.starts)) []

  pub shape : Scanned (bare nfa x) (is_resting nfa) (is_match nfa)
  shape =
      let s = Scanned-matches nfa x (is_match nfa) (λ v t. t) in
      record {
        onward = s.onward;
        rises = s.rises;
        leads_nowhere = s.leads_nowhere;
        writes_nothing = λ v m. refl;
        increasing = s.increasing;
      }

  -- no pair is put aside twice
  once-placed : (at : ℕ) (states : List ℕ) → NoRepeats states
      → NoRepeats (map (λ (a : Pair × Slots). a.0) (map (place at) states))
  once-placed at [] once = tt
  once-placed at (s ∷ states) once = (λ i. once.0 (among states i), once-placed at states once.1)
    where
      among : (ts : List ℕ) → In (s, at) (map (λ (a : Pair × Slots). a.0) (map (place at) ts)) → In s ts
      among [] i = absurd i
      among (t ∷ ts) i = elim i [ inl e ↦ inl (ap (λ (v : Pair). v.0) e) | inr j ↦ inr (among ts j) ]

  module _ (at spent : ℕ) (c : Configuration) (s : AllScan at spent c) where
    -- after the position's closure
    abbrev pub turns_here : ℕ
    turns_here = spent + (closed at c).turns

    Scanning-here : Scanning (bare nfa x) (is_match nfa) [] at (SeenAt at (closed at c).after) turns_here
        (map (place at) (closure_at nfa x at c)) (map Explore (waiting (at + 1) (c.starts - 1))) []
    Scanning-here = record {
      searching = λ target m.
          follow-here at c target (λ v t. (m v t).0) spent None (s.scanning.searching target m);
    }

    later_starts : (k : Pair) → In k (waiting (at + 1) (c.starts - 1)) → at < k.1
    later_starts k i = let l : at + 1 ≤ k.1 = waiting-later (at + 1) (c.starts - 1) k i in omega arith

    pub front : IsFrontier (bare nfa x) (is_resting nfa) (is_match nfa) [] turns_here
        (map (place at) (closure_at nfa x at c)) at
    front =
        Scanning-front (bare nfa x) (is_match nfa) [] Scanning-here
        (λ a i. aside a (place-among at (closure_at nfa x at c) a i))
        (once-placed at (closure_at nfa x at c)
        (closure-once nfa (holding_at x.haystack at) (c.states ++ start_here nfa x c.starts)))
        (λ k i. later_starts k (Explore-among k (waiting (at + 1) (c.starts - 1)) i))
      where
        aside : (a : Pair × Slots) → ((t : ℕ) × In t (closure_at nfa x at c) × (a ≡ place at t))
            → (is_resting nfa a.0 ≡ true) × (a.0.1 ≡ at)
        aside a h = rw h.2 (closed-rests at c h.0 h.1, refl)

    -- the next position, where all states are kept and starts are left
    pub AllScan-next : (d : Configuration) → d.states ≡ step nfa (byte_at x at) (closure_at nfa x at c)
        → d.starts ≡ c.starts - 1 → AllScan (at + 1) turns_here d
    AllScan-next d states_are starts_are = record {
      scanning = record {
        searching = λ target m.
            let sooner : (v : Pair) → target v ≡ true → (is_match nfa v ≡ true) × (at ≤ v.1) =
            λ v t. let k : at + 1 ≤ v.1 = (m v t).1 in ((m v t).0, omega arith) in
            let plain : (t : ℕ) → In t (closure_at nfa x at c) → target (t, at) ≡ false =
            λ t i. is_false (target (t, at)) (λ h. let k : at + 1 ≤ at = (m (t, at) h).1 in omega arith) in
            rw (states_are, starts_are) (Finding-next nfa x at target (closure_at nfa x at c) (closed-rests at c) plain
            (waiting (at + 1) (c.starts - 1)) (Scanning-here.searching target sooner)
            (λ v h. let k : v.1 ≡ at = h.here in omega arith) later_starts (length nfa.states));
      };
    }

  -- the end of the span

  -- fewer starts are left at each position
  starts-fewer : (kind : MatchKind) (hit : Option ℕ) (count : ℕ) → starts_after kind hit count ≤ count - 1
  starts-fewer kind hit count = grind arith

  module _ (kind : MatchKind) (earliest : Bool) where
    starts-left : (n : ℕ) → (scanned nfa x kind earliest n).starts ≤ length (starts nfa x) - n
    starts-left zero = omega arith
    starts-left (suc n) = grind (arith, starts-left n, starts-fewer)

    -- no state is left past the end
    pub states-end : (n : ℕ) → x.end < x.start + n → (scanned nfa x kind earliest n).states ≡ []
    states-end zero past = refl
    states-end (suc n) past =
        let reached : x.end ≤ x.start + n = omega arith in
        rw (le-ltb (x.start + n) x.end reached)
        (no-step (kept nfa kind (closure_at nfa x (x.start + n) (scanned nfa x kind earliest n))))
      where
        no-step : (states : List ℕ) → step nfa None states ≡ []
        no-step [] = refl
        no-step (s ∷ states) = no-step states

    -- and no start
    starts-few : length (starts nfa x) ≤ position_count x
    starts-few = grind (arith, starts-none, length-pairs_from)

    pub starts-end : (scanned nfa x kind earliest (position_count x)).starts ≡ 0
    starts-end = omega (arith, starts-left (position_count x), starts-few)

  -- the positions reach past the end
  pub past-end : x.end < x.start + position_count x
  past-end = omega arith

  -- every path has ended
  pub ends-there : (at : ℕ) → x.end < at → EndsBefore (bare nfa x) (is_match nfa) at
  ends-there at past m p w t =
      let k : m.1 < x.end + 1 = EndsBefore-span nfa x (is_match nfa) m p w t in omega arith
