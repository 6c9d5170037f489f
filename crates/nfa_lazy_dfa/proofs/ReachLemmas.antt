-- Which patterns are reached before a position, by the matches in the closures there.
use Rattle.regex_search_core.specs.declared.search.MatchKind.TheVariants.{All}
use Rattle.nfa_paths.proofs.MemberLemmas.{In-append_right}
use Rattle.nfa_paths.proofs.SetLemmas.{IsReached-along, IsReached-at, ReachedBefore-start}
use Rattle.nfa_paths.proofs.ScanAnswerLemmas.{starts-from}
use Rattle.nfa_paths.proofs.Common.{◌≡◌, ℕ, zero, suc, ◌+◌, ◌-◌, ◌<◌, ◌≤◌, ◌⊎◌, ◌↔◌, inl, inr, Bool, false, List, [], ◌∷◌, ◌++◌, map, refl, ap, sym, ◌∙◌, subst, arith, Option, None, Some, is_some, option_map, option_to_list, option_or, cases_lt, HalfFound, Search, MatchKind, Automaton, Pair, In, WantedAt, Slots, HoldsMatch, IsFrontier, IsReached, WantedBefore, is_resting, IsPatternOf, IsPermitted, IsPermittedEnd, pattern_at, edges, is_match, starts, LeftmostFirst, half_at}
use Rattle.nfa_lazy_dfa.specs.Closures.{last_pattern, pattern_by_kind, state_pattern}
use Rattle.nfa_lazy_dfa.specs.Configurations.{Configuration, begin, closure_at, scanned}
use Rattle.nfa_lazy_dfa.proofs.FollowLemmas.{bare, place}
use Rattle.nfa_lazy_dfa.proofs.NextLemmas.{place-among}
use Rattle.nfa_lazy_dfa.proofs.PositionLemmas.{AllScan, AllScan-next, Finding-begin, ends-there, front, shape, turns_here}
use Rattle.nfa_lazy_dfa.proofs.SettledLemmas.{scanned-next}
use Rattle.nfa_lazy_dfa.specs.Stances.{patterns_for, patterns_in}

-- an element of a list is one of it after a map
In-map : (at s : ℕ) (states : List ℕ) → In s states → In (place at s) (map (place at) states)
In-map at s [] i = absurd i
In-map at s (t ∷ states) (inl e) = inl (ap (place at) e)
In-map at s (t ∷ states) (inr i) = inr (In-map at s states i)

module _ (nfa : Automaton) where
  -- the patterns of Match states

  patterns-of : (k s : ℕ) (states : List ℕ) → In s states → state_pattern nfa s ≡ Some k → In k (patterns_in nfa states)
  patterns-of k s [] i is = absurd i
  patterns-of k s (t ∷ states) (inl e) is =
      let here : state_pattern nfa t ≡ Some k = ap (state_pattern nfa) (sym e) ∙ is in rw here (inl refl)
  patterns-of k s (t ∷ states) (inr i) is =
      In-append_right k (option_to_list (state_pattern nfa t)) (patterns_in nfa states) (patterns-of k s states i is)

  state-of : (k : ℕ) (states : List ℕ) → In k (patterns_in nfa states)
      → (s : ℕ) × In s states × (state_pattern nfa s ≡ Some k)
  state-of k [] i = absurd i
  state-of k (t ∷ states) i =
      of (state_pattern nfa t) refl i
      (λ (j : In k (patterns_in nfa states)). let h = state-of k states j in (h.0, inr h.1, h.2))
    where
      of : (o : Option ℕ) → state_pattern nfa t ≡ o → In k (option_to_list o ++ patterns_in nfa states)
          → (In k (patterns_in nfa states) → (s : ℕ) × In s (t ∷ states) × (state_pattern nfa s ≡ Some k))
          → (s : ℕ) × In s (t ∷ states) × (state_pattern nfa s ≡ Some k)
      of None e j later = later j
      of (Some p) e (inl same) later = (t, inl refl, e ∙ ap Some (sym same))
      of (Some p) e (inr j) later = later j

  -- without a last one there is none
  pub patterns-none : (states : List ℕ) → last_pattern nfa states ≡ None → patterns_in nfa states ≡ []
  patterns-none [] e = refl
  patterns-none (s ∷ states) e =
      of (last_pattern nfa states) (state_pattern nfa s) refl refl e (patterns-none states)
    where
      of : (a b : Option ℕ) → last_pattern nfa states ≡ a → state_pattern nfa s ≡ b → option_or a b ≡ None
          → (last_pattern nfa states ≡ None → patterns_in nfa states ≡ [])
          → option_to_list (state_pattern nfa s) ++ patterns_in nfa states ≡ []
      of None None last here none rest = rw here (rest last)
      of None (Some p) last here none rest = cc
      of (Some p) b last here none rest = cc

  pub hits-none : (kind : MatchKind) (states : List ℕ) → pattern_by_kind nfa kind states ≡ None
      → patterns_for nfa kind states ≡ []
  hits-none LeftmostFirst states e = refl
  hits-none All states e = patterns-none states e

  -- a front of these states holds the matches of these patterns
  holds-in : (at k : ℕ) (states : List ℕ)
      → HoldsMatch (is_match nfa) (pattern_at nfa) k (map (place at) states) ↔ In k (patterns_in nfa states)
  holds-in at k states = (
    λ h.
        let a = place-among at states h.item h.among in
        patterns-of k a.0 states a.1 (sym (ap (λ (b : Pair × Slots). pattern_at nfa b.0) a.2) ∙ h.pattern_is),
    λ i.
        let a = state-of k states i in
        record {
          item = place at a.0;
          among = In-map at a.0 states a.1;
          matches = ap is_some a.2;
          pattern_is = a.2;
        },
  )

module _ (nfa : Automaton) (x : Search) where
  -- a path of the pattern with a permitted end ends before the position
  abbrev pub ReachedSoFar : ℕ → ℕ → Type 0
  ReachedSoFar at k =
      IsReached (edges nfa x) (starts nfa x) (WantedBefore (IsPermitted nfa x) at) (pattern_at nfa) k

  pub AllScan-scanned : (e : Bool) (n : ℕ) → (spent : ℕ) × AllScan nfa x (x.start + n) spent (scanned nfa x All e n)
  AllScan-scanned e zero =
      let same : x.start ≡ x.start + 0 = omega arith in
      let first : AllScan nfa x x.start 0 (begin nfa x) =
      record { scanning = record { searching = λ target m. Finding-begin nfa x target } } in
      (0, subst (λ (at : ℕ). AllScan nfa x at 0 (begin nfa x)) same first)
  AllScan-scanned e (suc n) =
      let s = AllScan-scanned e n in
      let c = scanned nfa x All e n in
      let spent = turns_here nfa x (x.start + n) s.0 c s.1 in
      let same : x.start + n + 1 ≡ x.start + suc n = omega arith in (
        spent,
        subst (λ (at : ℕ). AllScan nfa x at spent (scanned nfa x All e (suc n))) same
            (AllScan-next nfa x (x.start + n) s.0 c s.1 (scanned nfa x All e (suc n)) refl refl),
      )

  module _ (e : Bool) where
    -- the closure at a position of the scan
    abbrev pub here_at : ℕ → List ℕ
    here_at at = closure_at nfa x at (scanned nfa x All e (at - x.start))

    pub front-at : (at : ℕ) → x.start ≤ at → (turns : ℕ)
        × IsFrontier (bare nfa x) (is_resting nfa) (is_match nfa) [] turns (map (place at) (here_at at)) at
    front-at at low =
        let n = at - x.start in
        let s = AllScan-scanned e n in
        let c = scanned nfa x All e n in
        let spent = turns_here nfa x (x.start + n) s.0 c s.1 in
        let same : x.start + n ≡ at = omega arith in (
          spent,
          subst (λ (p : ℕ). IsFrontier (bare nfa x) (is_resting nfa) (is_match nfa) [] spent
              (map (place p) (closure_at nfa x p c)) p) same (front nfa x (x.start + n) s.0 c s.1),
        )

    -- what is reached at a position
    pub reached-now : (at k : ℕ) → x.start ≤ at → IsPatternOf nfa x (WantedAt (IsPermitted nfa x) at) k
        ↔ (IsPermittedEnd nfa x at × In k (patterns_in nfa (here_at at)))
    reached-now at k low =
        let f = front-at at low in
        let by = IsReached-at (bare nfa x) (is_resting nfa) (is_match nfa) [] (shape nfa x) (pattern_at nfa) k f.1 in
        let into = holds-in nfa at k (here_at at) in (
          λ r. (
            subst (IsPermittedEnd nfa x) r.wanted.at r.wanted.wanted.ends,
            into.0 (by.0 (IsReached-along (λ v w. record { wanted = w.wanted.matches; at = w.at }) r)),
          ),
          λ h.
              IsReached-along (λ v w. record {
                wanted = record {
                  matches = w.wanted;
                  ends = subst (IsPermittedEnd nfa x) (sym w.at) h.0;
                };
                at = w.at;
              }) (by.1 (into.1 h.1)),
        )

    pub reached-step : (at k : ℕ) → x.start ≤ at → ReachedSoFar (at + 1) k
        ↔ (ReachedSoFar at k ⊎ (IsPermittedEnd nfa x at × In k (patterns_in nfa (here_at at))))
    reached-step at k low = (
      λ r.
          elim (cases_lt r.end.1 at) [
            | inl less ↦ inl (record {
              end = r.end;
              along = r.along;
              path = r.path;
              wanted = record { wanted = r.wanted.wanted; before = less };
              pattern_is = r.pattern_is;
            })
            | inr more ↦
                let before : r.end.1 < at + 1 = r.wanted.before in
                let now : r.end.1 ≡ at = omega arith in
                inr ((reached-now at k low).0 (record {
                  end = r.end;
                  along = r.along;
                  path = r.path;
                  wanted = record { wanted = r.wanted.wanted; at = now };
                  pattern_is = r.pattern_is;
                }))
          ],
      λ s.
          elim s [
            | inl r ↦ IsReached-along (λ v w. record {
              wanted = w.wanted;
              before = let less : v.1 < at = w.before in omega arith;
            }) r
            | inr h ↦ IsReached-along (λ v w. record {
              wanted = w.wanted;
              before = let now : v.1 ≡ at = w.at in omega arith;
            }) ((reached-now at k low).1 h)
          ],
    )

  pub reached-begin : (k : ℕ) → ReachedSoFar x.start k → ⊥
  reached-begin k r =
      ReachedBefore-start (bare nfa x) (is_resting nfa) (is_match nfa) [] (shape nfa x) (pattern_at nfa) k x.start
      (starts-from nfa x) (IsReached-along (λ v w. record { wanted = w.wanted.matches; before = w.before }) r)

  pub reached-later : (from to k : ℕ) → from ≤ to → ReachedSoFar from k → ReachedSoFar to k
  reached-later from to k order r = IsReached-along (λ v w. record {
    wanted = w.wanted;
    before = let less : v.1 < from = w.before in omega arith;
  }) r

  pub reached-end : (at k : ℕ) → x.end < at → IsPatternOf nfa x (IsPermitted nfa x) k → ReachedSoFar at k
  reached-end at k past r = record {
    end = r.end;
    along = r.along;
    path = r.path;
    wanted = record {
      wanted = r.wanted;
      before = ends-there nfa x at past r.end r.along r.path r.wanted.matches;
    };
    pattern_is = r.pattern_is;
  }

  pub reached-sound : (at k : ℕ) → ReachedSoFar at k → IsPatternOf nfa x (IsPermitted nfa x) k
  reached-sound at k r = IsReached-along (λ v w. w.wanted) r

  -- where nothing new was found there is no match

  abbrev pub all_found : ℕ → Option HalfFound
  all_found at = (scanned nfa x All false (at - x.start)).found

  pub found-next : (at : ℕ) → x.start ≤ at → all_found (at + 1)
      ≡ option_or (option_map (half_at at) (last_pattern nfa (here_at false at))) (all_found at)
  found-next at low = ap (λ (d : Configuration). d.found) (scanned-next nfa x All false at low)

  -- what was found ends before the position
  pub found-below : (k : ℕ) (h : HalfFound) → all_found (x.start + k) ≡ Some h → h.offset < x.start + k
  found-below zero h e =
      let none : x.start + 0 - x.start ≡ 0 = omega arith in
      let never : None ≡ Some h = sym (ap (λ (n : ℕ). (scanned nfa x All false n).found) none) ∙ e in
      cc
  found-below (suc k) h e =
      let at = x.start + k in
      let same : x.start + suc k ≡ at + 1 = omega arith in
      let next : option_or (option_map (half_at at) (last_pattern nfa (here_at false at))) (all_found at) ≡ Some h =
      sym (found-next at (omega arith)) ∙ ap all_found (sym same) ∙ e in
      of (last_pattern nfa (here_at false at)) next (found-below k h)
    where
      of : (o : Option ℕ) → option_or (option_map (half_at (x.start + k)) o) (all_found (x.start + k)) ≡ Some h
          → (all_found (x.start + k) ≡ Some h → h.offset < x.start + k) → h.offset < x.start + suc k
      of None e rest = let less : h.offset < x.start + k = rest e in omega arith
      of (Some p) e rest =
          let is : half_at (x.start + k) p ≡ h = cc in
          let at : x.start + k ≡ h.offset = ap (λ (f : HalfFound). f.offset) is in
          omega arith

  -- no match ends from one position up to another
  abbrev pub Quiet : ℕ → ℕ → Type 0
  Quiet from to = (m : ℕ) → from ≤ m → m < to → patterns_in nfa (here_at false m) ≡ []

  -- from a position on there was no match, or one was found
  since : (from k : ℕ) → x.start ≤ from
      → Quiet from (from + k) ⊎ ((h : HalfFound) × (all_found (from + k) ≡ Some h) × (from ≤ h.offset))
  since from zero low = inl (λ m l u. absurd (omega arith))
  since from (suc k) low = of (last_pattern nfa (here_at false (from + k))) refl (since from k low)
    where
      now : from + suc k ≡ from + k + 1
      now = omega arith

      found-here : (o : Option ℕ) → last_pattern nfa (here_at false (from + k)) ≡ o → all_found (from + suc k)
          ≡ option_or (option_map (half_at (from + k)) o) (all_found (from + k))
      found-here o e =
          ap all_found now ∙ found-next (from + k) (omega arith)
          ∙ ap (λ (p : Option ℕ). option_or (option_map (half_at (from + k)) p) (all_found (from + k))) e

      of : (o : Option ℕ) → last_pattern nfa (here_at false (from + k)) ≡ o
          → Quiet from (from + k) ⊎ ((h : HalfFound) × (all_found (from + k) ≡ Some h) × (from ≤ h.offset))
          → Quiet from (from + suc k) ⊎ ((h : HalfFound) × (all_found (from + suc k) ≡ Some h) × (from ≤ h.offset))
      of (Some p) e before = inr (half_at (from + k) p, found-here (Some p) e, omega arith)
      of None e (inr h) = inr (h.0, found-here None e ∙ h.1, h.2)
      of None e (inl quiet) = inl (λ m low up.
          elim (cases_lt m (from + k)) [
            | inl less ↦ quiet m low less
            | inr more ↦
                let same : m ≡ from + k = omega arith in
                subst (λ (n : ℕ). patterns_in nfa (here_at false n) ≡ []) (sym same)
                (patterns-none nfa (here_at false (from + k)) e)
          ])

  pub quiet-between : (from to : ℕ) → x.start ≤ from → from ≤ to → all_found from ≡ all_found to → Quiet from to
  quiet-between from to low order same =
      let all : from + (to - from) ≡ to = omega arith in
      subst (Quiet from) all (of (since from (to - from) low))
    where
      of : Quiet from (from + (to - from))
          ⊎ ((h : HalfFound) × (all_found (from + (to - from)) ≡ Some h) × (from ≤ h.offset))
          → Quiet from (from + (to - from))
      of (inl quiet) = quiet
      of (inr h) =
          let all : from + (to - from) ≡ to = omega arith in
          let first : x.start + (from - x.start) ≡ from = omega arith in
          let is : all_found (x.start + (from - x.start)) ≡ Some h.0 =
          ap all_found first ∙ same ∙ sym (ap all_found all) ∙ h.1 in
          let less : h.0.offset < x.start + (from - x.start) = found-below (from - x.start) h.0 is in
          let more : from ≤ h.0.offset = h.2 in
          absurd (omega arith)

  pub reached-quiet : (from k : ℕ) → x.start ≤ from → Quiet from (from + k) → (j : ℕ) → ReachedSoFar (from + k) j
      → ReachedSoFar from j
  reached-quiet from zero low quiet j r = let same : from + 0 ≡ from = omega arith in rw same at r
  reached-quiet from (suc k) low quiet j r =
      let same : from + suc k ≡ from + k + 1 = omega arith in
      let more : ReachedSoFar (from + k + 1) j = subst (λ (n : ℕ). ReachedSoFar n j) same r in
      elim ((reached-step false (from + k) j (omega arith)).0 more) [
        | inl before ↦ reached-quiet from k low (λ m l u. quiet m l (omega arith)) j before
        | inr here ↦
            let none : patterns_in nfa (here_at false (from + k)) ≡ [] = quiet (from + k) (omega arith) (omega arith) in
            absurd (subst (In j) none here.1)
      ]
