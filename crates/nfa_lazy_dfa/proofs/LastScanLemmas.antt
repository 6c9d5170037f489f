-- The scans for the last path and for the paths with the least end, position by position.
use Rattle.regex_search_core.specs.declared.search.MatchKind.TheVariants.{All}
use Rattle.nfa_paths.proofs.FrontierMatchLemmas.{FirstMatch, last_match-is}
use Rattle.nfa_paths.proofs.KindsLemmas.{IsFrontier-first_match}
use Rattle.nfa_paths.proofs.ScanAnswerLemmas.{starts-from}
use Rattle.nfa_paths.proofs.ScanLemmas.{NoneBefore-start, NoneBefore-step, IsEarliestPath-found, IsEarliestLastPath-found, LastBefore-start, LastBefore-step}
use Rattle.nfa_lazy_dfa.specs.Closures.{state_pattern, last_pattern, before_first_match}
use Rattle.nfa_lazy_dfa.specs.Configurations.{Configuration, begin, closure_at, advance, scanned}
use Rattle.nfa_lazy_dfa.proofs.FollowLemmas.{place, bare}
use Rattle.nfa_lazy_dfa.proofs.NextLemmas.{place-among}
use Rattle.nfa_lazy_dfa.proofs.MatchLemmas.{half_of, FirstIn, NoneIn, NoneMatches, first-is, half-last, half-found}
use Rattle.nfa_lazy_dfa.proofs.PositionLemmas.{scanned-each, AllScan, shape, turns_here, front, AllScan-next, Finding-begin}
use Rattle.nfa_paths.proofs.MemberLemmas.{option_or-None}
use Rattle.nfa_paths.proofs.Common.{◌≡◌, ◌⊎◌, ℕ, ◌+◌, ◌≤◌, inl, inr, Bool, true, false, List, [], ◌∷◌, ◌++◌, map, refl, ap, sym, ◌∙◌, arith, Option, None, Some, is_some, option_map, option_and_then, option_or, map-append, HalfFound, Search, MatchKind, Automaton, Pair, IsFirstPath, WantedAt, Hit, Passes, IsFoundBy, NoneBefore, LastBefore, NoMatch, last_match, is_resting, is_match, IsScanAnswer, path_half, LeftmostFirst, half_at}

-- a half match that is there
pub half-some : (at : ℕ) (hit : Option ℕ) → is_some hit ≡ true → is_some (option_map (half_at at) hit) ≡ true
half-some at None some = cc
half-some at (Some p) some = refl

-- what was found first stays
pub stays : (o h : Option HalfFound) → is_some o ≡ true → option_or o h ≡ o
stays o h some = grind arith

-- if no state is a Match, neither is a pair that was put aside
none-placed : (nfa : Automaton) (at : ℕ) (states : List ℕ) → NoneMatches nfa states
    → NoMatch (is_match nfa) (map (place at) states)
none-placed nfa at states plain b i m =
    let h = place-among at states b i in plain h.0 h.1 (rw h.2 at m)

module _ (nfa : Automaton) (x : Search) where
  -- the pattern and the end of the answer of a scan
  pub record Answered (kind : MatchKind) (earliest : Bool) (found : Option HalfFound) : Type 0 where
    pub path : Option (List Pair)
    pub answers : IsScanAnswer nfa x kind earliest path
    pub half_is : option_and_then (path_half nfa) path ≡ found

  -- what is found by its path is the answer
  pub Answered-found : (kind : MatchKind) (earliest : Bool) (turns : ℕ) (g : Hit)
      → IsFoundBy (λ v. None) [] (IsScanAnswer nfa x kind earliest) turns g → Answered kind earliest (half_of nfa g)
  Answered-found kind earliest turns g h =
      record { path = h.path; answers = h.meant; half_is = half-found nfa h.path ∙ ap (half_of nfa) h.leads }

  AllScan-begin : AllScan nfa x x.start 0 (begin nfa x)
  AllScan-begin = record { scanning = record { searching = λ target m. Finding-begin nfa x target } }

  -- the last path

  -- before a position, with what was found last
  pub record LastScan (at : ℕ) (c : Configuration) : Type 0 where
    pub spent : ℕ
    pub all : AllScan nfa x at spent c
    pub so_far : Hit
    pub found_is : half_of nfa so_far ≡ c.found
    pub last : LastBefore (bare nfa x) (is_match nfa) [] at spent so_far

  pub LastScan-advance : (at : ℕ) (c : Configuration) → LastScan at c
      → LastScan (at + 1) (advance nfa x All false at c)
  LastScan-advance at c s =
      let here = closure_at nfa x at c in
      let more : s.spent ≤ turns_here nfa x at s.spent c s.all = omega arith in
      record {
        spent = turns_here nfa x at s.spent c s.all;
        all = AllScan-next nfa x at s.spent c s.all (advance nfa x All false at c) refl refl;
        so_far = last_match (is_match nfa) s.so_far (map (place at) here);
        found_is = half-last nfa at here s.so_far
            ∙ ap (option_or (option_map (half_at at) (last_pattern nfa here))) s.found_is;
        last = LastBefore-step (bare nfa x) (is_resting nfa) (is_match nfa) [] (shape nfa x) more s.last
            (front nfa x at s.spent c s.all);
      }

  pub LastScan-scanned : (n : ℕ) → LastScan (x.start + n) (scanned nfa x All false n)
  LastScan-scanned = scanned-each nfa x All false LastScan
      (record {
        spent = 0;
        all = AllScan-begin;
        so_far = None;
        found_is = refl;
        last = LastBefore-start (bare nfa x) (is_resting nfa) (is_match nfa) [] (shape nfa x) x.start
            (starts-from nfa x);
      })
      LastScan-advance

  -- the least end

  -- nothing was found, and no path ended
  pub record NotYet (at : ℕ) (c : Configuration) : Type 0 where
    pub spent : ℕ
    pub all : AllScan nfa x at spent c
    pub found_is : c.found ≡ None
    pub none : NoneBefore (bare nfa x) (is_match nfa) at

  -- the answer was found
  pub record Already (kind : MatchKind) (c : Configuration) : Type 0 where
    pub answered : Answered kind true c.found
    pub some : is_some c.found ≡ true

  abbrev pub EarliestScan : MatchKind → ℕ → Configuration → Type 0
  EarliestScan kind at c = NotYet at c ⊎ Already kind c

  Already-advance : (kind : MatchKind) (at : ℕ) (c : Configuration) → Already kind c
      → Already kind (advance nfa x kind true at c)
  Already-advance kind at c s =
      let same : (advance nfa x kind true at c).found ≡ c.found = stays c.found _ s.some in
      record { answered = rw same s.answered; some = ap is_some same ∙ s.some }

  module _ (at : ℕ) (c : Configuration) (s : NotYet at c) where
    -- of leftmost first a position without a match
    first-miss : NoneIn nfa (closure_at nfa x at c) → NotYet (at + 1) (advance nfa x LeftmostFirst true at c)
    first-miss none = record {
      spent = turns_here nfa x at s.spent c s.all;
      all = AllScan-next nfa x at s.spent c s.all (advance nfa x LeftmostFirst true at c) (rw none.kept refl)
          (rw none.first refl);
      found_is = rw (s.found_is, none.first) refl;
      none = NoneBefore-step (bare nfa x) (is_resting nfa) (is_match nfa) [] (shape nfa x) s.none
          (front nfa x at s.spent c s.all) (none-placed nfa at (closure_at nfa x at c) none.plain);
    }

    -- and one with a match
    first-hit : FirstIn nfa (closure_at nfa x at c) → Already LeftmostFirst (advance nfa x LeftmostFirst true at c)
    first-hit some =
        let before = before_first_match nfa (closure_at nfa x at c) in
        let split : map (place at) (closure_at nfa x at c)
        ≡ map (place at) before ++ place at some.state ∷ map (place at) some.after =
        ap (map (place at)) some.split ∙ map-append (place at) before (some.state ∷ some.after) in
        let first : FirstMatch (is_match nfa) (map (place at) (closure_at nfa x at c)) (place at some.state) = record {
          before = map (place at) before;
          after = map (place at) some.after;
          split = split;
          plain = none-placed nfa at before some.plain;
          matches = ap is_some some.is;
        } in
        let h = IsFrontier-first_match (bare nfa x) (is_resting nfa) (is_match nfa) []
        (turns_here nfa x at s.spent c s.all) (shape nfa x) (front nfa x at s.spent c s.all)
        (place at some.state) first in
        let by : IsFoundBy (λ v. None) []
        (IsFirstPath (bare nfa x).edges (bare nfa x).starts (WantedAt (Passes (is_match nfa)) at))
        (turns_here nfa x at s.spent c s.all) (Some (place at some.state)) =
        record { path = Some h.0; meant = h.1; leads = h.3; short = h.4 } in
        let found_is : half_of nfa (Some (place at some.state)) ≡ Some (half_at at some.pattern) =
        ap (option_map (half_at at)) some.is in
        let new : (advance nfa x LeftmostFirst true at c).found ≡ Some (half_at at some.pattern) =
        rw (s.found_is, some.first) refl in
        record {
          answered = rw (new ∙ sym found_is)
              (Answered-found LeftmostFirst true (turns_here nfa x at s.spent c s.all) (Some (place at some.state))
              (IsEarliestPath-found (bare nfa x) (is_resting nfa) (is_match nfa) [] (shape nfa x) s.none by));
          some = ap is_some new;
        }

    -- of all matches
    last-next : EarliestScan All (at + 1) (advance nfa x All true at c)
    last-next =
        elim (last_match-is (is_match nfa) None (map (place at) (closure_at nfa x at c))) [
          | inl none ↦
              inl (record {
                spent = turns_here nfa x at s.spent c s.all;
                all = AllScan-next nfa x at s.spent c s.all (advance nfa x All true at c) refl refl;
                found_is = rw s.found_is (sym hit_is ∙ ap (half_of nfa) none.0);
                none = NoneBefore-step (bare nfa x) (is_resting nfa) (is_match nfa) [] (shape nfa x) s.none
                    (front nfa x at s.spent c s.all) none.1;
              })
          | inr some ↦
              let new : (advance nfa x All true at c).found ≡ half_of nfa (Some some.0) =
              rw s.found_is (sym hit_is ∙ ap (half_of nfa) some.1) in
              inr (record {
                answered = rw new
                    (Answered-found All true (turns_here nfa x at s.spent c s.all) (Some some.0)
                    (IsEarliestLastPath-found (bare nfa x) (is_resting nfa) (is_match nfa) [] (shape nfa x) s.none
                    (front nfa x at s.spent c s.all) some.0 some.1));
                some = ap is_some new ∙ half-some some.0.0.1 (state_pattern nfa some.0.0.0) some.2.matches;
              })
        ]
      where
        hit_is : half_of nfa (last_match (is_match nfa) None (map (place at) (closure_at nfa x at c)))
            ≡ option_map (half_at at) (last_pattern nfa (closure_at nfa x at c))
        hit_is = half-last nfa at (closure_at nfa x at c) None ∙ option_or-None _

  EarliestScan-advance : (kind : MatchKind) (at : ℕ) (c : Configuration) → EarliestScan kind at c
      → EarliestScan kind (at + 1) (advance nfa x kind true at c)
  EarliestScan-advance kind at c (inr s) = inr (Already-advance kind at c s)
  EarliestScan-advance All at c (inl s) = last-next at c s
  EarliestScan-advance LeftmostFirst at c (inl s) =
      elim (first-is nfa (closure_at nfa x at c)) [
        | inl none ↦ inl (first-miss at c s none)
        | inr some ↦ inr (first-hit at c s some)
      ]

  pub EarliestScan-scanned : (kind : MatchKind) (n : ℕ) → EarliestScan kind (x.start + n) (scanned nfa x kind true n)
  EarliestScan-scanned kind = scanned-each nfa x kind true (EarliestScan kind)
      (inl (record {
        spent = 0;
        all = AllScan-begin;
        found_is = refl;
        none = NoneBefore-start (bare nfa x) (is_resting nfa) (is_match nfa) [] (shape nfa x) x.start
            (starts-from nfa x);
      }))
      (EarliestScan-advance kind)
