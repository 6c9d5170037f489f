-- The answer of a search that tries patterns in order is that of the first pattern that has one; of one pattern, its
-- own.
use Rattle.nfa_paths.proofs.Common.{◌≡◌, ℕ, ◌<◌, ◌⊎◌, inl, inr, false, List, [], ◌∷◌, length, ap, subst, arith, slice_get, Option, Some, cases_eq, Search, Automaton, Pair, Earlier, HeadIs, ComesBefore, PathTo, IsFirstTo, edges, is_utf8_empty, node_at, path_pattern, slot_among, slot_row, starts, IsAnswer, IsMatch, LeftmostFirst, ◌∙◌, refl, sym, None, option_map, option_and_then, cases_lt, Found, slot_count, match_of, IsAutomaton, IsScanAnswer, Yes, nat_lt, if◌then◌else◌, option_map_or, number_of, pairs_from, PatternID, Pattern}
use Rattle.nfa_engines.specs.Laws.{MatchesNothing, PathsWriteTheirEnds}
use Rattle.nfa_engines.specs.StartLaws.{started_at, AnswersAreOfPatterns, FirstPatternAnswers, IsFirstPattern, IsOfPattern, NothingOfEachPattern, AnswerIsOfFirst, FirstPatternMatches, IsFirstThatMatches, IsMatchOfPattern, MatchIsOfFirst, MatchesAreOfPatterns, StartsMatchTheirPatterns, TriesPatternsInOrder}
use Rattle.nfa_paths.proofs.OneScanLemmas.{has-path, scan-of, search-of, gives, given, match-by}
use Rattle.nfa_paths.proofs.FirstStartLemmas.{heads-one}
use Rattle.nfa_engines.proofs.FirstPatternLemmas.{comes, earlier, goes, head-of, not-earlier, order-apart, order-back, order-same, top, top-edges, top-writes, GoesOn, IsTried}
use Rattle.nfa_paths.proofs.MemberLemmas.{option_or-None, same_some}
use Rattle.nfa_paths.proofs.PathLemmas.{Earlier-irreflexive}
use Rattle.nfa_engines.proofs.MatchLemmas.{path-match, matches-something, no_pattern-nothing, not-both, pattern-matched}
use Rattle.nfa_paths.proofs.SameScanLemmas.{ExploresSame}

-- Only the anchored start differs between the NFA and the NFA of one pattern, so both have the same edges and matches.
module _ {nfa : Automaton} {x : Search} (u : IsTried nfa x) where
  -- the pattern and the slots of a path are those of its rest

  pattern-rest : (s : Pair) (q : List Pair) → HeadIs s q
      → path_pattern nfa (top u ∷ q) ≡ path_pattern nfa q
  pattern-rest = grind arith

  slot-rest : (q : List Pair) (slot : ℕ) → slot_among nfa (top u ∷ q) slot ≡ slot_among nfa q slot
  slot-rest q slot = grind (arith, top-writes u, option_or-None)

  row-rest : (n : ℕ) (q : List Pair) → slot_row nfa n (Some (top u ∷ q)) ≡ slot_row nfa n (Some q)
  unfolding slot_row
  row-rest n q = grind (arith, slot-rest)

  -- nothing

  nothing-each : MatchesNothing nfa x → (k state : ℕ) → slice_get nfa.patterns k ≡ Some state
      → MatchesNothing (started_at nfa state) x
  unfolding node_at
  nothing-each none k state at = record { no_path = λ m q w t. none.no_path m (top u ∷ q) (comes u k state at m q w) t }

  nothing-all : ((k state : ℕ) → slice_get nfa.patterns k ≡ Some state → MatchesNothing (started_at nfa state) x)
      → MatchesNothing nfa x
  unfolding node_at
  nothing-all none = record {
    no_path = λ m p w t. let g = goes u m p w t in (none g.k g.state g.at).no_path m g.rest g.path t;
  }

  -- the first path of the first pattern is the first of all
  first-of : (k state : ℕ) → IsFirstPattern nfa x k state → (q : List Pair)
      → IsFirstTo (edges nfa x) (starts (started_at nfa state) x) (IsMatch nfa) q
      → IsFirstTo (edges nfa x) (starts nfa x) (IsMatch nfa) (top u ∷ q)
  unfolding node_at
  first-of k state first q f = record {
    end = f.end;
    path = comes u k state first.starts_at f.end q f.path;
    wanted = f.wanted;
    first = λ m p w t.
        let g = goes u m p w t in
        let head = head-of u state f.end q f.path in
        rw g.is (elim (cases_eq state g.state) [
          | inl same ↦
              order-same u (state, x.start) q g.rest head
              (rw same g.head) (f.first m g.rest (rw same g.path) t)
          | inr apart ↦
              inr (order-apart u (state, x.start) (g.state, x.start) q g.rest head g.head
              (rw (top-edges u) (earlier x.start nfa.patterns k state g.state first.starts_at apart
              (λ j less at. (first.nothing j g.state less at).no_path m g.rest g.path t))))
        ]);
  }

  -- the first of all is the first path of the first pattern
  module _ (p : List Pair) (f : IsFirstTo (edges nfa x) (starts nfa x) (IsMatch nfa) p)
      (g : GoesOn u f.end p) where
    order-of : (j other : ℕ) → slice_get nfa.patterns j ≡ Some other → (m : Pair) (r : List Pair)
        → PathTo (edges nfa x) (starts (started_at nfa other) x) m r → IsMatch nfa m
        → (r ≡ g.rest) ⊎ (Earlier (edges nfa x (top u)) (g.state, x.start) (other, x.start)
        ⊎ ((◌≡◌ {A = Pair} (g.state, x.start) (other, x.start)) × ComesBefore (edges nfa x) g.rest r))
    order-of j other at m r w t =
        order-back u (g.state, x.start) (other, x.start) g.rest r g.head
        (head-of u other m r w)
        (subst (λ z. (top u ∷ r ≡ z) ⊎ ComesBefore (edges nfa x) z (top u ∷ r)) g.is
        (f.first m (top u ∷ r) (comes u j other at m r w) t))

    not-there : (j other : ℕ) → j < g.k → slice_get nfa.patterns j ≡ Some other
        → ◌≡◌ {A = Pair} (g.state, x.start) (other, x.start) → ⊥
    not-there j other less at e = grind arith

    first-pattern : IsFirstPattern nfa x g.k g.state
    unfolding node_at
    first-pattern = record {
      starts_at = g.at;
      nothing = λ j other less at. record {
        no_path = λ m r w t.
            elim (order-of j other at m r w t) [
              | inl same ↦
                  not-there j other less at
                  (heads-one (g.state, x.start) (other, x.start) g.rest g.head
                  (rw same at (head-of u other m r w)))
              | inr order ↦ elim order [
                | inl sooner ↦
                    not-earlier x.start nfa.patterns j g.state other at
                    (λ i below there. g.before i (omega arith) there)
                    (rw (top-edges u) at sooner)
                | inr same ↦ not-there j other less at same.0
              ]
            ];
      };
    }

    first-rest : IsFirstTo (edges nfa x) (starts (started_at nfa g.state) x) (IsMatch nfa) g.rest
    first-rest = record {
      end = f.end;
      path = g.path;
      wanted = f.wanted;
      first = λ m r w t.
          grind (arith, order-of g.k g.state g.at m r w t, Earlier-irreflexive);
    }

  -- the answers
  module _ (anywhere : is_utf8_empty nfa ≡ false) where
    answer-of : {k state pattern : ℕ} {slots : List (Option ℕ)} → IsFirstPattern nfa x k state
        → IsAnswer (started_at nfa state) LeftmostFirst false x (Some pattern) slots
        → IsAnswer nfa LeftmostFirst false x (Some pattern) slots
    unfolding node_at slot_row
    answer-of {k} {state} {pattern} {slots} first a =
        let q = has-path (started_at nfa state) LeftmostFirst false x pattern slots a in
        let f = scan-of (started_at nfa state) LeftmostFirst false x anywhere q.restarts (Some q.path) q.answers in
        let head = head-of u state f.end q.path f.path in
        let answers = search-of nfa LeftmostFirst false x anywhere (Some (top u ∷ q.path))
        (first-of k state first q.path f) in
        grind (arith, q, answers, pattern-rest (state, x.start) q.path head, row-rest (length slots) q.path)

    of-pattern : {pattern : ℕ} {slots : List (Option ℕ)} → IsAnswer nfa LeftmostFirst false x (Some pattern) slots
        → IsOfPattern nfa LeftmostFirst false x pattern slots
    unfolding node_at slot_row
    of-pattern {pattern} {slots} a =
        let p = has-path nfa LeftmostFirst false x pattern slots a in
        let f = scan-of nfa LeftmostFirst false x anywhere p.restarts (Some p.path) p.answers in
        let g = goes u f.end p.path f.path f.wanted in
        let first = first-pattern p.path f g in
        let answers = search-of (started_at nfa g.state) LeftmostFirst false x anywhere (Some g.rest)
        (first-rest p.path f g) in
        let rest = pattern-rest (g.state, x.start) g.rest g.head in
        grind (arith, p, first, answers, g.is, rest, row-rest (length slots) g.rest)

-- one pattern, whose start is the anchored start
module _ (nfa : Automaton) (one : nfa.patterns ≡ nfa.anchored ∷ []) where
  only : (k state : ℕ) → slice_get nfa.patterns k ≡ Some state → nfa.anchored ≡ state
  only = grind arith

  first-only : slice_get nfa.patterns 0 ≡ Some nfa.anchored
  first-only = ap (λ (ps : List ℕ). slice_get ps 0) one

pub pattern-answers : FirstPatternAnswers LeftmostFirst false
pattern-answers = grind (arith, only, answer-of)

pub answers-pattern : AnswersAreOfPatterns LeftmostFirst false
answers-pattern nfa x pattern slots anywhere bound (inl one) a = record {
  k = 0;
  state = nfa.anchored;
  first = record { starts_at = first-only nfa one; nothing = λ j other less. absurd (omega arith) };
  answers = a;
}
answers-pattern nfa x pattern slots anywhere bound (inr union) a =
    of-pattern (record { bound = bound; union = union }) anywhere a

pub pattern-nothing : NothingOfEachPattern
pattern-nothing nfa x bound (inl one) = (
  λ none k state at. subst (λ (s : ℕ). MatchesNothing (started_at nfa s) x) (only nfa one k state at) none,
  λ all. all 0 nfa.anchored (first-only nfa one),
)
pattern-nothing nfa x bound (inr union) =
    let u : IsTried nfa x = record { bound = bound; union = union } in (nothing-each u, nothing-all u)

-- the match of the first pattern is that of all, and the other way round

pub pattern-match : FirstPatternMatches LeftmostFirst false
pattern-match nfa x k state m anywhere bound tries first =
    match-by refl (λ pattern slots. pattern-answers nfa x k state pattern slots anywhere bound tries first)

pub match-pattern : MatchesAreOfPatterns LeftmostFirst false
match-pattern nfa x m anywhere bound tries h =
    let g = gives nfa LeftmostFirst false x (Some m) h in
    of g.pattern g.slots g.answers g.count g.is
  where
    of : (pattern : Option ℕ) (slots : List (Option ℕ)) → IsAnswer nfa LeftmostFirst false x pattern slots
        → length slots ≡ slot_count nfa.groups → Some m ≡ match_of pattern slots
        → IsMatchOfPattern nfa LeftmostFirst false x m
    of None slots a count is = cc
    of (Some pattern) slots a count is =
        grind (arith, answers-pattern nfa x pattern slots anywhere bound tries a, given, is)

-- the pattern of the answer
module _ (nfa : Automaton) (x : Search) where
  -- two patterns that are the first to match are one
  same-first : (j k : ℕ) → IsFirstThatMatches nfa x j → IsFirstThatMatches nfa x k → j ≡ k
  same-first j k f g = grind (arith, cases_eq j k, cases_lt j k, not-both f.matches, not-both g.matches)

  module _ (anywhere : is_utf8_empty nfa ≡ false) (bound : x.anchored ≡ Yes) (tries : TriesPatternsInOrder nfa x)
      (their : StartsMatchTheirPatterns nfa x) where
    -- the pattern of an answer is the first that matches
    first-of-answer : (pattern : ℕ) (slots : List (Option ℕ))
        → IsAnswer nfa LeftmostFirst false x (Some pattern) slots → IsFirstThatMatches nfa x pattern
    first-of-answer pattern slots a =
        let one = answers-pattern nfa x pattern slots anywhere bound tries a in
        let matched =
        pattern-matched (started_at nfa one.state) x LeftmostFirst false pattern slots anywhere one.answers in
        let same : pattern ≡ one.k = their one.k one.state pattern one.first.starts_at matched in
        rw same (record { state = one.state; first = one.first; matches = matches-something matched })

pub answer-first : AnswerIsOfFirst LeftmostFirst false
answer-first nfa x k None slots anywhere bound tries their a = (
  λ e. cc,
  λ f.
      let none = no_pattern-nothing nfa x LeftmostFirst false slots anywhere a in
      absurd (not-both f.matches ((pattern-nothing nfa x bound tries).0 none k f.state f.first.starts_at)),
)
answer-first nfa x k (Some pattern) slots anywhere bound tries their a =
    let is = first-of-answer nfa x anywhere bound tries their pattern slots a in (
      λ e. subst (IsFirstThatMatches nfa x) (same_some pattern k e) is,
      λ f. ap Some (same-first nfa x pattern k is f),
    )

-- and that of the match
match-has_pattern : (nfa : Automaton) (x : Search) → IsAutomaton nfa → PathsWriteTheirEnds nfa x
    → (path : Option (List Pair)) (found : Option Found) → IsScanAnswer nfa x LeftmostFirst false path
    → found ≡ match_of (option_and_then (path_pattern nfa) path) (slot_row nfa (slot_count nfa.groups) path)
    → option_map (λ (m : Found). m.pattern) found ≡ option_and_then (path_pattern nfa) path
match-has_pattern nfa x valid write None found scan is = ap (option_map (λ (m : Found). m.pattern)) is
match-has_pattern nfa x valid write (Some p) found scan is =
    let writes = write scan.end p scan.path scan.wanted in
    ap (option_map (λ (m : Found). m.pattern)) (is ∙ path-match nfa valid x scan.end p scan.path writes)
    ∙ sym writes.pattern_is

pub match-first-pattern : MatchIsOfFirst LeftmostFirst false
unfolding gives
match-first-pattern nfa x k found valid anywhere bound tries their write a =
    let g = gives nfa LeftmostFirst false x found a in
    let scan = scan-of nfa LeftmostFirst false x anywhere a.restarts a.path a.answers in
    let same = match-has_pattern nfa x valid write a.path found scan a.found_is in
    let of_answer = answer-first nfa x k g.pattern g.slots anywhere bound tries their g.answers in
    (λ e. of_answer.0 (sym same ∙ e), λ f. same ∙ of_answer.1 f)

-- the two searches start at the same pairs
module _ (nfa : Automaton) (x : Search) (pattern : PatternID) (state : ℕ)
    (at : slice_get nfa.patterns (number_of pattern) ≡ Some state) where
  pub same-alone : ExploresSame nfa (record x { anchored = Pattern pattern }) state Yes x.earliest
  same-alone = record {
    bound = refl;
    starts_are = λ s. ap (λ (o : Option ℕ). option_map_or
        (λ (q : ℕ). pairs_from q s (if nat_lt x.end s then 0 else 1)) o []) at;
  }

  pub same-bound : ExploresSame (started_at nfa state) (record x { anchored = Yes }) nfa.anchored (Pattern pattern)
      x.earliest
  same-bound = record { bound = refl; starts_are = λ s. sym (same-alone.starts_are s) }
