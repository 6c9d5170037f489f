-- Some accepting path is one of pattern k exactly if that pattern matches from a position where the search may start. A
-- scan of any kind finds a path exactly if some pattern does.
use Rattle.nfa_paths.proofs.Common.{◌≡◌, ℕ, ◌≤◌, ◌<◌, ◌⊎◌, ◌||◌, if◌then◌else◌, inl, inr, Bool, true, false, List, [], ◌∷◌, map, length, refl, sym, ap, ◌∙◌, subst, arith, Option, None, Some, is_some, All, option_and_then, slice_get, slice_index, slice_index_or, ◌↔◌, slice_get-get_or, slice_get_within, get_or_from_slice_get, number_of, Search, is_anchored, MatchKind, Anchored, Automaton, HoldsPattern, IsAnswer, IsBoolAnswer, IsOverlapResult, IsSearchAnswer, Pair, In, HeadIs, NoRepeats, Linked, EndsWith, PathTo, Accepts, IsFirst, IsPermitted, IsPermittedEnd, IsPatternOf, IsScanAnswer, path_pattern, pattern_of, node_at, is_match, IsMatch, edges_of, edges, start_state, starts, is_utf8_empty, Pattern, Union, Fail}
use Rattle.regex_search_core.specs.declared.search.MatchKind.TheVariants as match_kind
use Rattle.nfa_compiler.specs.Common.{Re, Trace, accept, attempt, empty, Matches, IsNfaOf, IsTried, MatchesSomewhere, PatternMatches, hit_of}
use Rattle.regex_hir.proofs.AttemptLemmas.{attempt_complete}
use Rattle.regex_hir.proofs.OptionLemmas.{value_of_IsSome}
use Rattle.nfa_paths.proofs.PathLemmas.{Path-plain}
use Rattle.nfa_paths.proofs.PathToLemmas.{EndsWith-last, PathTo-accepts, EndsWith-cons}
use Rattle.nfa_paths.proofs.PatternLemmas.{some-pattern}
use Rattle.nfa_paths.proofs.AnswerLemmas.{scan_answer-leads}
use Rattle.nfa_paths.proofs.ExistenceLemmas.{scan_answer-none}
use Rattle.nfa_paths.proofs.StartLemmas.{IsMatch-edges}
use Rattle.nfa_paths.proofs.OpenPathLemmas.{In-get_or, linked-open}
use Rattle.nfa_paths.proofs.FirstStartLemmas.{put-linked}
use Rattle.nfa_compiler.proofs.EachLemmas.{attempt-matches}
use Rattle.nfa_compiler.proofs.SearchLemmas.{is_bound}
use Rattle.nfa_compiler.proofs.WayLemmas.{starts-sound, starts-complete, within-end, from-pattern, no-match, start-among}
use Rattle.nfa_compiler.proofs.StartLemmas.{EndsBy, TellsHit, pattern-first}
use Rattle.nfa_paths.proofs.MemberLemmas.{In-map}

-- a path from one pair begins with it
begins : (edges : Pair → List Pair) (v m : Pair) (p : List Pair) → PathTo edges (v ∷ []) m p → HeadIs v p
begins edges v m p path = grind arith

-- a list of pairs that begins with it is one
path-from : (edges : Pair → List Pair) (v m : Pair) (p : List Pair) → HeadIs v p → NoRepeats p → Linked edges p
    → EndsWith m p → PathTo edges (v ∷ []) m p
path-from edges v m p head once linked ends =
    record { start = v; among = inl refl; head = head; once = once; linked = linked; ends = ends }

module _ (res : List Re) (a : Automaton) (made : IsNfaOf res a) (x : Search) (whole : x.end ≡ length x.haystack) where
  -- the start of pattern k
  abbrev start_of : ℕ → ℕ
  start_of k = slice_index a.patterns k

  -- pattern k matches from i
  abbrev MatchesFrom : ℕ → ℕ → Type 0
  MatchesFrom k i = (k < length res) × ((j : ℕ) × Matches x.haystack (slice_index_or res k empty) i j)

  -- one pattern

  -- a path from the start of pattern j to a Match is one of pattern j, which matches from there
  path-matches : (j : ℕ) → j < length res → (v m : Pair) (rest : List Pair) → v.0 ≡ start_of j → v.1 ≤ x.end
      → PathTo (edges a x) (v ∷ []) m (v ∷ rest) → IsMatch a m → (k : ℕ) → pattern_of (node_at a m.0) ≡ Some k
      → (j ≡ k) × MatchesFrom k v.1
  path-matches j known v m rest at within path matches k is =
      let first = pattern-first a x whole j (start_of j) (slice_index_or res j empty) (made.each j known)
      (omega (arith, made.groups)) v.1 within in
      let follows = from-pattern res a made j (omega (arith, made.patterns)) rest v m at
      (linked-open a x (v ∷ rest) path.linked) path.ends in
      let same : j ≡ k = cc ((follows.writes matches).pattern, is) in (
        same,
        subst (λ n. MatchesFrom n v.1) same (
          known,
          of (attempt x.haystack (slice_index_or res j empty) accept v.1) refl first.0 first.1
              (first.2 [] (λ w member. absurd member)),
        ),
      )
    where
      accepts : Accepts (edges a x) (is_match a) [] (start_of j, v.1) (v ∷ rest)
      accepts = subst (λ w. Accepts (edges a x) (is_match a) [] w (v ∷ rest))
          (sym path.head ∙ ap (λ state. (state, v.1)) at)
          (PathTo-accepts (edges a x) (v ∷ []) (is_match a) (IsMatch-edges a x) path matches)

      of : (o : Option Trace) → attempt x.haystack (slice_index_or res j empty) accept v.1 ≡ o
          → (r : Option (List Pair)) → TellsHit a (hit_of j v.1 o) r
          → IsFirst (edges a x) (is_match a) [] (start_of j, v.1) r
          → (e : ℕ) × Matches x.haystack (slice_index_or res j empty) v.1 e
      of None tried None tells none = absurd (none (v ∷ rest) accepts)
      of None tried (Some p) tells is = absurd tells
      of (Some t) tried r tells is =
          (t.end, attempt-matches x.haystack (slice_index_or res j empty) v.1 t tried)

  -- a path from the pair to a Match of pattern k, which matches up to there; it holds none of the pairs that are marked
  record LeadsTo (v : Pair) (k : ℕ) (marks : List Pair) : Type 0 where
    pub end : Pair
    pub along : List Pair
    pub path : PathTo (edges a x) (v ∷ []) end along
    pub pattern_is : pattern_of (node_at a end.0) ≡ Some k
    pub matched : Matches x.haystack (slice_index_or res k empty) v.1 end.1
    pub clear : (w : Pair) → In w along → In w marks → ⊥

  -- if pattern k matches, a path leads from its start to a Match
  match-leads : (k i : ℕ) → i ≤ x.end → MatchesFrom k i → (marks : List Pair)
      → EndsBy a x whole (start_of k) marks → LeadsTo (start_of k, i) k marks
  match-leads k i within m marks behind =
      let re = slice_index_or res k empty in
      let v = value_of_IsSome (attempt x.haystack re accept i)
      (attempt_complete x.haystack re accept i m.1.0 m.1.1 refl) in
      let first = pattern-first a x whole k (start_of k) re (made.each k m.0) (omega (arith, made.groups, m.0)) i within
      in
      of v.0 v.1 first.0 (subst (λ o. TellsHit a (hit_of k i o) first.0) v.1 first.1) (first.2 marks behind)
    where
      of : (t : Trace) → attempt x.haystack (slice_index_or res k empty) accept i ≡ Some t → (r : Option (List Pair))
          → TellsHit a (hit_of k i (Some t)) r → IsFirst (edges a x) (is_match a) marks (start_of k, i) r
          → LeadsTo (start_of k, i) k marks
      of t tried None tells is = absurd tells
      of t tried (Some p) tells is =
          let words = (Path-plain (edges a x) (is_match a) (start_of k, i) p).0 is.0.path in
          record {
            end = tells.end;
            along = p;
            path = path-from (edges a x) (start_of k, i) tells.end p words.0 words.1 words.2 tells.ends;
            pattern_is = tells.pattern_is;
            matched = subst (Matches x.haystack (slice_index_or res k empty) i) (sym tells.at)
                (attempt-matches x.haystack (slice_index_or res k empty) i t tried);
            clear = is.0.clear;
          }

  -- the choice between all patterns

  choice-matches : (v m : Pair) (rest : List Pair) → v.0 ≡ a.anchored → v.1 ≤ x.end
      → PathTo (edges a x) (v ∷ []) m (v ∷ rest) → IsMatch a m → (k : ℕ) → pattern_of (node_at a m.0) ≡ Some k
      → MatchesFrom k v.1
  unfolding edges_of node_at
  choice-matches v m rest at within path matches k is = elim made.chooses [
    | inl one ↦
        (path-matches 0 (omega (arith, made.patterns, ap length one)) v m rest
        (at ∙ ap (λ ps. slice_index ps 0) (sym one)) within path matches k is).1
    | inr several ↦ of rest path (ap (node_at a) at ∙ several.0)
  ]
    where
      of : (rest : List Pair) → PathTo (edges a x) (v ∷ []) m (v ∷ rest) → node_at a v.0 ≡ Union a.patterns
          → MatchesFrom k v.1
      of [] path node = absurd (no-match a v m (ap (λ n. is_some (pattern_of n)) node) path.ends matches)
      of (y ∷ rest) path node =
          let there : In y (map (λ next. (next, v.1)) a.patterns) =
          subst (λ n. In y (edges_of x n v.1)) node path.linked.0 in
          let among = start-among a.patterns v.1 y there in
          subst (MatchesFrom k) among.3
          (path-matches among.0 (omega (arith, made.patterns, among.1)) y m rest among.2 (omega (arith, among.3))
          (path-from (edges a x) y m (y ∷ rest) refl path.once.1 path.linked.1 path.ends) matches k is).1

  choice-leads : (k i : ℕ) → i ≤ x.end → MatchesFrom k i → LeadsTo (a.anchored, i) k []
  unfolding edges_of node_at
  choice-leads k i within m = elim made.chooses [ inl one ↦ only one | inr several ↦ union several ]
    where
      only : a.patterns ≡ a.anchored ∷ [] → LeadsTo (a.anchored, i) k []
      only one =
          let first : k ≡ 0 = omega (arith, m.0, made.patterns, ap length one) in
          let at : start_of k ≡ a.anchored = ap (λ n. start_of n) first ∙ ap (λ ps. slice_index ps 0) one in
          subst (λ state. LeadsTo (state, i) k []) at (match-leads k i within m [] (λ w member. absurd member))

      union : (slice_index_or a.states a.anchored Fail ≡ Union a.patterns) × All (λ s. s < a.anchored) a.patterns
          → LeadsTo (a.anchored, i) k []
      union h =
          let less : k < length a.patterns = omega (arith, m.0, made.patterns) in
          let p = match-leads k i within m ((a.anchored, i) ∷ []) (λ v member. grind (arith, h.1 k 0 less)) in
          record {
            end = p.end;
            along = (a.anchored, i) ∷ p.along;
            path = path-from (edges a x) (a.anchored, i) p.end ((a.anchored, i) ∷ p.along) refl
                (λ member. p.clear (a.anchored, i) member (inl refl), p.path.once)
                (put-linked (edges a x) (a.anchored, i) (start_of k, i) p.along
                (subst (λ es. In (start_of k, i) es) (sym (ap (λ n. edges_of x n i) h.0))
                (In-map (λ next. (next, i)) (start_of k) a.patterns (In-get_or a.patterns k 0 less)))
                (begins (edges a x) (start_of k, i) p.end p.along p.path) p.path.linked)
                (EndsWith-cons (a.anchored, i) p.end p.along p.path.ends);
            pattern_is = p.pattern_is;
            matched = p.matched;
            clear = λ w member never. never;
          }

  -- the start of a search

  start-matches : (mode : Anchored) (v m : Pair) (rest : List Pair) → start_state a mode ≡ Some v.0 → v.1 ≤ x.end
      → PathTo (edges a x) (v ∷ []) m (v ∷ rest) → IsMatch a m → (k : ℕ) → pattern_of (node_at a m.0) ≡ Some k
      → IsTried mode k × MatchesFrom k v.1
  start-matches (Pattern pattern) v m rest start within path matches k is =
      path-matches (number_of pattern)
      (omega (arith, made.patterns, slice_get_within a.patterns (number_of pattern) v.0 start)) v m rest
      (sym (get_or_from_slice_get a.patterns (number_of pattern) v.0 0 start)) within path matches k is
  start-matches _ v m rest start within path matches k is =
      let at : v.0 ≡ a.anchored = cc in (tt, choice-matches v m rest at within path matches k is)

  start-leads : (mode : Anchored) (k i : ℕ) → i ≤ x.end → IsTried mode k → MatchesFrom k i
      → (state : ℕ) × (start_state a mode ≡ Some state) × LeadsTo (state, i) k []
  start-leads (Pattern pattern) k i within tried m = (
    start_of k,
    ap (slice_get a.patterns) tried ∙ slice_get-get_or a.patterns k 0 (omega (arith, m.0, made.patterns)),
    match-leads k i within m [] (λ w member. absurd member),
  )
  start-leads _ k i within tried m = (a.anchored, refl, choice-leads k i within m)

  -- a search

  -- a path to a Match of pattern k shows that it matches
  pub path-sound : (k : ℕ) (m : Pair) (p : List Pair) → PathTo (edges a x) (starts a x) m p → IsMatch a m
      → pattern_of (node_at a m.0) ≡ Some k → PatternMatches res (is_bound res a made) x k
  path-sound k m [] path matches is = absurd path.head
  path-sound k m (v ∷ rest) path matches is =
      let s = starts-sound a x v (subst (λ w. In w (starts a x)) (sym path.head) path.among) in
      let found = start-matches x.anchored v m rest s.0 (within-end a x v.1 s.2 s.3)
      (path-from (edges a x) v m (v ∷ rest) refl path.once path.linked path.ends) matches k is in
      record {
        start = v.1;
        end = found.1.1.0;
        known = found.1.0;
        tried = found.0;
        from = s.1;
        to = s.3;
        inside = s.2;
        matches = found.1.1.1;
      }

  pub pattern-sound : (k : ℕ) → IsPatternOf a x (IsPermitted a x) k → PatternMatches res (is_bound res a made) x k
  pattern-sound k h = path-sound k h.end h.along h.path h.wanted.matches h.pattern_is

  -- so does the answer of a scan of any kind
  pub scan-sound : (kind : MatchKind) (earliest : Bool) (p : List Pair) → IsScanAnswer a x kind earliest (Some p)
      → MatchesSomewhere res (is_bound res a made) x
  scan-sound kind earliest p answer =
      let leads = scan_answer-leads a x kind earliest p answer in
      let some = some-pattern (node_at a leads.end.0) leads.matches in
      record { pattern = some.0; matches = path-sound some.0 leads.end p leads.path leads.matches some.1 }

  -- If pattern k matches, a path of it counts, as long as each match of the pattern from there may end where it does.
  pub pattern-complete : (k : ℕ) (m : PatternMatches res (is_bound res a made) x k)
      → ((e : ℕ) → Matches x.haystack (slice_index_or res k empty) m.start e → IsPermittedEnd a x e)
      → IsPatternOf a x (IsPermitted a x) k
  pattern-complete k m permits =
      let s = start-leads x.anchored k m.start (within-end a x m.start m.inside m.to) m.tried
      (m.known, (m.end, m.matches)) in
      let path = s.2.path in
      record {
        end = s.2.end;
        along = s.2.along;
        path = record {
          start = (s.0, m.start);
          among = starts-complete a x s.0 m.start s.1 m.from m.inside m.to;
          head = begins (edges a x) (s.0, m.start) s.2.end s.2.along path;
          once = path.once;
          linked = path.linked;
          ends = path.ends;
        };
        wanted = record {
          matches = ap (λ o. is_some o) s.2.pattern_is;
          ends = permits s.2.end.1 s.2.matched;
        };
        pattern_is = s.2.pattern_is;
      }

  -- the path of such an answer has a pattern
  path-patterned : (kind : MatchKind) (earliest : Bool) (path : Option (List Pair))
      → IsScanAnswer a x kind earliest path → is_some (option_and_then (path_pattern a) path) ≡ is_some path
  path-patterned kind earliest None answer = refl
  path-patterned kind earliest (Some p) answer = grind (arith, scan_answer-leads, EndsWith-last)

  -- if a match may end anywhere
  module _ (ends : (k i e : ℕ) → i ≤ x.end → Matches x.haystack (slice_index_or res k empty) i e
      → IsPermittedEnd a x e) where
    complete : (k : ℕ) → PatternMatches res (is_bound res a made) x k → IsPatternOf a x (IsPermitted a x) k
    complete k m = pattern-complete k m (λ e. ends k m.start e (within-end a x m.start m.inside m.to))

    -- a set gains exactly the patterns that match
    pub sets-iff : (old new : List Bool) → IsOverlapResult a x match_kind.All false old new → (k : ℕ)
        → HoldsPattern new k ↔ (HoldsPattern old k ⊎ ((k < length old) × PatternMatches res (is_bound res a made) x k))
    sets-iff old new result k =
        let gained = result.gains.gained k in (
          λ holds. elim (gained.0 holds) [ inl held ↦ inl held | inr g ↦ inr (g.0, pattern-sound k g.1) ],
          λ h. gained.1 (elim h [ inl held ↦ inl held | inr g ↦ inr (g.0, complete k g.1) ]),
        )

    -- a scan finds a path exactly if some pattern matches
    path-iff : (kind : MatchKind) (earliest : Bool) (path : Option (List Pair))
        → IsScanAnswer a x kind earliest path
        → (is_some path ≡ true) ↔ MatchesSomewhere res (is_bound res a made) x
    path-iff kind earliest None answer = (
      λ never. absurd (cc),
      λ m.
          let reached = complete m.pattern m.matches in
          absurd (scan_answer-none a x kind earliest answer reached.end reached.along reached.path
          reached.wanted.matches),
    )
    path-iff kind earliest (Some p) answer = (λ e. scan-sound kind earliest p answer, λ m. refl)

    -- so does a search that answers what its first scan does
    module _ (kind : MatchKind) (earliest : Bool)
        (first : (restarts : ℕ) (path : Option (List Pair)) → IsSearchAnswer a kind earliest x restarts path
        → IsScanAnswer a x kind earliest path) where
      pub found-iff : (found : Bool) → IsBoolAnswer a kind earliest x found
          → (found ≡ true) ↔ MatchesSomewhere res (is_bound res a made) x
      found-iff found answer = grind (arith, path-iff)

      pub answers-iff : (pattern : Option ℕ) (slots : List (Option ℕ)) → IsAnswer a kind earliest x pattern slots
          → (is_some pattern ≡ true) ↔ MatchesSomewhere res (is_bound res a made) x
      answers-iff pattern slots answer = found-iff (is_some pattern) (record {
        restarts = answer.restarts;
        path = answer.path;
        answers = answer.answers;
        found_is = ap is_some answer.pattern_is
            ∙ path-patterned kind earliest answer.path (first answer.restarts answer.path answer.answers);
      })

  -- no match is left out if the NFA is not in UTF-8 mode, or no pattern may match the empty string
  pub anywhere-ends : is_utf8_empty a ≡ false → (k i e : ℕ) → i ≤ x.end
      → Matches x.haystack (slice_index_or res k empty) i e → IsPermittedEnd a x e
  anywhere-ends anywhere k i e within matches = λ mode. absurd (cc (mode, anywhere))

-- a match of a search that starts no earlier is one of this search, if it starts where this one may
pub earlier-match : (res : List Re) (x : Search) (k s : ℕ) {b c : Bool} → x.start ≤ s
    → (m : PatternMatches res b (record x { start = s }) k)
    → m.start ≤ (if is_anchored x.anchored || c then x.start else x.end) → PatternMatches res c x k
earlier-match res x k s least m to = grind arith

-- as it may if it is not bound to its start, and the other starts there too if it is anchored
pub unbound-match : (res : List Re) (x : Search) (k s : ℕ) (b : Bool) → x.start ≤ s
    → (is_anchored x.anchored ≡ true → s ≡ x.start) → PatternMatches res b (record x { start = s }) k
    → PatternMatches res false x k
unbound-match res x k s b least once m = grind (arith, earlier-match)
