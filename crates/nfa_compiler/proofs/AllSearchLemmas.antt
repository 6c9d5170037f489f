-- What a search finds of texts and of one pattern; all matches and all captures are those of all hits, in order.
use Rattle.nfa_paths.proofs.Common.{and-false, ◌≡◌, ℕ, zero, suc, ◌+◌, ◌-◌, ◌<◌, false, List, [], ◌∷◌, length, refl, ◌∙◌, arith, Option, None, All, option_map, ◌==◌, nat_tests, Search, Automaton, is_utf8_empty, No, ◌≤◌, map, ap, Some, Ok, Err, add-one, Span, Bool, true, sym, IsUtf8, Found, slot_count, match_of, LeftmostFirst}
use Rattle.nfa_compiler.specs.Common.{Re, Trace, first_from, find, find_str, Config, AreMeant, IsCompiled, res_of, hit, PatternHit, expected, first_hit, hit_by, hit_of, hit_of_search, expected_in_str, str_hit, Match, find_after, matches_from, hit_after, hits_from, FindsFromAnyStart, HitOf, row_of_hit, boundary_hit, IsNfaOf, found_at, found_of_hit, slots_of}
use Rattle.nfa_compiler.specs.Laws.{AllHitsAreFindAll, OneHitIsFind}
use Rattle.nfa_paths.proofs.MemberLemmas.{option_or-None}
use Rattle.nfa_compiler.proofs.SearchLemmas.{IsAnsweredBy, answered-alike, answer-is, match-is, hit-answered}
use Rattle.nfa_compiler.proofs.MeantLemmas.{all-meant, expected-alike}
use Rattle.nfa_compiler.proofs.UnboundLemmas.{hit-unbound, str-unbound}
use Rattle.nfa_search_base.specs.Common.{Fails, IsStep, ItemsLast, Answer, IterState, fresh, Row, row_found, row_span, AreRows, AnswersRow, AreMatches, span_of}
use Rattle.nfa_compiler.proofs.EachLemmas.{Both, LiesFrom, boundary-lies, hit-lies, str-lies}
use Rattle.nfa_paths.proofs.OneScanLemmas.{given}
use Rattle.nfa_compiler.proofs.BoundarySearchLemmas.{boundary-answered}
use Rattle.nfa_compiler.proofs.StrLemmas.{free-str-answered}

pub text-answered : (syntax : Config) (texts : List (List ℕ)) (res : List Re) (nfa : Automaton) (x : Search)
    → IsCompiled syntax texts nfa → AreMeant syntax texts res → is_utf8_empty nfa ≡ false → x.end ≡ length x.haystack
    → All (λ b. b < 256) x.haystack → IsAnsweredBy nfa x (hit res nfa x)
text-answered syntax texts res nfa x compiled meant anywhere whole bytes =
    let trees = res_of compiled.trees in
    answered-alike (hit-answered trees nfa compiled.made x whole anywhere) (hit res nfa x)
    (expected-alike x bytes trees res (nfa.anchored == nfa.unanchored)
    (all-meant syntax texts compiled.trees res compiled.read meant))

-- one pattern, whose match at a position is `tried`

module _ (at : ℕ → Option PatternHit) (tried : ℕ → Option Trace) (same : (i : ℕ) → at i ≡ hit_of 0 i (tried i)) where
  first-is : (n i : ℕ) → first_hit at n i ≡ option_map (hit_by 0) (first_from tried n i)
  unfolding first_from
  first-is zero i = refl
  first-is (suc n) i = grind (arith, same i, first-is n (i + 1))

  searched-is : (x : Search) (here : Option PatternHit) (one : ℕ → Option PatternHit) → x.anchored ≡ No
      → x.end ≡ length x.haystack
      → hit_of_search x (first_hit at (x.end - x.start + 1) x.start) here one
      ≡ option_map (hit_by 0) (first_from tried (length x.haystack + 1 - x.start) x.start)
  unfolding first_from
  searched-is x here one mode whole =
      grind (arith, nat_tests, first-is (length x.haystack + 1 - x.start) x.start)

module _ (re : Re) (x : Search) (mode : x.anchored ≡ No) (whole : x.end ≡ length x.haystack) where
  pub one-free : expected (re ∷ []) false x ≡ option_map (hit_by 0) (find re x.haystack x.start)
  unfolding expected find
  one-free = grind (arith, nat_tests, searched-is, option_or-None)

  pub one-str-free : expected_in_str (re ∷ []) false x ≡ option_map (hit_by 0) (find_str re x.haystack x.start)
  unfolding expected_in_str find_str
  one-str-free = grind (arith, nat_tests, searched-is, option_or-None)

pub one-hit : OneHitIsFind hit find
one-hit re nfa x kept mode whole = hit-unbound (re ∷ []) nfa x whole kept ∙ one-free re x mode whole

pub one-str-hit : OneHitIsFind str_hit find_str
one-str-hit re nfa x kept mode whole = str-unbound (re ∷ []) nfa x whole kept ∙ one-str-free re x mode whole

-- the span of a hit
abbrev pub span_of_hit : PatternHit → Span
span_of_hit h = record { start = h.start; end = h.trace.end }

module _ {X : Type 0} (span : X → Span) (give : PatternHit → X) where
  -- the answer is that of the hit, if there is one
  abbrev pub Meets : Answer X → Option PatternHit → Type 0
  Meets (Ok o) h = Both (λ y g. (y ≡ give g) × (span y ≡ span_of_hit g)) o h
  Meets (Err error) h = ⊥

  -- a search from each position meets the hit there, and no hit ends after `last`
  module _ (x : Search) (tells : Search → Answer X → Type 0) (hit_from : ℕ → Option PatternHit) (haystack : List ℕ)
      (meets : (i : ℕ) (a : Answer X) → tells (record x { start = i }) a → Meets a (hit_from i))
      (lies : (i : ℕ) (h : PatternHit) → hit_from i ≡ Some h → LiesFrom haystack i (length haystack + 1) h) where
    -- the iteration after a match that ended at i
    abbrev iter_state_at : ℕ → IterState
    iter_state_at i = record { at = record x { start = i }; last = Some i }

    -- a step after that match
    step-meets : (i : ℕ) (a : Answer X) → IsStep span tells (iter_state_at i) a → Meets a (hit_after hit_from i)
    step-meets i a s = grind (arith, nat_tests, meets i s.first s.is_first, meets (i + 1) a, lies i)

    -- the first step
    first-meets : (a : Answer X) → IsStep span tells (fresh x) a → Meets a (hit_from x.start)
    first-meets a s = grind (arith, meets x.start s.first s.is_first, and-false)

    -- a hit after one that ended at i ends after i
    after-lies : (i : ℕ) (h : PatternHit) → hit_after hit_from i ≡ Some h
        → (i < h.trace.end) × (h.trace.end ≤ length haystack)
    after-lies i h e = grind (arith, nat_tests, lies)

    -- no item is left
    none-left : (n : ℕ) (o : Option PatternHit) → Meets (Ok None) o → [] ≡ map give (hits_from hit_from n o)
    unfolding hits_from
    none-left zero o m = refl
    none-left (suc n) None m = refl
    none-left (suc n) (Some h) m = absurd m

    -- all items after a match that ended at i
    next-items : (items : List X) (i n : ℕ) → length haystack ≤ n + i
        → ItemsLast span tells (Fails span tells) (iter_state_at i) (map (λ y. Ok y) items)
        → items ≡ map give (hits_from hit_from n (hit_after hit_from i))
    unfolding hits_from
    next-items [] i n room last = none-left n (hit_after hit_from i) (step-meets i (Ok None) last)
    next-items (y ∷ items) i zero room last = grind (arith, step-meets i (Ok (Some y)) last.0, after-lies i)
    next-items (y ∷ items) i (suc n) room last =
        grind (arith, step-meets i (Ok (Some y)) last.0, after-lies i, next-items items (span y).end n, last.1)

    -- all items
    pub all-items : (items : List X)
        → ItemsLast span tells (Fails span tells) (fresh x) (map (λ y. Ok y) items)
        → items ≡ map give (hits_from hit_from (length haystack + 1) (hit_from x.start))
    unfolding hits_from
    all-items [] last = none-left (length haystack + 1) (hit_from x.start) (first-meets (Ok None) last)
    all-items (y ∷ items) last = grind (arith, nat_tests, add-one, first-meets, next-items)

-- the hits of one pattern are its matches
hits-are-matches : (search_from : ℕ → Option Match) (n : ℕ) (m : Option Match)
    → hits_from (λ i. option_map (hit_by 0) (search_from i)) n (option_map (hit_by 0) m)
    ≡ map (hit_by 0) (matches_from search_from n m)
unfolding hits_from matches_from
hits-are-matches search_from zero m = refl
hits-are-matches search_from (suc n) None = refl
hits-are-matches search_from (suc n) (Some m) =
    ap (λ hs. hit_by 0 m ∷ hs)
    (ap (hits_from (λ i. option_map (hit_by 0) (search_from i)) n) (after m.trace.end)
    ∙ hits-are-matches search_from n (find_after search_from m.trace.end))
  where
    after : (i : ℕ) → hit_after (λ j. option_map (hit_by 0) (search_from j)) i
        ≡ option_map (hit_by 0) (find_after search_from i)
    after i = grind arith

-- a match is that of the hit
found-meets : (found : Option Found) (o : Option PatternHit) → found ≡ found_of_hit o
    → Meets span_of found_at (Ok found) o
found-meets found o e = grind arith

-- each search of an iteration has the hit from its start on
pub record AreAnsweredBy (nfa : Automaton) (x : Search) (hit_from : ℕ → Option PatternHit) : Type 0 where
  pub lies : (i : ℕ) (h : PatternHit) → hit_from i ≡ Some h → LiesFrom x.haystack i (length x.haystack + 1) h
  pub each : (i : ℕ) → IsAnsweredBy nfa (record x { start = i }) (hit_from i)

module _ {nfa : Automaton} {x : Search} {hit_from : ℕ → Option PatternHit} (by : AreAnsweredBy nfa x hit_from) where
  pub all-matches : (ms : List Found) → AreMatches nfa LeftmostFirst false x ms
      → ms ≡ map found_at (hits_from hit_from (length x.haystack + 1) (hit_from x.start))
  all-matches ms are = grind (arith, nat_tests, all-items, found-meets, match-is)

  pub all-rows : (rows : List Row) → AreRows nfa LeftmostFirst false x rows
      → rows ≡ map (row_of_hit nfa) (hits_from hit_from (length x.haystack + 1) (hit_from x.start))
  all-rows rows are =
      all-items row_span (row_of_hit nfa) x (AnswersRow nfa LeftmostFirst false) hit_from x.haystack meets by.lies rows
      are.come
    where
      row-meets : (row : Row) (o : Option PatternHit) → Some (row_found row) ≡ found_of_hit o
          → row.pattern ≡ option_map (λ (h : PatternHit). h.pattern) o
          → row.slots ≡ slots_of nfa.groups (slot_count nfa.groups) o
          → Meets row_span (row_of_hit nfa) (Ok (Some row)) o
      row-meets row o found pattern slots = grind arith

      meets : (i : ℕ) (a : Answer Row) → AnswersRow nfa LeftmostFirst false (record x { start = i }) a
          → Meets row_span (row_of_hit nfa) a (hit_from i)
      meets i (Err error) never = absurd never
      meets i (Ok None) answer = grind (arith, match-is (by.each i) None answer)
      meets i (Ok (Some row)) r =
          let told = answer-is (by.each i) row.pattern row.slots r.answer in
          row-meets row (hit_from i)
          (sym r.is_match ∙ match-is (by.each i) (match_of row.pattern row.slots)
          (given nfa LeftmostFirst false (record x { start = i }) row.pattern row.slots r.count r.answer))
          told.0 (told.1 ∙ ap (λ n. slots_of nfa.groups n (hit_from i)) r.count)

module _ (res : List Re) (nfa : Automaton) (x : Search) (whole : x.end ≡ length x.haystack) where
  abbrev bound : Bool
  bound = nfa.anchored == nfa.unanchored

  abbrev from : ℕ → Search
  from i = record x { start = i }

  -- in each mode
  pub hits-answered : IsNfaOf res nfa → is_utf8_empty nfa ≡ false → AreAnsweredBy nfa x (λ i. hit res nfa (from i))
  hits-answered made anywhere = grind (arith, nat_tests, hit-lies, hit-answered)

  pub boundary-hits-answered : IsNfaOf res nfa → is_utf8_empty nfa ≡ true
      → AreAnsweredBy nfa x (λ i. boundary_hit res nfa (from i))
  boundary-hits-answered made mode = record {
    lies = λ i h. boundary-lies res bound (from i) h whole;
    each = λ i. boundary-answered res nfa made mode (from i) whole;
  }

  module _ (syntax : Config) (texts : List (List ℕ)) (compiled : IsCompiled syntax texts nfa)
      (meant : AreMeant syntax texts res) where
    pub texts-answered : is_utf8_empty nfa ≡ false → All (λ b. b < 256) x.haystack
        → AreAnsweredBy nfa x (λ i. hit res nfa (from i))
    texts-answered anywhere bytes = record {
      lies = λ i h. hit-lies res bound (from i) h whole;
      each = λ i. text-answered syntax texts res nfa (from i) compiled meant anywhere whole bytes;
    }

    pub strs-answered : nfa.utf8 ≡ true → FindsFromAnyStart nfa → IsUtf8 x.haystack
        → AreAnsweredBy nfa x (λ i. str_hit res nfa (from i))
    strs-answered mode free text = record {
      lies = λ i h. str-lies res bound (from i) h whole;
      each = λ i. free-str-answered syntax texts nfa compiled mode (from i) whole text free res meant;
    }

-- all hits of one pattern, if `find` gives the first from each position on
pub all-of-one : (first : HitOf) (find : Re → List ℕ → ℕ → Option Match) → OneHitIsFind first find
    → AllHitsAreFindAll first (λ re hay. matches_from (find re hay) (length hay + 1) (find re hay 0))
all-of-one first find one re nfa x kept mode start whole =
    let count = length x.haystack + 1 in
    ap (λ (from : ℕ → Option PatternHit). hits_from from count (from x.start))
    (λ t i. one re nfa (record x { start = i }) kept mode whole t)
    ∙ ap (λ s. hits_from (λ i. option_map (hit_by 0) (find re x.haystack i)) count
    (option_map (hit_by 0) (find re x.haystack s))) start
    ∙ hits-are-matches (find re x.haystack) count (find re x.haystack 0)
