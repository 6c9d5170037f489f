-- What the slots, the half match and the match of an answer are, what it says of accepting paths, and which start
-- before.
use Rattle.regex_search_core.specs.declared.search.MatchKind.TheVariants.{All}
use Rattle.nfa_engines.specs.IterationLaws.{OneSet, SetHoldsEachPattern}
use Rattle.nfa_paths.proofs.MemberLemmas.{same_test}
use Rattle.nfa_paths.proofs.Common.{length-map-range_with_len, drop-append_seam, take-length, ◌≡◌, ◌∙◌, ℕ, ◌*◌, ◌<◌, ◌≤◌, ◌⊎◌, false, List, [], ◌∷◌, length, refl, sym, ap, arith, Option, None, Some, is_some, option_and_then, cases_lt, slice_get_past, slot_count, Search, offset_at, match_of, Automaton, IsAutomaton, Pair, path_pattern, slot_among, slot_row, IsScanAnswer, IsHalfAnswer, ext_get_or, IsBoolAnswer, ◌+◌, ◌-◌, ◌++◌, take, drop, replicate, length-take-le, ◌↔◌, Bool, nat_tests, MatchKind, PathTo, NoPath, edges, starts, IsMatch, LeftmostFirst}
use Rattle.nfa_paths.proofs.AnswerLemmas.{scan_answer-leads, search_answer-unique, never_none}
use Rattle.nfa_paths.proofs.ExistenceLemmas.{scan_answer-none}
use Rattle.nfa_paths.proofs.EarliestLemmas.{match-unique}
use Rattle.nfa_paths.proofs.OneScanLemmas.{given, has-path, scan-of}
use Rattle.nfa_paths.proofs.PatternLemmas.{found-of, offset_at-slot_row, pattern-within, slot_among-past, node-pattern, slot_row-more, slot_row-take}
use Rattle.nfa_paths.proofs.RestartLemmas.{half-pattern}
use Rattle.nfa_paths.proofs.FirstStartLemmas.{heads-order, path-order}
use Rattle.nfa_engines.specs.Laws.{AllSlotsGiveTheMatch, FoundIsSomething, NoPatternIsNothing, NotFoundIsNothing, PatternIsMatched, TwoSlotsGiveTheMatch, AtMostOne, HalfMatchHasThePattern, BoolIsPattern, AnswersAgree, FewerSlots, SlotsPastAreNone, MatchesNothing, MatchesPattern, MatchesSomething, NoneIsNoPath, NoneStartsBefore, WritesItsEnds, StartsBeforePaths}

no_groups : (groups : List (List (Option (List ℕ)))) → length groups ≡ 0 → slot_count groups ≡ 0
no_groups [] e = refl
no_groups (g ∷ gs) e = absurd (omega arith)

module _ (nfa : Automaton) where
  -- a row has what the path wrote into a slot, also where the slot is past those of the NFA
  offset-row : IsAutomaton nfa → (p : List Pair) (count i : ℕ) → (i < count) ⊎ (slot_count nfa.groups ≤ i)
      → offset_at (slot_row nfa count (Some p)) i ≡ slot_among nfa p i
  unfolding slot_row
  offset-row valid p count i h =
      grind (arith, offset_at-slot_row, slot_among-past, slice_get_past, length-map-range_with_len)

  -- rows with the two slots of each pattern give one match
  row-match : IsAutomaton nfa → (p : List Pair) (count k : ℕ) → path_pattern nfa p ≡ Some k
      → 2 * length nfa.groups ≤ count
      → match_of (Some k) (slot_row nfa count (Some p))
      ≡ match_of (Some k) (slot_row nfa (slot_count nfa.groups) (Some p))
  row-match valid p count k pattern enough = grind (arith, pattern-within, no_groups, offset-row, cases_lt)

-- what all slots give is the match of the search
pub all-match : AllSlotsGiveTheMatch
all-match nfa x kind earliest pattern slots found count a h =
    match-unique nfa kind earliest x (match_of pattern slots) found
    (given nfa kind earliest x pattern slots count a) h

-- so do the slots that each pattern has
pub two-match : TwoSlotsGiveTheMatch
two-match nfa x kind earliest pattern slots found valid enough a h =
    match-unique nfa kind earliest x (match_of pattern slots) found
    (record {
      restarts = a.restarts;
      path = a.path;
      answers = a.answers;
      found_is = ap (λ (o : Option ℕ). match_of o slots) a.pattern_is
          ∙ ap (λ (s : List (Option ℕ)). match_of (option_and_then (path_pattern nfa) a.path) s) a.slots_are
          ∙ of a.path;
    })
    h
  where
    of : (path : Option (List Pair)) → match_of (option_and_then (path_pattern nfa) path)
        (slot_row nfa (length slots) path)
        ≡ match_of (option_and_then (path_pattern nfa) path) (slot_row nfa (slot_count nfa.groups) path)
    of None = refl
    of (Some p) = grind (arith, row-match)

-- if a match may end anywhere

pub found-something : FoundIsSomething
found-something nfa x kind earliest found anywhere is_true h = grind (arith, scan-of, scan_answer-leads)

pub not_found-nothing : NotFoundIsNothing
not_found-nothing nfa x kind earliest found anywhere is_false h =
    of h.path (scan-of nfa kind earliest x anywhere h.restarts h.path h.answers) (sym is_false ∙ h.found_is)
  where
    of : (path : Option (List Pair)) → IsScanAnswer nfa x kind earliest path → false ≡ is_some path
        → MatchesNothing nfa x
    of None scan e = record { no_path = scan_answer-none nfa x kind earliest scan }
    of (Some p) scan e = cc

pub pattern-matched : PatternIsMatched
pattern-matched nfa x kind earliest pattern slots anywhere h = grind (arith, has-path, scan_answer-leads, scan-of)

pub no_pattern-nothing : NoPatternIsNothing
no_pattern-nothing nfa x kind earliest slots anywhere h =
    not_found-nothing nfa x kind earliest false anywhere refl (found-of nfa kind earliest x slots None h)

pub matches-something : {nfa : Automaton} {x : Search} {pattern : ℕ} → MatchesPattern nfa x pattern
    → MatchesSomething nfa x
matches-something h = record { end = h.end; along = h.along; path = h.path; accepts = h.accepts }

pub not-both : {nfa : Automaton} {x : Search} → MatchesSomething nfa x → MatchesNothing nfa x → ⊥
not-both some none = none.no_path some.end some.along some.path some.accepts

pub half-unique : AtMostOne IsHalfAnswer
half-unique nfa x kind earliest a b h k = grind (arith, search_answer-unique)

pub half-pattern-of : HalfMatchHasThePattern
half-pattern-of nfa x kind earliest half pattern slots h answer = grind (arith, search_answer-unique, half-pattern)

-- whether a search finds something has one answer
pub found-unique : AtMostOne IsBoolAnswer
found-unique nfa x kind earliest a b h k = grind (arith, search_answer-unique)

-- and it is whether the search has a pattern
pub found-pattern : BoolIsPattern
found-pattern nfa x kind earliest p s found answer h =
    found-unique nfa x kind earliest found (is_some p) h (found-of nfa kind earliest x s p answer)

-- under `All` a search makes one set of a set
pub set-unique : OneSet All
set-unique nfa x earliest old new other h k =
    ext_get_or false new other (h.capacity ∙ sym k.capacity)
    (λ i within. grind (arith, same_test, h.gains.gained i, k.gains.gained i))

-- if the set has room for each pattern, its capacity leaves none out
pub set-complete : SetHoldsEachPattern false
set-complete nfa x old new valid room h k = grind (arith, node-pattern)

pub fewer-slots : FewerSlots
fewer-slots nfa x kind earliest p q s t h k less = grind (arith, search_answer-unique, slot_row-take)

pub same-slots : AnswersAgree
same-slots nfa x kind earliest p q s t h k same =
    let one = fewer-slots nfa x kind earliest p q s t h k (omega arith) in
    (one.0, one.1 ∙ ap (λ n. take n t) same ∙ take-length t)

pub slots-past : SlotsPastAreNone
slots-past nfa x kind earliest p s valid h many =
    let w = slot_count nfa.groups in
    let k = length s - w in
    let all : length s ≡ w + k = omega arith in
    let row : List (Option ℕ) = slot_row nfa w h.path in
    let split : s ≡ row ++ replicate k None =
    h.slots_are ∙ ap (λ n. slot_row nfa n h.path) all ∙ slot_row-more nfa valid w k (omega arith) h.path in
    -- the row is the beginning of the slots, so it is as long as the NFA has slots
    let first : take w s ≡ row = ap (take w) h.slots_are ∙ slot_row-take nfa w (length s) h.path many in
    let long : length row ≡ w = ap length (sym first) ∙ length-take-le w s many in
    ap (drop w) split ∙ ap (λ n. drop n (row ++ replicate k None)) (sym long)
    ∙ drop-append_seam row (replicate k None)

module _ (nfa : Automaton) where
  -- a slot that a path writes is one of the NFA's
  written-below : IsAutomaton nfa → (p : List Pair) (slot at : ℕ) → slot_among nfa p slot ≡ Some at
      → slot < slot_count nfa.groups
  written-below valid p slot at e = grind (arith, slot_among-past)

  -- two offsets in order make a match
  match-made : (slots : List (Option ℕ)) (q start end : ℕ) → offset_at slots (2 * q) ≡ Some start
      → offset_at slots (2 * q + 1) ≡ Some end → start ≤ end
      → match_of (Some q) slots ≡ Some (record { pattern = q; start = start; end = end })
  match-made slots q start end from to ordered = grind (arith, nat_tests)

  -- the match of a path that writes its ends is the path's
  pub path-match : IsAutomaton nfa → (x : Search) (end : Pair) (p : List Pair)
      → PathTo (edges nfa x) (starts nfa x) end p
      → (writes : WritesItsEnds nfa end p)
      → match_of (path_pattern nfa p) (slot_row nfa (slot_count nfa.groups) (Some p))
      ≡ Some (record { pattern = writes.pattern; start = writes.start.1; end = end.1 })
  path-match valid x end p path writes =
      let low = written-below valid p (2 * writes.pattern) writes.start.1 writes.start_slot in
      let high = written-below valid p (2 * writes.pattern + 1) end.1 writes.end_slot in
      rw writes.pattern_is
      (match-made (slot_row nfa (slot_count nfa.groups) (Some p)) writes.pattern writes.start.1 end.1
      (offset_at-slot_row nfa p (slot_count nfa.groups) (2 * writes.pattern) low ∙ writes.start_slot)
      (offset_at-slot_row nfa p (slot_count nfa.groups) (2 * writes.pattern + 1) high ∙ writes.end_slot)
      (path-order nfa x writes.start end p writes.head path.linked path.ends).0)

-- there is no match exactly if there is no accepting path
pub none-is_no_path : (kind : MatchKind) (earliest : Bool) → NoneIsNoPath kind earliest
none-is_no_path kind earliest nfa x found valid anywhere write answer =
    of answer.path (scan-of nfa kind earliest x anywhere answer.restarts answer.path answer.answers) answer.found_is
  where
    of : (path : Option (List Pair)) → IsScanAnswer nfa x kind earliest path
        → found ≡ match_of (option_and_then (path_pattern nfa) path) (slot_row nfa (slot_count nfa.groups) path)
        → (found ≡ None) ↔ NoPath (edges nfa x) (starts nfa x) (IsMatch nfa)
    of None scan is = (λ e. scan_answer-none nfa x kind earliest scan, λ h. is)
    of (Some p) scan is =
        let to = scan_answer-leads nfa x kind earliest p scan in
        let some = is ∙ path-match nfa valid x to.end p to.path (write to.end p to.path to.matches) in
        (λ e. absurd (never_none _ (sym some ∙ e)), λ h. absurd (h to.end p to.path to.matches))

-- the match starts not after any accepting path
pub none-starts_before : NoneStartsBefore LeftmostFirst false
none-starts_before nfa x None valid anywhere write answer = tt
none-starts_before nfa x (Some m) valid anywhere write answer =
    of answer.path (scan-of nfa LeftmostFirst false x anywhere answer.restarts answer.path answer.answers)
    answer.found_is
  where
    of : (path : Option (List Pair)) → IsScanAnswer nfa x LeftmostFirst false path
        → Some m ≡ match_of (option_and_then (path_pattern nfa) path) (slot_row nfa (slot_count nfa.groups) path)
        → StartsBeforePaths nfa x m
    of None scan is start end q head path matches = absurd (never_none m is)
    of (Some p) scan is start end q head path matches =
        let writes = write scan.end p scan.path scan.wanted in
        let first = heads-order (edges nfa x) writes.start start p q writes.head head (scan.first end q path matches) in
        grind (arith, path-match nfa valid x scan.end p scan.path writes, first)
