-- How a scan begins, joins its starts, goes from one position to the next, and ends.
use Rattle.nfa_paths.proofs.ScanAnswerLemmas.{EndsBefore-span, IsFoundBy-none, IsFoundBy-some, Scanned-matches, scan_all-found, scan_first-found, starts-from}
use Rattle.nfa_paths.proofs.ScanLemmas.{EndsBefore-over, IsFoundBy-more, LastBefore-start, NoneBefore-start}
use Rattle.nfa_paths.proofs.SearchingLemmas.{Scanning-load, Scanning-over, Searching-done, Searching-load}
use Rattle.nfa_scan_core.proofs.TargetLemmas.{SeenAt-none}
use Rattle.nfa_pikevm_scan.proofs.AllLemmas.{HasLast, ScansAll, earliest-found, start_joined}
use Rattle.nfa_pikevm_scan.proofs.RowLemmas.{AreAt-none, HaveRows-kept, KeepsThreads-none, KeepsThreads-then, below-joined, few-joined, over-joined}
use Rattle.nfa_pikevm_scan.proofs.ScanLemmas.{AreAt-cross, EndsAt, match-cross}
use Rattle.nfa_pikevm_scan.proofs.TaskLemmas.{AnswersFor, AnswersFor-pass, AnswersFor-same, AnswersFor-skip, AnswersFor-tasks, AnswersFor-then, Searching-begin, Searching-for, Searching-seen, starts_from-end, tasks-alone, tasks-joined, tasks-joins}
use Rattle.nfa_pikevm_scan.proofs.Common.{AddsStart, AllMatches, AreAt, AreMatchPairs, AreStarts, Automaton, Bool, EndsBefore, Frontier, HalfMatch, Hit, IsFirst, IsFirstBytes, IsFoundBy, IsPassed, IsScanAnswer, IsSoFar, JoinsStart, KeepsThreads, LeftmostFirst, List, Load, Marks, MatchKind, MayCross, MayScan, Moment, NextsGive, None, NoneBefore, Option, Pair, PatternID, ScanGives, Scanning, Search, SearchesFirst, SearchingAt, SearchingFrom, SeenAt, Slots, Some, Starts, StatesGive, Threads, [], arith, between, blank, capture, cond, edges, false, half_found_of, held, inl, inr, is_match, is_resting, is_some, length, refl, rules, seeds, space, starts, starts_from, subst, sym, tasks, true, unmarked, with_start, ℕ, ◌+◌, ◌-◌, ◌<◌, ◌∷◌, ◌≡◌, ◌≤◌}

module _ (nfa : Automaton) (x : Search) where
  -- the beginning

  module _ (begins : Starts) (are : AreStarts nfa x begins) (slots : Slots) (met : Marks) where
    -- the search for a set of match pairs begins
    pub SearchingAt-begin : (target : Pair → Bool)
        → SearchingFrom nfa x target x.start (length slots) begins.state x.start begins.limit None
        (between met [] slots)
    SearchingAt-begin target =
        subst (λ (ps : List Pair). SearchingAt nfa x x.start target (starts nfa x) (blank (length slots)) None
        (unmarked met) [] (Load (blank (length slots)) ∷ seeds (blank (length slots)) ps) (blank (length slots)))
        are.all
        (Searching-begin (space nfa x) target (SeenAt x.start (unmarked met).bits) met.turns None
        (starts nfa x) (blank (length slots)) (blank (length slots)) (SeenAt-none x.start (length met.bits)))

    pub SearchesFirst-begin : slots ≡ blank (length slots)
        → SearchesFirst nfa x x.start (length slots) begins.state begins.limit None (between met [] slots)
    SearchesFirst-begin unset = grind (arith, SearchingAt-begin)

    pub ScansAll-begin : (wanted : Pair → Bool)
        → ScansAll nfa x wanted x.start (length slots) begins.state x.start begins.limit (between met [] slots)
    ScansAll-begin wanted = record { scanning = record { searching = λ target m. SearchingAt-begin target } }

    pub HasLast-begin : slots ≡ blank (length slots) → HasLast nfa x x.start (length slots) None slots met.turns
    HasLast-begin unset = record {
      so_far = None;
      is_so_far = (refl, unset);
      last = let few : 0 ≤ met.turns = omega arith in
          IsFoundBy-more few (LastBefore-start (space nfa x) (is_resting nfa)
          (is_match nfa) (blank (length slots)) (Scanned-matches nfa x (is_match nfa) (λ v t. t)) x.start
          (starts-from nfa x));
    }

  pub NoneBefore-begin : NoneBefore (space nfa x) (is_match nfa) x.start
  NoneBefore-begin =
      NoneBefore-start (space nfa x) (is_resting nfa) (is_match nfa) []
      (Scanned-matches nfa x (is_match nfa) (λ v t. t)) x.start (starts-from nfa x)

  -- the starts join

  module _ (table : List Bool) (first : IsFirstBytes nfa table) (begins : Starts) (are : AreStarts nfa x begins)
      (limit width : ℕ) where
    -- a start that may be passed over
    passed : (k : ℕ) → x.start ≤ k → IsPassed table x begins k → (marks : List Pair)
        → IsFirst (edges nfa x) (is_match nfa) marks (begins.state, k) None
    passed k low p marks = rw (are.skips (omega (arith, low, p.0))) (first.none x k p.1 marks)

    -- the starts up to a position were passed over, or none was
    skip-work : (at to : ℕ) (items kept : List (ℕ × Slots)) → x.start ≤ at
        → AddsStart table x begins limit width at items to kept
        → AnswersFor (space nfa x) (is_match nfa)
        (tasks at items (Load (blank width) ∷ starts_from width begins.state at limit))
        (tasks to items (Load (blank width) ∷ starts_from width begins.state to limit))
    skip-work at to [] kept low j =
        let le : at ≤ to = j.ahead in
        AnswersFor-skip (space nfa x) (is_match nfa) width begins.state limit (to - at) at
        to (omega arith)
        (λ k h l. passed k (omega arith) (j.passed k h l))
    skip-work at to (i ∷ items) kept low j =
        let some : 0 < length (i ∷ items) = omega arith in
        let same : to ≡ at = j.stays some in
        subst (λ (n : ℕ). AnswersFor (space nfa x) (is_match nfa)
        (tasks at (i ∷ items) (Load (blank width) ∷ starts_from width begins.state at limit))
        (tasks n (i ∷ items) (Load (blank width) ∷ starts_from width begins.state n limit))) (sym same)
        (AnswersFor-tasks (space nfa x) (is_match nfa) at (i ∷ items)
        (AnswersFor-same (space nfa x) (is_match nfa) (blank width) (starts_from width begins.state at limit)))

    -- the start joins at the position, or is passed over, or none is left
    add_start-work : (at to : ℕ) (items kept : List (ℕ × Slots)) → x.start ≤ at
        → AddsStart table x begins limit width at items to kept
        → AnswersFor (space nfa x) (is_match nfa)
        (tasks to items (Load (blank width) ∷ starts_from width begins.state to limit))
        (tasks to kept (Load (blank width) ∷ starts_from width begins.state (to + 1) limit))
    add_start-work at to items kept low j =
        let le : at ≤ to = j.ahead in
        let same = AnswersFor-tasks (space nfa x) (is_match nfa) to items
        (AnswersFor-same (space nfa x) (is_match nfa) (blank width) (starts_from width begins.state to limit)) in
        elim j.last [
          | inl h ↦ rw (h.1, ← tasks-joins width begins.state to limit items h.0) same
          | inr h ↦
              elim h.1 [
                | inl over ↦ rw (h.0, ← tasks-alone width begins.state to limit items over) same
                | inr pass ↦
                    rw h.0 (AnswersFor-tasks (space nfa x) (is_match nfa) to items
                    (AnswersFor-pass (space nfa x) (is_match nfa) width begins.state limit to
                    (passed to (omega arith) pass)))
              ]
        ]

    -- the first path
    pub SearchesFirst-joins : (at to : ℕ) {kept : List (ℕ × Slots)} {found : Option HalfMatch} {now : Moment}
        → x.start ≤ at → AddsStart table x begins limit width at now.kept to kept
        → (s : SearchesFirst nfa x at width begins.state limit found now)
        → SearchingFrom nfa x (is_match nfa) to width begins.state (to + 1) limit s.so_far (record now { kept = kept })
    SearchesFirst-joins at to {kept} {now = now} low j s =
        Searching-seen (space nfa x) (is_match nfa)
        (Searching-for (space nfa x) (is_match nfa) s.searching
        (AnswersFor-then (space nfa x) (is_match nfa) (skip-work at to now.kept kept low j)
        (add_start-work at to now.kept kept low j)) (blank width))
        (SeenAt to (unmarked now.met).bits)
        (λ v. (
          λ seen. absurd (SeenAt-none at (length now.met.bits) v seen),
          λ seen. absurd (SeenAt-none to (length now.met.bits) v seen),
        ))

  -- the end

  -- what was found is what the scan's answer finds
  pub Scans-so_far : (kind : MatchKind) (earliest : Bool) (width turns : ℕ) (found : Option HalfMatch) (slots : Slots)
      (g : Hit) → IsSoFar nfa x found slots g
      → IsFoundBy (capture nfa) (blank width) (IsScanAnswer nfa x kind earliest) turns g → width ≡ length slots
      → ScanGives nfa kind earliest x found slots turns
  Scans-so_far kind earliest width turns None slots g is f size =
      (IsFoundBy-none nfa x kind earliest turns (blank width) (rw is.0 at f), is.1)
  Scans-so_far kind earliest width turns (Some half) slots g is f size =
      let found_by : IsFoundBy (capture nfa) (blank (length slots)) (IsScanAnswer nfa x kind earliest) turns
      (Some ((is.0, (half_found_of half).offset), slots)) =
      rw is.1 at (rw size at f) in
      let h = IsFoundBy-some nfa x kind earliest (length slots) turns (is.0, (half_found_of half).offset)
      slots found_by in
      record {
        path = h.path;
        state = is.0;
        answers = h.answers;
        matches = is.2;
        ends = h.ends;
        row = h.row_is;
        short = h.short;
      }

  -- every path ends within the span
  pub ends-at : (at : ℕ) → at ≡ x.end + 1 → EndsBefore (space nfa x) (is_match nfa) at
  ends-at at e = rw e (EndsBefore-span nfa x (is_match nfa))

module _ {nfa : Automaton} {x : Search} where
  -- nothing is left of the search for the first path
  pub first-over : {at width state limit : ℕ} {found : Option HalfMatch} {now : Moment}
      → SearchesFirst nfa x at width state limit found now → limit ≤ at → now.kept ≡ [] → width ≡ length now.slots
      → ScanGives nfa LeftmostFirst false x found now.slots now.met.turns
  first-over {at} {width} {state} {limit} {found} {now} s past none size =
      let alone : SearchingAt nfa x at (is_match nfa) (starts nfa x) (blank width) s.so_far (unmarked now.met) []
      (Load (blank width) ∷ []) (blank width) = rw (none, starts_from-end width state past) at s.searching in
      let answer = Searching-done (space nfa x) (is_match nfa) (Searching-load (space nfa x) (is_match nfa) alone) in
      Scans-so_far nfa x LeftmostFirst false width now.met.turns found now.slots s.so_far s.is_so_far
      (scan_first-found nfa x (blank width) now.met.turns s.so_far answer) size

  -- the start joins
  pub ScansAll-joined : (begins : Starts) {at width : ℕ} {wanted : Pair → Bool} {now : Moment}
      → ScansAll nfa x wanted at width begins.state at begins.limit now
      → ScansAll nfa x wanted at width begins.state (at + 1) begins.limit (start_joined begins width at now)
  ScansAll-joined begins s = grind (arith, tasks-joined)

  -- no state and no start is left: every path has ended
  pub ScansAll-over : (begins : Starts) {at width : ℕ} {wanted : Pair → Bool} {now : Moment}
      → ScansAll nfa x wanted at width begins.state at begins.limit now → with_start begins width at now.kept ≡ []
      → AreMatchPairs nfa wanted → EndsBefore (space nfa x) wanted at
  ScansAll-over begins {at} {width} {wanted} {now} s none sub =
      let past : begins.limit ≤ at = over-joined begins width at now.kept none in
      let later : begins.limit ≤ at + 1 = omega arith in
      let alone : Scanning (space nfa x) wanted (blank width) at (SeenAt at (unmarked now.met).bits) now.met.turns []
      (Load (blank width) ∷ []) (blank width) =
      rw (none, starts_from-end width begins.state later) at (ScansAll-joined begins s).scanning in
      EndsBefore-over (space nfa x) (is_resting nfa) wanted (blank width) (Scanned-matches nfa x wanted sub) at
      (Scanning-over (space nfa x) wanted (blank width) (Scanning-load (space nfa x) wanted (blank width) alone))

  -- what was found last
  pub last-over : {at width turns : ℕ} {found : Option HalfMatch} {slots : Slots}
      → HasLast nfa x at width found slots turns → EndsBefore (space nfa x) (is_match nfa) at → width ≡ length slots
      → ScanGives nfa AllMatches false x found slots turns
  last-over h ends size = search (rules, Scans-so_far, scan_all-found)

  -- the first position with a match
  pub earliest-over : {at width state limit : ℕ} {past : Bool} {a b : Moment} {hit : Option PatternID}
      → NextsGive nfa x at past a hit b → ScansAll nfa x (is_match nfa) at width state (at + 1) limit a
      → NoneBefore (space nfa x) (is_match nfa) at → (half : Option HalfMatch) → EndsAt at hit half
      → is_some half ≡ true → width ≡ length b.slots
      → ScanGives nfa (cond past AllMatches LeftmostFirst) true x half b.slots b.met.turns
  earliest-over {width = width} {past = past} {b = b} c s none half is some size =
      let k = match-cross c half is some in
      Scans-so_far nfa x (cond past AllMatches LeftmostFirst) true width b.met.turns half b.slots (Some (k.0, b.slots))
      k.2 (earliest-found c s none (k.0, b.slots) k.1) size

-- The threads at a position of a scan that began with the threads `base`.
pub record Stands (nfa : Automaton) (x : Search) (at : ℕ) (base now : Threads) : Type 0 where
  pub low : x.start ≤ at
  pub keeps : KeepsThreads base now
  pub next : now.reached.next.items ≡ []
  pub states : AreAt nfa x at base.reached.seen.turns now.reached.seen.turns now.curr.items

-- at the start of a scan
pub Stands-begin : {nfa : Automaton} {x : Search} {from : Starts} {slots : Slots} {t : Threads} {at : ℕ} → at ≡ x.start
    → MayScan nfa x from slots t → Stands nfa x at t t
Stands-begin start ready = grind (arith, KeepsThreads-none, AreAt-none)

-- the start joins their states, if it may
module _ {nfa : Automaton} {x : Search} {begins from : Starts} {slots : Slots} {at : ℕ} {base now mid : Threads}
    (ready : MayScan nfa x begins slots base) (s : Stands nfa x at base now) (j : JoinsStart from at now mid) where
  pub joined-items : mid.curr.items ≡ with_start from (length slots) at now.curr.items
  joined-items = rw (s.keeps.width, ready.room.width_is) at j.curr

  -- they may be followed
  pub Stands-may : from.state < length nfa.states → at ≤ x.end → MayCross nfa x at (length slots) mid
  Stands-may state within = grind (arith, joined-items, below-joined, HaveRows-kept, KeepsThreads-then)

  -- the next position
  pub Stands-next : {new : Threads} → KeepsThreads mid new → new.reached.next.items ≡ [] → {row written : Slots}
      {front : Frontier} {goes : Type 0} → StatesGive nfa x at (held mid row) goes [] front (held new written)
      → Stands nfa x (at + 1) base new
  Stands-next keeps next c = record {
    low = omega (arith, s.low);
    keeps = KeepsThreads-then s.keeps (KeepsThreads-then j.keeps keeps);
    next = next;
    states = AreAt-cross c ready.starts.leads base.reached.seen.turns (length now.curr.items) s.low
        (rw j.seen s.states.paid) (rw joined-items (few-joined from (length slots) at now.curr.items));
  }
