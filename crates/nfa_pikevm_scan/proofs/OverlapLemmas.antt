-- What a scan for a set keeps at a position, for all matches or the first one, with the least end or with any.
use Rattle.nfa_paths.proofs.MetLemmas.{First-none, FirstAt-found, FirstAt-front, Best, Best-found, Between, Between-before, Between-less, Between-same, Exact, Exact-end, Exact-match, Exact-next, Exact-start, before_is, before_match-same, before_target, first_match-same}
use Rattle.nfa_paths.proofs.FrontierMatchLemmas.{before_match-all, before_match-plain, first_match-cut}
use Rattle.nfa_paths.proofs.FullLemmas.{exact-result, full-exact}
use Rattle.nfa_paths.proofs.GainLemmas.{GainsBefore, GainsBefore-end, GainsBefore-full, GainsBefore-start, GainsBefore-step, gains-found, gains-none, wanted-shape}
use Rattle.nfa_paths.proofs.KindsLemmas.{Answer-ahead}
use Rattle.nfa_paths.proofs.ScanAnswerLemmas.{edges-onward, seeds-later, starts-from}
use Rattle.nfa_paths.proofs.ScanLemmas.{NoneBefore-end, NoneBefore-start, NoneBefore-step}
use Rattle.nfa_paths.proofs.SearchingLemmas.{Searching-done, Searching-load}
use Rattle.nfa_paths.proofs.SetLemmas.{first-gains, full-gains, length-with}
use Rattle.nfa_paths.proofs.StartLemmas.{pairs_from-end}
use Rattle.nfa_pikevm_scan.proofs.AllLemmas.{ScansAll, ScansAll-next, all-front, all-left, start_joined}
use Rattle.nfa_pikevm_scan.proofs.EndLemmas.{ScansAll-begin, ScansAll-joined, ScansAll-over, SearchingAt-begin}
use Rattle.nfa_pikevm_scan.proofs.FrontierLemmas.{Formed-resting}
use Rattle.nfa_pikevm_scan.proofs.PatternSinkLemmas.{AddsAll-none, AddsFirst-none, AddsFirst-some, wants-match, wants-tells}
use Rattle.nfa_pikevm_scan.proofs.RowLemmas.{over-joined}
use Rattle.nfa_pikevm_scan.proofs.ScanLemmas.{first-hit, first-miss}
use Rattle.nfa_pikevm_scan.proofs.TaskLemmas.{starts_from-end, tasks-joined}
use Rattle.nfa_pikevm_scan.proofs.Common.{AddsPatterns, AllMatches, AreStarts, Automaton, Bool, EndsBefore, Explore, ExploresAfter, ExploresTo, Hit, In, IsFrontier, IsInsertable, IsOverlapResult, LeftmostFirst, List, Load, Marks, MatchKind, Moment, NextsOverlappingGive, NoMatch, NoPath, None, NoneBefore, Pair, Passes, Search, SearchingAt, SearchingFrom, Slots, Some, Starts, Task, [], ap, arith, before_match, between, cond, edges, false, first_match, inl, inr, is_resting, length, map, moves, not, pairs_from, pattern_at, refl, seeds, size_of_set, space, starts, starts_from, tasks, true, unmarked, wants, with_start, ℕ, ◌&&◌, ◌+◌, ◌-◌, ◌<◌, ◌↔◌, ◌∙◌, ◌∷◌, ◌≡◌, ◌≤◌, ◌⊎◌}

-- the states at a position, and what is left after them, are at this position or after it
tasks-ahead : (at : ℕ) (items : List (ℕ × Slots)) (waiting : List Task)
    → ((k : Pair) → In (Explore k) waiting → at ≤ k.1)
    → (k : Pair) → In (Explore k) (tasks at items (Load [] ∷ waiting)) → at ≤ k.1
tasks-ahead at [] waiting later k i = grind arith
tasks-ahead at (a ∷ items) waiting later k i = grind (arith, tasks-ahead at items waiting later k)

-- without a match that counts the set stays as it is
pub set-stays : {nfa : Automaton} {x : Search} {at n : ℕ} (past : Bool) {a b : Moment} {set : List Bool} {hit : Bool}
    {new : List Bool} → NextsOverlappingGive nfa x at past n a set hit b new → hit ≡ false → new ≡ set
set-stays {nfa} {x} {n = n} true c off = AddsAll-none nfa (wants nfa x n) (rw off at c.gathers)
set-stays {nfa} {x} {n = n} false {set = set} {new = new} c off =
    (AddsFirst-none nfa (first_match (wants nfa x n) c.front) set new (rw off at c.gathers)).1

-- Of a scan, `old` is the set as it began.
module _ (nfa : Automaton) (x : Search) (old : List Bool) where
  -- the pairs that the set has room for
  abbrev pub wanted : Pair → Bool
  wanted = wants nfa x (length old)

  abbrev pub tells : (v : Pair) → (wanted v ≡ true) ↔ IsInsertable nfa x (length old) v
  tells = wants-tells nfa x (length old)

  -- all patterns

  pub record AllAt (from : Starts) (at : ℕ) (now : Moment) (new : List Bool) : Type 0 where
    pub scans : ScansAll nfa x wanted at 0 from.state at from.limit now
    pub gains : GainsBefore nfa x old wanted tells at new

  pub All-start : (from : Starts) → AreStarts nfa x from → (met : Marks) (items : List (ℕ × Slots)) → items ≡ []
      → AllAt from x.start (between met items []) old
  All-start from are met items none = rw none (record {
    scans = ScansAll-begin nfa x from are [] met wanted;
    gains = GainsBefore-start nfa x old wanted tells;
  })

  pub All-next : {from : Starts} {at : ℕ} {a b : Moment} {mid : List Bool} {hit : Bool} {new : List Bool}
      → AllAt from at a mid → NextsOverlappingGive nfa x at true (length old) (start_joined from 0 at a) mid hit b new
      → AllAt from (at + 1) b new
  All-next {from} {at} s c =
      let joined = ScansAll-joined from s.scans in
      record {
        scans = ScansAll-next wanted (wants-match nfa x (length old)) 0 from.state from.limit c.gives joined (inl refl);
        gains = GainsBefore-step nfa x old wanted tells
            (all-front wanted (wants-match nfa x (length old)) 0 from.state from.limit c.gives joined (inl refl))
            s.gains c.gathers.capacity c.gathers.gained;
      }

  -- the least end

  -- no match that counts was met yet
  pub record EarliestAt (from : Starts) (at : ℕ) (now : Moment) (new : List Bool) : Type 0 where
    pub scans : ScansAll nfa x wanted at 0 from.state at from.limit now
    pub still : new ≡ old
    pub none : NoneBefore (space nfa x) wanted at

  pub Earliest-start : (from : Starts) → AreStarts nfa x from → (met : Marks) (items : List (ℕ × Slots))
      → items ≡ [] → EarliestAt from x.start (between met items []) old
  Earliest-start from are met items none = rw none (record {
    scans = ScansAll-begin nfa x from are [] met wanted;
    still = refl;
    none = NoneBefore-start (space nfa x) (is_resting nfa) wanted [] (wanted-shape nfa x old wanted tells) x.start
        (starts-from nfa x);
  })

  -- what was not met at a position
  unmet : (past : Bool) {at : ℕ} {front : List (Pair × Slots)} {turns : ℕ} (new : List Bool)
      → NoneBefore (space nfa x) wanted at → IsFrontier (space nfa x) (is_resting nfa) wanted [] turns front at
      → AddsPatterns nfa past wanted front old false new → (new ≡ old) × NoneBefore (space nfa x) wanted (at + 1)
  unmet past {at} {front} new none f g = let n = of past g in
      (n.0, NoneBefore-step (space nfa x) (is_resting nfa) wanted [] (wanted-shape nfa x old wanted tells) none f n.1)
    where
      of : (past : Bool) → AddsPatterns nfa past wanted front old false new → (new ≡ old) × NoMatch wanted front
      of true g = (
        AddsAll-none nfa wanted g,
        λ b i t.
            let h = (tells b.0).0 t in
            g.none refl h.pattern h.below (record { item = b; among = i; matches = t; pattern_is = h.pattern_is }),
      )
      of false g =
          let n = AddsFirst-none nfa (first_match wanted front) old new g in
          (n.1, rw (before_match-all wanted front n.0) at (before_match-plain wanted front))

  pub Earliest-next : (past : Bool) {from : Starts} {at : ℕ} {a b : Moment} {mid : List Bool} {hit : Bool}
      {new : List Bool} → EarliestAt from at a mid
      → NextsOverlappingGive nfa x at past (length old) (start_joined from 0 at a) mid hit b new → hit ≡ false
      → EarliestAt from (at + 1) b new
  Earliest-next past {from} {at} {new = new} s c off =
      let joined = ScansAll-joined from s.scans in
      let f = all-front wanted (wants-match nfa x (length old)) 0 from.state from.limit c.gives joined (inr off) in
      let u = unmet past new s.none f (rw (s.still, off) at c.gathers) in
      record {
        scans = ScansAll-next wanted (wants-match nfa x (length old)) 0 from.state from.limit c.gives joined (inr off);
        still = u.0;
        none = u.1;
      }

  pub Earliest-found : (past : Bool) {from : Starts} {at : ℕ} {a b : Moment} {mid : List Bool} {hit : Bool}
      {new : List Bool} → (past ≡ false → size_of_set old ≡ 0) → EarliestAt from at a mid
      → NextsOverlappingGive nfa x at past (length old) (start_joined from 0 at a) mid hit b new → hit ≡ true
      → IsOverlapResult nfa x (cond past AllMatches LeftmostFirst) true old new
  Earliest-found true {from} {at} empty s c on =
      let f = all-front wanted (wants-match nfa x (length old)) 0 from.state from.limit c.gives
      (ScansAll-joined from s.scans) (inl refl) in
      let g = rw (s.still, on) at c.gathers in
      let held = g.some refl in
      gains-found nfa x old wanted tells f s.none held.0 held.1 held.2 g.capacity g.gained
  Earliest-found false {from} {at} {b = b} {new = new} empty s c on =
      let put = AddsFirst-some nfa (first_match wanted c.front) old new (rw (s.still, on) at c.gathers) in
      let all = all-left wanted (wants-match nfa x (length old)) 0 from.state from.limit c.gives
      (ScansAll-joined from s.scans) in
      let first = FirstAt-front nfa x old wanted tells all
      (Formed-resting nfa x at b.met.bits c.front c.gives.formed) put.0 put.1 in
      FirstAt-found nfa x old wanted tells s.none first put.2.1 (empty refl) put.2.2

  pub Earliest-end : (past : Bool) {from : Starts} {at : ℕ} {now : Moment} {new : List Bool}
      → (past ≡ false → size_of_set old ≡ 0) → EarliestAt from at now new → EndsBefore (space nfa x) wanted at
      → IsOverlapResult nfa x (cond past AllMatches LeftmostFirst) true old new
  Earliest-end past empty a ends = rw a.still (of past empty (NoneBefore-end (space nfa x) (is_resting nfa) wanted []
      (wanted-shape nfa x old wanted tells) a.none ends))
    where
      of : (past : Bool) → (past ≡ false → size_of_set old ≡ 0) → NoPath (edges nfa x) (starts nfa x) (Passes wanted)
          → IsOverlapResult nfa x (cond past AllMatches LeftmostFirst) true old old
      of true empty none = gains-none nfa x old wanted tells none
      of false empty none = First-none nfa x old wanted tells none true (empty refl)

  -- the first match: the states after a match are dropped

  -- what the scan keeps at a position: the match that was found, what it put into the set, and what is left to do
  pub record FirstWay (from : Starts) (at : ℕ) (now : Moment) (new : List Bool) : Type 0 where
    pub so_far : Hit
    -- the search for all that is wanted, and for what is wanted before a limit that was not passed yet
    pub searching : (target : Pair → Bool) → Between wanted at target
        → SearchingFrom nfa x target at 0 from.state at from.limit so_far now
    pub capacity : length new ≡ length old
    pub exact : Exact nfa x old wanted tells at so_far new

  pub FirstWay-start : (from : Starts) → AreStarts nfa x from → size_of_set old ≡ 0 → (met : Marks)
      (items : List (ℕ × Slots)) → items ≡ [] → FirstWay from x.start (between met items []) old
  FirstWay-start from are empty met items none =
      rw none (record {
        so_far = None;
        searching = λ target b. SearchingAt-begin nfa x from are [] met target;
        capacity = refl;
        exact = Exact-start nfa x old wanted tells empty;
      })

  -- what is left is at the position or after it, so the search for an earlier match is complete
  best-ahead : {at : ℕ} {met : Marks} (items : List (ℕ × Slots)) (waiting : List Task) (so_far : Hit)
      → ((k : Pair) → In (Explore k) waiting → at ≤ k.1)
      → ((target : Pair → Bool) → Between wanted at target → SearchingAt nfa x at target (starts nfa x) [] so_far met []
      (tasks at items (Load [] ∷ waiting)) [])
      → Best nfa x old wanted tells at so_far
  unfolding ExploresAfter
  best-ahead {at} {met} items waiting so_far later searching =
      let before = before_target wanted at in
      let s = searching before (Between-before wanted at at (omega arith)) in
      Best-found nfa x old wanted tells at met.turns [] so_far
      (s.leads so_far 0 met.turns (omega arith)
      (Answer-ahead (space nfa x) before at (edges-onward nfa x) (λ v t. (before_is wanted at v t).before) 0 so_far
      s.marks (tasks at items (Load [] ∷ waiting)) [] (tasks-ahead at items waiting later)))

  module _ {from : Starts} {at : ℕ} {a : Moment} {new : List Bool} (w : FirstWay from at a new) where
    -- the search, with the start that joined
    joined-search : (target : Pair → Bool) → Between wanted at target
        → SearchingFrom nfa x target at 0 from.state (at + 1) from.limit w.so_far (start_joined from 0 at a)
    joined-search target b = rw (tasks-joined from 0 at a.kept) at (w.searching target b)

    module _ (empty : size_of_set old ≡ 0) where
      -- no state and no start is left
      pub FirstWay-over : with_start from 0 at a.kept ≡ [] → IsOverlapResult nfa x LeftmostFirst false old new
      FirstWay-over none =
          exact-result nfa x old new w.capacity wanted tells empty
          (Exact-end nfa x old wanted tells w.exact w.capacity (λ limit behind.
          Best-found nfa x old wanted tells limit a.met.turns [] w.so_far
          (done (before_target wanted limit) (Between-before wanted limit at behind))))
        where
          done : (target : Pair → Bool) → Between wanted at target
              → ExploresTo (space nfa x) target a.met.turns None [] (map Explore (starts nfa x)) [] w.so_far
          done target b =
              let past : from.limit ≤ at + 1 = (let h = over-joined from 0 at a.kept none in omega (arith, h)) in
              let left : SearchingAt nfa x at target (starts nfa x) [] w.so_far (unmarked a.met) []
              (Load [] ∷ []) [] =
              rw (none, starts_from-end 0 from.state past) at (joined-search target b) in
              Searching-done (space nfa x) target (Searching-load (space nfa x) target left)

      -- a full set gains no more
      pub FirstWay-full : size_of_set new ≡ length new → IsOverlapResult nfa x LeftmostFirst false old new
      FirstWay-full full =
          exact-result nfa x old new w.capacity wanted tells empty
          (full-exact nfa x old new w.capacity w.exact.sound full)

  module _ {from : Starts} {at : ℕ} {a b : Moment} {mid : List Bool} {hit : Bool} {new : List Bool}
      (w : FirstWay from at a mid)
      (c : NextsOverlappingGive nfa x at false (length old) (start_joined from 0 at a) mid hit b new) where
    rests : (v : Pair × Slots) → In v c.front → (is_resting nfa v.0 ≡ true) × (v.0.1 ≡ at)
    rests = Formed-resting nfa x at b.met.bits c.front c.gives.formed

    -- a search for what is wanted before the next position, or for more, wants the same here
    agree : (target : Pair → Bool) → Between wanted (at + 1) target → (a : Pair × Slots) → In a c.front
        → target a.0 ≡ wanted a.0
    agree target q a i = Between-same q a.0 (rests a i).1

    cut-for : (target : Pair → Bool) → Between wanted (at + 1) target
        → moves (edges nfa x) (before_match target c.front) ≡ moves (edges nfa x) c.front
    cut-for target q =
        ap (moves (edges nfa x)) (before_match-same target wanted c.front (agree target q)) ∙ c.cut refl

    next-searching : hit ≡ false → first_match wanted c.front ≡ None → (target : Pair → Bool)
        → Between wanted (at + 1) target
        → SearchingFrom nfa x target (at + 1) 0 from.state (at + 1) from.limit w.so_far b
    next-searching off lacks target q =
        first-miss target (λ v t. wants-match nfa x (length old) v (q.sub v t)) 0 from.state from.limit c.gives
        (cut-for target q) (joined-search w target (Between-less q))
        (first_match-same target wanted c.front (agree target q) ∙ lacks) (inr off)

    cut-searching : (a : Pair × Slots) → first_match wanted c.front ≡ Some a → (target : Pair → Bool)
        → Between wanted (at + 1) target
        → SearchingAt nfa x (at + 1) target (starts nfa x) [] (Some a) (unmarked b.met) []
        (tasks (at + 1) b.kept (Load [] ∷ [])) []
    cut-searching a has target q =
        first-hit target (λ v t. wants-match nfa x (length old) v (q.sub v t)) 0 from.state from.limit c.gives
        (cut-for target q) (joined-search w target (Between-less q)) a
        (first_match-same target wanted c.front (agree target q) ∙ has)

    -- the set has room for the pattern of a match that is wanted
    has_room : (a : Pair × Slots) (k : ℕ) → wanted a.0 ≡ true → pattern_at nfa a.0 ≡ Some k → k < length mid
    has_room a k wants_it is = grind (arith, wants-tells, w.capacity)

    -- no match: the next position
    pub FirstWay-next : hit ≡ false → FirstWay from (at + 1) b new
    FirstWay-next off =
        let n = AddsFirst-none nfa (first_match wanted c.front) mid new (rw off at c.gathers) in
        record {
          so_far = w.so_far;
          searching = next-searching off n.0;
          capacity = rw n.1 w.capacity;
          exact = rw n.1 (Exact-next nfa x old wanted tells
              (best-ahead b.kept (starts_from 0 from.state (at + 1) from.limit) w.so_far
              (λ k i. let l = seeds-later [] from.state at (from.limit - (at + 1)) k i in omega arith)
              (next-searching off n.0)) w.exact);
        }

    -- a match: the states after it are dropped, and no later start joins
    pub FirstWay-cut : size_of_set old ≡ 0 → hit ≡ true → FirstWay (record from { limit = 0 }) (at + 1) b new
    unfolding seeds
    FirstWay-cut empty on =
        let put = AddsFirst-some nfa (first_match wanted c.front) mid new (rw on at c.gathers) in
        let matches = (first_match-cut wanted c.front put.0 put.1).matches in
        let none : pairs_from from.state (at + 1) (0 - (at + 1)) ≡ [] = pairs_from-end from.state (omega arith) in
        record {
          so_far = Some put.0;
          searching = rw none (cut-searching put.0 put.1);
          capacity = rw put.2.2 (length-with mid put.2.0) ∙ w.capacity;
          exact = Exact-match nfa x old wanted tells put.0
              (best-ahead b.kept [] (Some put.0) (λ k i. absurd i) (cut-searching put.0 put.1)) w.exact put.2.1
              (has_room put.0 put.2.0 matches put.2.1) put.2.2;
        }

-- a set with no room gains nothing
pub full-result : (nfa : Automaton) (x : Search) (kind : MatchKind) (earliest : Bool) (set : List Bool)
    → size_of_set set ≡ length set
    → (kind ≡ LeftmostFirst → size_of_set set ≡ 0) → IsOverlapResult nfa x kind earliest set set
full-result nfa x AllMatches earliest set full empty = full-gains nfa x earliest set full
full-result nfa x LeftmostFirst earliest set full empty = first-gains nfa x earliest set full (empty refl)

module _ (nfa : Automaton) (x : Search) (old : List Bool) where
  -- what is known of the matches before the position
  abbrev pub Known : Bool → Bool → Starts → ℕ → Moment → List Bool → Type 0
  Known past true from at now new = EarliestAt nfa x old from at now new
  Known true false from at now new = AllAt nfa x old from at now new
  Known false false from at now new = FirstWay nfa x old from at now new

  pub record SoFar (past earliest : Bool) (from : Starts) (at : ℕ) (now : Moment) (new : List Bool) : Type 0 where
    pub known : Known past earliest from at now new

module _ {nfa : Automaton} {x : Search} {old : List Bool} where
  pub SoFar-size : (past earliest : Bool) {from : Starts} {at : ℕ} {now : Moment} {new : List Bool}
      → SoFar nfa x old past earliest from at now new → length new ≡ length old
  SoFar-size past true s = ap (λ (l : List Bool). length l) s.known.still
  SoFar-size true false s = s.known.gains.capacity
  SoFar-size false false s = s.known.capacity

  pub SoFar-start : (past earliest : Bool) → (past ≡ false → size_of_set old ≡ 0) → (from : Starts)
      → AreStarts nfa x from → (met : Marks) (items : List (ℕ × Slots)) → items ≡ []
      → SoFar nfa x old past earliest from x.start (between met items []) old
  SoFar-start past true empty from are met items none =
      record { known = Earliest-start nfa x old from are met items none }
  SoFar-start true false empty from are met items none =
      record { known = All-start nfa x old from are met items none }
  SoFar-start false false empty from are met items none =
      record { known = FirstWay-start nfa x old from are (empty refl) met items none }

  -- no state and no start is left
  pub SoFar-over : (past earliest : Bool) → (past ≡ false → size_of_set old ≡ 0)
      → {from : Starts} {at : ℕ} {now : Moment} {new : List Bool} → SoFar nfa x old past earliest from at now new
      → with_start from 0 at now.kept ≡ [] → IsOverlapResult nfa x (cond past AllMatches LeftmostFirst) earliest old new
  SoFar-over past true empty {from} s none = Earliest-end nfa x old past empty s.known
      (ScansAll-over from s.known.scans none (wants-match nfa x (length old)))
  SoFar-over true false empty {from} s none =
      GainsBefore-end nfa x old (wanted nfa x old) (tells nfa x old) s.known.gains
      (ScansAll-over from s.known.scans none (wants-match nfa x (length old)))
  SoFar-over false false empty s none = FirstWay-over nfa x old s.known (empty refl) none

  module _ {from : Starts} {at : ℕ} {a b : Moment} {mid new : List Bool} where
    -- a match that ends the scan
    pub SoFar-found : (past earliest : Bool) {hit : Bool} → (past ≡ false → size_of_set old ≡ 0)
        → SoFar nfa x old past earliest from at a mid
        → NextsOverlappingGive nfa x at past (length old) (start_joined from 0 at a) mid hit b new → hit ≡ true
        → (earliest ≡ true) ⊎ (size_of_set new ≡ length new)
        → IsOverlapResult nfa x (cond past AllMatches LeftmostFirst) earliest old new
    SoFar-found past true empty s c on over = Earliest-found nfa x old past empty s.known c on
    SoFar-found past false empty s c on (inl never) = absurd (cc never)
    SoFar-found true false empty s c on (inr full) =
        GainsBefore-full nfa x old (wanted nfa x old) (tells nfa x old) (All-next nfa x old s.known c).gains full
    SoFar-found false false empty s c on (inr full) =
        FirstWay-full nfa x old (FirstWay-cut nfa x old s.known c (empty refl) on) (empty refl) full

    -- the next position
    pub SoFar-next : (past earliest hit : Bool) → (past ≡ false → size_of_set old ≡ 0)
        → (hit ≡ true → earliest ≡ false) → SoFar nfa x old past earliest from at a mid
        → NextsOverlappingGive nfa x at past (length old) (start_joined from 0 at a) mid hit b new
        → SoFar nfa x old past earliest (record from { limit = cond (hit && not past) 0 from.limit }) (at + 1) b new
    SoFar-next past true true empty on s c = let never : true ≡ false = on refl in absurd (cc never)
    SoFar-next past true false empty on s c = record { known = Earliest-next nfa x old past s.known c refl }
    SoFar-next true false true empty on s c = record { known = All-next nfa x old s.known c }
    SoFar-next true false false empty on s c = record { known = All-next nfa x old s.known c }
    SoFar-next false false true empty on s c = record { known = FirstWay-cut nfa x old s.known c (empty refl) refl }
    SoFar-next false false false empty on s c = record { known = FirstWay-next nfa x old s.known c refl }
