-- A scan for the first path, from one position to the next: at its first start, at later ones, and while one state is
-- followed.
use Rattle.nfa_pikevm_scan.proofs.Common.{AddsStart, All, All-push, AreStarts, Automaton, Bool, HalfMatch, HaveRows, Hit, IsFirstBytes, KeepsThreads, List, MayCross, MayScan, Moment, NextsGive, None, Option, PassesOver, PatternID, ScansFirst, Search, SearchesFirst, SearchingFrom, Slots, Starts, Threads, [], arith, between, blank, false, held, inl, inr, is_match, is_some, length, refl, total_degree, true, ℕ, ◌+◌, ◌<◌, ◌∷◌, ◌≡◌, ◌≤◌, ◌⊎◌}
use Rattle.nfa_pikevm_scan.proofs.EndLemmas.{SearchesFirst-begin, SearchesFirst-joins}
use Rattle.nfa_pikevm_scan.proofs.FrontierLemmas.{paid-later}
use Rattle.nfa_pikevm_scan.proofs.RowLemmas.{AddsStart-passes, AreAt-none, KeepsThreads-none, KeepsThreads-then, few-joins}
use Rattle.nfa_pikevm_scan.proofs.ScanLemmas.{AreAt-cross, EndsAt, EndsAt-none, SearchesFirst-match, SearchesFirst-miss}
use Rattle.nfa_pikevm_scan.proofs.TaskLemmas.{tasks-alone}

-- The position that a scan goes on at, with its states: at most one start has joined those that were there.
pub record Joined (nfa : Automaton) (x : Search) (state limit at to width : ℕ) (so_far : Hit)
    (before : List (ℕ × Slots)) (now : Moment) : Type 0 where
  pub states : All (λ i. i.0 < length nfa.states) now.kept
  pub few : length now.kept ≤ length before + 1
  pub ahead : at ≤ to
  pub within : to ≤ x.end
  pub search : SearchingFrom nfa x (is_match nfa) to width state (to + 1) limit so_far now

-- the states there may be followed
pub MayCross-joined : {nfa : Automaton} {x : Search} {state limit at to width : ℕ} {so_far : Hit}
    {before : List (ℕ × Slots)} {now : Moment} {t : Threads} → Joined nfa x state limit at to width so_far before now
    → t.curr.items ≡ now.kept → HaveRows nfa width t → t.reached.next.items ≡ [] → MayCross nfa x to width t
MayCross-joined j are rows none = grind arith

-- the scan begins
pub ScansFirst-begin : {nfa : Automaton} {x : Search} {from : Starts} {slots : Slots} {t : Threads}
    → MayScan nfa x from slots t → ScansFirst nfa x from from.limit x.start (length slots) None slots t t
ScansFirst-begin ready = grind (arith, KeepsThreads-none, AreAt-none, SearchesFirst-begin)

module _ {nfa : Automaton} {x : Search} {from : Starts} {limit at width : ℕ} {found : Option HalfMatch} {slots : Slots}
    {base old : Threads} (s : ScansFirst nfa x from limit at width found slots base old) where
  -- a state is there, and no start is left
  pub Joined-lone : limit ≡ 0 → length old.curr.items ≡ 1
      → Joined nfa x from.state limit at at width s.searches.so_far old.curr.items (held old slots)
  Joined-lone none one = grind (arith, tasks-alone)

  -- the start has joined, or is passed over, or none is left; and some state is there
  pub Joined-start : {table : List Bool} → IsFirstBytes nfa table → AreStarts nfa x from → {to : ℕ}
      {items : List (ℕ × Slots)} → AddsStart table x from limit width at old.curr.items to items → 0 < length items
      → Joined nfa x from.state limit at to width s.searches.so_far old.curr.items
      (record (held old slots) { kept = items })
  Joined-start {table} first are {to} {items} j some = record {
    states = elim j.last [
      | inl h ↦ rw h.1 (All-push (λ (i : ℕ × Slots). i.0 < length nfa.states) old.curr.items
          (from.state, blank width) s.states.states are.state)
      | inr h ↦ rw h.0 s.states.states
    ];
    few = few-joins j;
    ahead = j.ahead;
    within = grind (arith, j.within, s.states.over, are.high, j.ahead, s.limits, j.last);
    search = SearchesFirst-joins nfa x table first from are limit width at to s.low j s.searches;
  }

  module _ (are : AreStarts nfa x from) {to : ℕ} {items : List (ℕ × Slots)}
      (j : Joined nfa x from.state limit at to width s.searches.so_far old.curr.items
      (record (held old slots) { kept = items }))
      {new : Threads} (keeps : KeepsThreads old new) (next : new.reached.next.items ≡ []) {hit : Option PatternID}
      {written : Slots}
      (c : NextsGive nfa x to false (between old.reached.seen items slots) hit (held new written)) where
    -- the next position, with what was found up to it
    after : {later : ℕ} {half : Option HalfMatch} → (later ≡ from.limit) ⊎ (later ≡ 0)
        → SearchesFirst nfa x (to + 1) width from.state later half (held new written)
        → ScansFirst nfa x from later (to + 1) width half written base new
    after limits searches =
        let low : x.start ≤ to = omega (arith, s.low, j.ahead) in
        let within : to ≤ x.end = j.within in
        record {
          limits = limits;
          low = omega arith;
          high = omega arith;
          keeps = KeepsThreads-then s.keeps keeps;
          next = next;
          states = AreAt-cross c.gives are.leads base.reached.seen.turns (length old.curr.items) low
              (paid-later base.reached.seen.turns _ (1 + total_degree nfa) (omega (arith, j.ahead)) s.states.paid)
              j.few;
          searches = searches;
        }

    module _ (half : Option HalfMatch) (is : EndsAt to hit half) where
      -- with a match there: no start is left
      pub ScansFirst-match : is_some half ≡ true → ScansFirst nfa x from 0 (to + 1) width half written base new
      ScansFirst-match some = after (inr refl) (SearchesFirst-match nfa x to width from.state limit c j.search half is
          some)

      -- with none
      pub ScansFirst-miss : is_some half ≡ false → ScansFirst nfa x from limit (to + 1) width found written base new
      ScansFirst-miss none = after s.limits (SearchesFirst-miss nfa x to width from.state limit c j.search
          s.searches.is_so_far (EndsAt-none to hit half is none))

-- the first start, after those that are passed over
pub Joined-first : {nfa : Automaton} {x : Search} {from : Starts} {slots : Slots} {t : Threads}
    (ready : MayScan nfa x from slots t) {table : List Bool} → IsFirstBytes nfa table → x.start < from.limit → {to : ℕ}
    → PassesOver table x x.start from.stop to
    → Joined nfa x from.state from.limit x.start to (length slots) (ScansFirst-begin ready).searches.so_far
    t.curr.items (between t.reached.seen ((from.state, blank (length slots)) ∷ []) slots)
Joined-first {x = x} {from} {slots} {t} ready first some p =
    let are = ready.starts in
    Joined-start (ScansFirst-begin ready) first are
    (rw ready.curr (AddsStart-passes (length slots) p are.stop are.before some)) (omega arith)
