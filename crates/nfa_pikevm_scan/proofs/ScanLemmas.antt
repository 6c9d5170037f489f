-- From one position of a scan to the next.
use Rattle.nfa_paths.proofs.FrontierMatchLemmas.{before_match-all, before_match-among, first_match-cut, last_match-is}
use Rattle.nfa_paths.proofs.MemberLemmas.{In-middle, same_some}
use Rattle.nfa_paths.proofs.ScanAnswerLemmas.{edges-onward, seeds-later}
use Rattle.nfa_paths.proofs.SearchingLemmas.{Searching-before_round, Searching-cut, Searching-wait}
use Rattle.nfa_paths.proofs.StartLemmas.{IsMatch-capture}
use Rattle.nfa_scan_core.proofs.TargetLemmas.{SeenAt-none}
use Rattle.nfa_pikevm_scan.proofs.FrontierLemmas.{Formed-below, Formed-next, Formed-over, Formed-resting, Formed-rests, Paid-few, Paid-next, paid-next}
use Rattle.nfa_pikevm_scan.proofs.TaskLemmas.{AnswersFor, AnswersFor-round, Searching-for, starts_from-end}
use Rattle.nfa_pikevm_scan.proofs.Common.{All, AreAt, AreMatchPairs, Automaton, Bool, Explore, Frontier, HalfFound, HalfMatch, Hit, In, IsHit, IsSoFar, Leads, LeadsBelow, List, Load, Moment, NextsGive, None, Option, Pair, PatternID, Search, SearchesFirst, SearchingAt, SearchingFrom, SeenAt, Slots, Some, StatesGive, Task, [], ap, arith, before_match, blank, edges, false, first_match, half_found_of, inl, inr, is_match, is_some, length, meant, moves, next_tasks, number_of, option_map, refl, replicate, space, starts, starts_from, subst, sym, tasks, total_degree, true, unmarked, ℕ, ◌*◌, ◌+◌, ◌-◌, ◌<◌, ◌∙◌, ◌∷◌, ◌≡◌, ◌≤◌, half_at}

module _ {nfa : Automaton} {x : Search} {at : ℕ} {a b : Moment} {front : Frontier} {goes : Type 0}
    (c : StatesGive nfa x at a goes [] front b) where
  -- where it leads, above the later starts of a scan
  pub Leads-starts : (width state limit : ℕ)
      → Leads nfa x at (unmarked a.met) []
      (tasks at a.kept (Load (blank width) ∷ starts_from width state (at + 1) limit)) (blank width) goes b.met front
      (Load (blank width) ∷ starts_from width state (at + 1) limit)
  Leads-starts width state limit = c.leads (blank width) (blank width) (starts_from width state (at + 1) limit)

  -- what is kept for the next position, if at most one start joined
  pub AreAt-cross : All (LeadsBelow (length nfa.states)) nfa.states → (before stood : ℕ) → x.start ≤ at
      → a.met.turns + stood ≤ before + (at - x.start) * (1 + total_degree nfa) → length a.kept ≤ stood + 1
      → AreAt nfa x (at + 1) before b.met.turns b.kept
  AreAt-cross leads before stood low paid one =
      let next : at + 1 - x.start ≡ (at - x.start) + 1 = omega arith in
      record {
        states = rw c.added (Formed-below nfa x at b.met.bits leads front c.formed);
        few = Paid-few nfa x a.met (length a.kept) b.met b.kept c.paid;
        over = λ past. c.added ∙ Formed-over nfa x at b.met.bits (omega arith) front c.formed;
        paid = rw next (paid-next before a.met.turns stood (length a.kept) b.met.turns (length b.kept) (at - x.start)
            (total_degree nfa) paid one (Paid-next nfa x a.met (length a.kept) b.met b.kept c.paid));
      }

-- the first path

module _ (wanted : Pair → Bool) {nfa : Automaton} (sub : AreMatchPairs nfa wanted) {x : Search}
    {at : ℕ} (width state limit : ℕ) {a b : Moment} {front : Frontier} {goes : Type 0} {so_far : Hit}
    (c : StatesGive nfa x at a goes [] front b)
    (ends : moves (edges nfa x) (before_match wanted front) ≡ moves (edges nfa x) front)
    (s : SearchingFrom nfa x wanted at width state (at + 1) limit so_far a) where
  -- the next position's work is that of what is kept
  kept-work : (waiting : List Task) → AnswersFor (space nfa x) wanted
      (next_tasks (edges nfa x) (before_match wanted front) (Load (blank width) ∷ waiting))
      (tasks (at + 1) b.kept (Load (blank width) ∷ waiting))
  kept-work waiting =
      rw (c.added, ← ends) (AnswersFor-round (space nfa x) wanted at (before_match wanted front) (blank width) waiting
      (λ a i. Formed-next nfa x at b.met.bits front c.formed a (before_match-among wanted front a i)))

  -- the search at the front
  front-search : SearchingAt nfa x at wanted (starts nfa x) (blank width) so_far b.met front
      (Leads-starts c width state limit).left (Leads-starts c width state limit).written
  front-search = (Leads-starts c width state limit).follows.leads wanted sub (starts nfa x) (blank width) so_far s

  -- the states before the first wanted pair go on
  goes-on : {other : Hit} {slots : Slots} (waiting : List Task)
      → SearchingAt nfa x at wanted (starts nfa x) (blank width) other b.met (before_match wanted front)
      (Load (blank width) ∷ waiting) slots → ((k : Pair) → In (Explore k) waiting → at < k.1)
      → SearchingAt nfa x (at + 1) wanted (starts nfa x) (blank width) other (unmarked b.met) []
      (tasks (at + 1) b.kept (Load (blank width) ∷ waiting)) (blank width)
  goes-on waiting before later =
      Searching-for (space nfa x) wanted
      (Searching-before_round (space nfa x) wanted {After = SeenAt (at + 1) (replicate (length b.met.bits) false)} front
      before (edges-onward nfa x) (Formed-rests nfa x at b.met.bits front c.formed) later
      (λ v seen. let h : v.1 ≡ at = seen.here in omega arith) (SeenAt-none (at + 1) (length b.met.bits)) (blank width))
      (kept-work waiting) (blank width)

  -- no match at the position
  pub first-miss : first_match wanted front ≡ None → goes
      → SearchingFrom nfa x wanted (at + 1) width state (at + 1) limit so_far b
  first-miss none goes_on = grind (arith, goes-on, Leads-starts, before_match-all, front-search, seeds-later)

  -- a match at the position
  pub first-hit : (v : Pair × Slots) → first_match wanted front ≡ Some v
      → SearchingAt nfa x (at + 1) wanted (starts nfa x) (blank width) (Some v) (unmarked b.met) []
      (tasks (at + 1) b.kept (Load (blank width) ∷ [])) (blank width)
  first-hit v some =
      let h = first_match-cut wanted front v some in
      let split = subst (λ (f : Frontier). SearchingAt nfa x at wanted (starts nfa x) (blank width) so_far b.met
      f (Leads-starts c width state limit).left (Leads-starts c width state limit).written) h.split front-search in
      let cut = Searching-cut (space nfa x) wanted (before_match wanted front) v
      h.after split h.matches (IsMatch-capture nfa v.0 (sub v.0 h.matches)) in
      goes-on [] (Searching-wait (space nfa x) wanted (blank width) cut) (λ k i. absurd i)

-- a match that ends at a position
abbrev pub EndsAt : ℕ → Option PatternID → Option HalfMatch → Type 0
EndsAt at hit half = option_map half_found_of half ≡ option_map (λ pattern. half_at at (number_of pattern)) hit

-- no half match, no match
pub EndsAt-none : (at : ℕ) (hit : Option PatternID) (half : Option HalfMatch) → EndsAt at hit half
    → is_some half ≡ false → hit ≡ None
EndsAt-none at hit half e none = grind arith

-- a half match is the match that is meant
pub match-cross : {nfa : Automaton} {x : Search} {at : ℕ} {past : Bool} {a b : Moment}
    {hit : Option PatternID} (c : NextsGive nfa x at past a hit b) (half : Option HalfMatch) → EndsAt at hit half
    → is_some half ≡ true → (v : Pair) × (meant past (is_match nfa) c.front ≡ Some (v, b.slots))
    × IsSoFar nfa x half b.slots (Some (v, b.slots))
match-cross {nfa} {x} {at} {past} {a} {b} {hit} c half is some =
    of hit c.is_hit half is some
  where
    among : (p : Bool) (v : Pair) → meant p (is_match nfa) c.front ≡ Some (v, b.slots) → In (v, b.slots) c.front
    among true v e = elim (last_match-is (is_match nfa) None c.front) [
      | inl h ↦ absurd (cc (h.0, e))
      | inr h ↦ subst (λ (a : Pair × Slots). In a c.front) (same_some h.0 (v, b.slots) (sym h.1 ∙ e))
          (rw h.2.split (In-middle h.2.before h.0 h.2.after))
    ]
    among false v e = (first_match-cut (is_match nfa) c.front (v, b.slots) e).among

    of : (o : Option PatternID) → IsHit nfa (meant past (is_match nfa) c.front) a.slots o b.slots
        → (m : Option HalfMatch) → EndsAt at o m → is_some m ≡ true
        → (v : Pair) × (meant past (is_match nfa) c.front ≡ Some (v, b.slots))
        × IsSoFar nfa x m b.slots (Some (v, b.slots))
    of None h None e some = cc
    of None h (Some m) e some = cc
    of (Some p) h None e some = cc
    of (Some p) h (Some m) e some =
        let same : half_found_of m ≡ half_at at (number_of p) = cc in
        let r = Formed-resting nfa x at b.met.bits c.front c.gives.formed (h.0, b.slots) (among past h.0 h.1) in
        let offset : (half_found_of m).offset ≡ at = ap (λ (f : HalfFound). f.offset) same in
        let number : (half_found_of m).pattern ≡ number_of p = ap (λ (f : HalfFound). f.pattern) same in
        let here : h.0.1 ≡ (half_found_of m).offset = r.1 ∙ sym offset in
        (h.0, h.1, (h.0.0, ap (λ (n : ℕ). Some ((h.0.0, n), b.slots)) here, h.2 ∙ ap Some (sym number)))

module _ (nfa : Automaton) (x : Search) (at width state limit : ℕ) {a b : Moment} {hit : Option PatternID}
    {so_far : Hit} (c : NextsGive nfa x at false a hit b)
    (s : SearchingFrom nfa x (is_match nfa) at width state (at + 1) limit so_far a) where
  -- a position with no match
  pub SearchesFirst-miss : {found : Option HalfMatch} → IsSoFar nfa x found a.slots so_far → hit ≡ None
      → SearchesFirst nfa x (at + 1) width state limit found b
  SearchesFirst-miss {found} is_so_far none =
      let h = rw none at c.is_hit in
      record {
        so_far = so_far;
        is_so_far = subst (λ (k : Slots). IsSoFar nfa x found k so_far) (sym h.1) is_so_far;
        searching = first-miss (is_match nfa) (λ v t. t) width state limit c.gives (c.cut refl) s h.0
            (inr none);
      }

  -- a position with a match: no start is left
  pub SearchesFirst-match : (half : Option HalfMatch) → EndsAt at hit half → is_some half ≡ true
      → SearchesFirst nfa x (at + 1) width state 0 half b
  SearchesFirst-match half is some =
      let h = match-cross c half is some in
      let later : 0 ≤ at + 1 = omega arith in
      record {
        so_far = Some (h.0, b.slots);
        is_so_far = h.2;
        searching = rw (starts_from-end width state later) (first-hit (is_match nfa) (λ v t. t)
            width state limit c.gives (c.cut refl) s (h.0, b.slots) h.1);
      }
