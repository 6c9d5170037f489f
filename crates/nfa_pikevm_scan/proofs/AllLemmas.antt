-- From one position to the next of a scan for all sets of matches.
use Rattle.nfa_paths.proofs.FrontierMatchLemmas.{first_match-is, last_match-is}
use Rattle.nfa_paths.proofs.ScanAnswerLemmas.{Scanned-matches, edges-onward, scan_earliest-cut, scan_earliest_last-found, seeds-later}
use Rattle.nfa_paths.proofs.ScanLemmas.{LastBefore-step, NoneBefore-step}
use Rattle.nfa_paths.proofs.SearchingLemmas.{Scanning-front, Scanning-load, Scanning-round}
use Rattle.nfa_scan_core.proofs.TargetLemmas.{SeenAt-none}
use Rattle.nfa_pikevm_scan.proofs.FrontierLemmas.{Formed-next, Formed-resting, Formed-rests, last_match-or}
use Rattle.nfa_pikevm_scan.proofs.ScanLemmas.{EndsAt, EndsAt-none, Leads-starts, match-cross}
use Rattle.nfa_pikevm_scan.proofs.TaskLemmas.{AnswersFor-round, Searching-for}
use Rattle.nfa_pikevm_scan.proofs.Common.{AllMatches, AreMatchPairs, Automaton, Bool, Frontier, HalfMatch, Hit, IsFoundBy, IsFrontier, IsScanAnswer, IsSoFar, LastBefore, LeftmostFirst, Load, Moment, NextsGive, NoMatch, None, NoneBefore, Option, Pair, PatternID, Scanning, Search, SeenAt, Slots, Some, Starts, StatesGive, [], arith, blank, capture, cond, false, inl, inr, is_match, is_resting, is_some, last_match, length, meant, option_or, refl, replicate, space, starts, starts_from, tasks, true, unmarked, with_start, ℕ, ◌+◌, ◌-◌, ◌∷◌, ◌≡◌, ◌≤◌, ◌⊎◌}

-- The scan for each wanted pair, at a position where it has followed no state yet. The states that are kept are left,
-- and the starts from `next` on.
pub record ScansAll (nfa : Automaton) (x : Search) (wanted : Pair → Bool) (at width start next limit : ℕ) (now : Moment)
    : Type 0 where
  pub scanning : Scanning (space nfa x) wanted (blank width) at (SeenAt at (unmarked now.met).bits) now.met.turns []
      (tasks at now.kept (Load (blank width) ∷ starts_from width start next limit)) (blank width)

-- what is held once the start has joined, if it may still join
abbrev pub start_joined : Starts → ℕ → ℕ → Moment → Moment
start_joined starts_at width at now = record now { kept = with_start starts_at width at now.kept }

-- The match that was found last, of the paths that end before the position.
pub record HasLast (nfa : Automaton) (x : Search) (at width : ℕ) (found : Option HalfMatch) (slots : Slots)
    (turns : ℕ) : Type 0 where
  pub so_far : Hit
  pub is_so_far : IsSoFar nfa x found slots so_far
  pub last : LastBefore (space nfa x) (is_match nfa) (blank width) at turns so_far

module _ (wanted : Pair → Bool) {nfa : Automaton} (sub : AreMatchPairs nfa wanted) {x : Search} {at : ℕ}
    (width state limit : ℕ) {a b : Moment} {front : Frontier} {goes : Type 0}
    (c : StatesGive nfa x at a goes [] front b) (s : ScansAll nfa x wanted at width state (at + 1) limit a) where
  -- what was met and put aside, wherever the position ended
  pub all-left : Scanning (space nfa x) wanted (blank width) at (SeenAt at b.met.bits) b.met.turns front
      (Leads-starts c width state limit).left (Leads-starts c width state limit).written
  all-left = record {
    searching = λ target m. (Leads-starts c width state limit).follows.leads target (λ v t. sub v (m v t).0)
        (starts nfa x) (blank width) None (s.scanning.searching target m);
  }

  -- if it went on to the end of its work
  all-whole : goes → Scanning (space nfa x) wanted (blank width) at (SeenAt at b.met.bits) b.met.turns front
      (Load (blank width) ∷ starts_from width state (at + 1) limit) (Leads-starts c width state limit).written
  all-whole goes_on = rw ((Leads-starts c width state limit).whole goes_on) at all-left

  -- its front is complete
  pub all-front : goes → IsFrontier (space nfa x) (is_resting nfa) wanted (blank width) b.met.turns front at
  all-front goes_on =
      Scanning-front (space nfa x) wanted (blank width)
      (Scanning-load (space nfa x) wanted (blank width) (all-whole goes_on))
      (Formed-resting nfa x at b.met.bits front c.formed) c.formed.once
      (seeds-later (blank width) state at (limit - (at + 1)))

  -- the next position
  pub ScansAll-next : goes → ScansAll nfa x wanted (at + 1) width state (at + 1) limit b
  ScansAll-next goes_on =
      let next = Scanning-round (space nfa x) wanted (blank width)
      {After = SeenAt (at + 1) (replicate (length b.met.bits) false)} (all-whole goes_on) (edges-onward nfa x)
      (Formed-rests nfa x at b.met.bits front c.formed) (seeds-later (blank width) state at (limit - (at + 1)))
      (λ v seen. let h : v.1 ≡ at = seen.here in omega arith) (SeenAt-none (at + 1) (length b.met.bits))
      (blank width) in
      rw c.added (record {
        scanning = record {
          searching = λ target m.
              Searching-for (space nfa x) target (next.searching target m)
              (AnswersFor-round (space nfa x) target at front (blank width) (starts_from width state (at + 1) limit)
              (Formed-next nfa x at b.met.bits front c.formed))
              (blank width);
        };
      })

module _ {nfa : Automaton} {x : Search} {at width state limit : ℕ} where
  module _ {past : Bool} {a b : Moment} {hit : Option PatternID} (c : NextsGive nfa x at past a hit b)
      (s : ScansAll nfa x (is_match nfa) at width state (at + 1) limit a) where
    -- the same for a search, if each match is wanted
    nexts-front : (past ≡ true) ⊎ (hit ≡ None)
        → IsFrontier (space nfa x) (is_resting nfa) (is_match nfa) (blank width) b.met.turns c.front at
    nexts-front = all-front (is_match nfa) (λ v t. t) width state limit c.gives s

    -- no path ended before the position, and none ends at it
    pub NoneBefore-cross : hit ≡ None → NoneBefore (space nfa x) (is_match nfa) at
        → NoneBefore (space nfa x) (is_match nfa) (at + 1)
    NoneBefore-cross none before =
        NoneBefore-step (space nfa x) (is_resting nfa) (is_match nfa) (blank width)
        (Scanned-matches nfa x (is_match nfa) (λ v t. t)) before
        (nexts-front (inr none)) (no_match past (rw none at c.is_hit).0)
      where
        no_match : (p : Bool) → meant p (is_match nfa) c.front ≡ None → NoMatch (is_match nfa) c.front
        no_match p e = grind (arith, last_match-is, first_match-is)

    -- if no path ended before, the match that is meant is the earliest path's, the first or the last
    pub earliest-found : NoneBefore (space nfa x) (is_match nfa) at → (v : Pair × Slots)
        → meant past (is_match nfa) c.front ≡ Some v
        → IsFoundBy (capture nfa) (blank width) (IsScanAnswer nfa x (cond past AllMatches LeftmostFirst) true)
        b.met.turns (Some v)
    earliest-found none v = of past (λ on. inl on)
      where
        of : (p : Bool) → (p ≡ true → (past ≡ true) ⊎ (hit ≡ None)) → meant p (is_match nfa) c.front ≡ Some v
            → IsFoundBy (capture nfa) (blank width) (IsScanAnswer nfa x (cond p AllMatches LeftmostFirst) true)
            b.met.turns (Some v)
        of true goes_on last = scan_earliest_last-found nfa x (blank width) none (nexts-front (goes_on refl)) v last
        of false goes_on first = scan_earliest-cut nfa x (blank width) none
            (all-left (is_match nfa) (λ v t. t) width state limit c.gives s)
            (Formed-resting nfa x at b.met.bits c.front c.gives.formed) first

  -- the match at the position, or what was found before
  pub HasLast-cross : {a b : Moment} {hit : Option PatternID} {found : Option HalfMatch}
      → (c : NextsGive nfa x at true a hit b) → ScansAll nfa x (is_match nfa) at width state (at + 1) limit a
      → a.met.turns ≤ b.met.turns → (half : Option HalfMatch) → EndsAt at hit half
      → HasLast nfa x at width found a.slots a.met.turns
      → HasLast nfa x (at + 1) width (option_or half found) b.slots b.met.turns
  HasLast-cross {a} {b} {hit} {found} c s grows half is h = record {
    so_far = last_match (is_match nfa) h.so_far c.front;
    is_so_far = rw (last_match-or (is_match nfa) h.so_far c.front) (of half (match-cross c half is)
        (λ none. rw (EndsAt-none at hit half is none) at c.is_hit));
    last = LastBefore-step (space nfa x) (is_resting nfa) (is_match nfa) (blank width)
        (Scanned-matches nfa x (is_match nfa) (λ v t. t)) grows h.last (nexts-front c s (inl refl));
  }
    where
      of : (m : Option HalfMatch) → (is_some m ≡ true
          → (v : Pair) × (last_match (is_match nfa) None c.front ≡ Some (v, b.slots))
          × IsSoFar nfa x m b.slots (Some (v, b.slots)))
          → (is_some m ≡ false → (last_match (is_match nfa) None c.front ≡ None) × (b.slots ≡ a.slots))
          → IsSoFar nfa x (option_or m found) b.slots (option_or (last_match (is_match nfa) None c.front) h.so_far)
      of None some none = let k = none refl in rw (k.0, k.1) h.is_so_far
      of (Some m) some none = let k = some refl in rw k.1 k.2
