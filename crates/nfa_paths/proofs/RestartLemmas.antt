-- A search scans. While the answer ends inside a codepoint, it scans again from one byte further on. These lemmas say
-- what holds at each scan, what the result of the search is, and what its contract says.
use Rattle.nfa_paths.proofs.Common.{◌≡◌, ℕ, zero, suc, ◌+◌, ◌-◌, ◌*◌, ◌<◌, ◌≤◌, List, length, replicate, refl, arith, subst, below_more, rules, Option, Some, None, true, false, Bool, IfSome, option_map, option_and_then, IsBoundary, Found, HalfFound, half_found_of, Search, is_anchored, match_of, HalfMatch, MatchKind, Automaton, IsAutomaton, Pair, Slots, IsAnswer, IsHalfAnswer, IsFindAnswer, raised, is_utf8_empty, slot_row, max_scans, path_half, path_pattern, EndsOnBoundary, SplitsCharacter, IsScanAnswer, IsSearchAnswer, IsWhole, IsWithinScans, max_scan_turns, AreUnset, GivesPath, ScanGives, SearchGives, IsBounded, Restarts}
use Rattle.nfa_paths.proofs.AnswerLemmas.{ends_on_boundary, split-within_scans, split-anchored, one_scan-bound, scan_answer-within}
use Rattle.nfa_paths.proofs.InsideLemmas.{pattern-within}
use Rattle.nfa_paths.proofs.OneScanLemmas.{settled-scan}
use Rattle.nfa_paths.proofs.PatternLemmas.{match-along-path}
use Rattle.nfa_paths.proofs.StartLemmas.{raised-zero}

-- the slots of no path
pub slot_row-none : (nfa : Automaton) (count : ℕ) → slot_row nfa count None ≡ replicate count None
unfolding slot_row
slot_row-none nfa count = refl

-- before the first scan
pub restarts-begin : {nfa : Automaton} {kind : MatchKind} {earliest : Bool} {x : Search} {turns : ℕ} → turns ≡ 0
    → Restarts nfa kind earliest x x 0 turns
restarts-begin none = grind arith

-- A search x has restarted `scans` times, in `turns` turns, and makes one scan more, of y.
module _ {nfa : Automaton} {kind : MatchKind} {earliest : Bool} {x y : Search} {scans turns : ℕ}
    (begun : Restarts nfa kind earliest x y scans turns) where
  -- an answer that counts is the search's
  settled : (path : Option (List Pair)) → IsScanAnswer nfa y kind earliest path
      → (is_utf8_empty nfa ≡ true → IsWhole x path)
      → IsSearchAnswer nfa kind earliest x scans path
  settled path answers = settled-scan nfa kind earliest x scans path begun.split begun.free
      (subst (λ z. IsScanAnswer nfa z kind earliest path) begun.is answers)

  -- the scan found nothing
  pub settled-none : {slots : Slots} {after total : ℕ} → ScanGives nfa kind earliest y None slots 0
      → after ≡ scans + 1 → SearchGives nfa kind earliest x None slots after total
  settled-none gives counted = grind (arith, settled, slot_row-none)

  -- its end is the end of the path
  whole-found : {half : HalfMatch} {slots : Slots} {last : ℕ} (f : GivesPath nfa kind earliest y half slots last)
      → (IsBoundary x.haystack (half_found_of half).offset → EndsOnBoundary x f.path)
      × (EndsOnBoundary (raised x scans) f.path → IsBoundary x.haystack (half_found_of half).offset)
  whole-found f = let b = ends_on_boundary x f.path f.ends in search rules

  -- what was found does not split a codepoint, or need not be whole
  pub settled-some : {half : HalfMatch} {slots : Slots} {after last total : ℕ}
      → GivesPath nfa kind earliest y half slots last
      → (is_utf8_empty nfa ≡ true → IsBoundary x.haystack (half_found_of half).offset)
      → after ≡ scans + 1 → last ≤ total
      → SearchGives nfa kind earliest x (Some half) slots after total
  settled-some f boundary counted all = record {
    restarts = scans;
    path = Some f.path;
    answers = settled (Some f.path) f.answers (λ mode. (whole-found f).0 (boundary mode));
    half_is = rw (f.ends, f.matches) refl;
    slots_are = f.row;
    scans_are = counted;
    turns_reach = omega (arith, f.short);
  }

  -- what was found splits a codepoint
  pub splits : {half : HalfMatch} {slots : Slots} {last : ℕ} → GivesPath nfa kind earliest y half slots last
      → (IsBoundary x.haystack (half_found_of half).offset → ⊥) → SplitsCharacter nfa kind earliest (raised x scans)
  splits f off = record {
    path = f.path;
    answers = subst (λ z. IsScanAnswer nfa z kind earliest (Some f.path)) begun.is f.answers;
    splits = λ whole. off ((whole-found f).1 whole);
  }

  -- an anchored search is over then
  pub discarded : {slots : Slots} {after total : ℕ} → SplitsCharacter nfa kind earliest (raised x scans)
      → is_utf8_empty nfa ≡ true → is_anchored x.anchored ≡ true → after ≡ scans + 1 → AreUnset slots
      → SearchGives nfa kind earliest x None slots after total
  discarded {slots} split mode anchored counted unset = grind (arith, raised-zero, slot_row-none)

  -- the turns after one scan more
  turns-after : (after : ℕ) → after ≤ turns + max_scan_turns nfa y → after ≤ (scans + 1) * max_scan_turns nfa x
  turns-after after more = grind arith

  -- any other search scans again
  pub restarted : {after start : ℕ} {z : Search} → SplitsCharacter nfa kind earliest (raised x scans)
      → is_utf8_empty nfa ≡ true → is_anchored x.anchored ≡ false
      → after ≤ turns + max_scan_turns nfa y → start ≡ y.start + 1 → z ≡ record y { start = start }
      → Restarts nfa kind earliest x z (scans + 1) after
  restarted {after} {start} split mode free more next moved = grind (arith, below_more, turns-after)

  -- there is a start left for it
  pub start-left : {half : HalfMatch} {found : Slots} {last : ℕ} → GivesPath nfa kind earliest y half found last
      → y.start ≤ y.end
  start-left f = scan_answer-within nfa y kind earliest f.path f.answers

  -- the scans so far do not end the search, so one more is within what its answer takes, and within the limit
  pub bounded : {after total : ℕ} → after ≡ scans + 1 → total ≤ turns + max_scan_turns nfa y
      → IsBounded nfa kind earliest x after total
  bounded {after} {total} counted more = rw counted (search (rules, within, few, turns-after))
    where
      within : (n : ℕ) → ((i : ℕ) → i < n → SplitsCharacter nfa kind earliest (raised x i))
          → (0 < n → (is_utf8_empty nfa ≡ true) × (is_anchored x.anchored ≡ false))
          → IsWithinScans nfa kind earliest x (n + 1)
      within zero split free = λ restarts path answers. omega arith
      within (suc n) split free = let modes = free (omega arith) in
          split-within_scans nfa kind earliest x modes.0 modes.1 (suc n) split

      few : (n : ℕ) → ((i : ℕ) → i < n → SplitsCharacter nfa kind earliest (raised x i))
          → (0 < n → (is_utf8_empty nfa ≡ true) × (is_anchored x.anchored ≡ false)) → n + 1 ≤ max_scans nfa x
      few = grind (arith, one_scan-bound, split-anchored)

  -- it starts as far on as there were scans before it
  pub scan-start : {after : ℕ} → after ≡ scans + 1 → y ≡ raised x (after - 1)
  scan-start {after} counted = let same : scans ≡ after - 1 = omega (arith, counted) in rw (← same) begun.is

-- From the result of a search to what its contract says.

-- the pattern of a path's half match is that of the path
pub half-pattern : (nfa : Automaton) (path : Option (List Pair))
    → option_map (λ (h : HalfFound). h.pattern) (option_and_then (path_half nfa) path)
    ≡ option_and_then (path_pattern nfa) path
half-pattern = grind arith

module _ {nfa : Automaton} {kind : MatchKind} {earliest : Bool} {x : Search} {slots : Slots} {scans turns : ℕ} where
  -- the pattern and the end
  pub half-of : {half : Option HalfMatch} → SearchGives nfa kind earliest x half slots scans turns
      → IsHalfAnswer nfa kind earliest x (option_map half_found_of half)
  half-of s = record { restarts = s.restarts; path = s.path; answers = s.answers; found_is = s.half_is }

  -- the pattern and the slots, given a part of the slots
  pub answer-of : {half : Option HalfMatch} {pattern : Option ℕ} {all : Slots}
      → pattern ≡ option_map (λ h. (half_found_of h).pattern) half
      → SearchGives nfa kind earliest x half slots scans turns
      → ((path : Option (List Pair)) → slots ≡ slot_row nfa (length slots) path → all ≡ slot_row nfa (length all) path)
      → IsAnswer nfa kind earliest x pattern all
  answer-of is s whole = search rules

  -- its pattern is one of the NFA's
  pub pattern-among : IsAutomaton nfa → (half : Option HalfMatch)
      → SearchGives nfa kind earliest x half slots scans turns
      → IfSome half (λ h. (half_found_of h).pattern < length nfa.patterns)
  pattern-among valid None s = tt
  pattern-among valid (Some h) s =
      pattern-within nfa kind earliest valid x (Some (half_found_of h).pattern) slots
      (answer-of {all = slots} refl s (λ path are. are))

  -- the match
  pub match-some : IsAutomaton nfa → {half : HalfMatch} {k : ℕ} → k ≡ (half_found_of half).pattern
      → length slots ≡ 2 * length nfa.groups
      → SearchGives nfa kind earliest x (Some half) slots scans turns
      → {found : Option Found} → found ≡ match_of (Some k) slots → IsFindAnswer nfa kind earliest x found
  match-some valid is size s leads = search (rules, match-along-path)
