-- What a marked search of an NFA's pairs answers, in the words of its contracts.
use Rattle.std.proofs.lemmas.List.FromFn.{length-map-range_with_len, get_or-map-range_with_len}
use Rattle.nfa_paths.proofs.PathToLemmas.{ComesBefore-asymmetric, PathTo-order, IsFirstPath-unique, IsEarliestPath-unique, IsLastPath-unique, IsEarliestLastPath-unique}
use Rattle.nfa_paths.proofs.StartLemmas.{IsMatch-edges, starts-increase}
use Rattle.nfa_paths.proofs.MemberLemmas.{option_or-None}
use Rattle.nfa_paths.proofs.Common.{◌≡◌, ℕ, ◌+◌, ◌≤◌, ◌<◌, ◌⊎◌, ◌↔◌, Bool, true, false, List, [], ◌∷◌, map, length, replicate, get_or, refl, sym, ◌∙◌, arith, length-set, rules, Option, None, Some, last_or, range_with_len, option_or, ext_get_or, get_or-replicate, length-replicate, IsBoundary, Search, is_anchored, MatchKind, Automaton, Pair, ComesBefore, PathTo, Slots, write, apply, raised, span_len, is_match, IsMatch, capture, is_utf8_empty, edges, starts, IsScanAnswer, last_of, slot_among, slot_row, EndsOnBoundary, IsWhole, SplitsCharacter, IsRestartedAnswer, IsSearchAnswer, IsWithinScans, max_scans}

-- of two accepting paths, one comes before the other
pub accepting_order : (nfa : Automaton) (x : Search) {m n : Pair} {p q : List Pair}
    → PathTo (edges nfa x) (starts nfa x) m p → IsMatch nfa m → PathTo (edges nfa x) (starts nfa x) n q → IsMatch nfa n
    → (p ≡ q) ⊎ (ComesBefore (edges nfa x) p q ⊎ ComesBefore (edges nfa x) q p)
accepting_order nfa x w t v u = PathTo-order (edges nfa x) (starts nfa x) (is_match nfa) (IsMatch-edges nfa x)
    (starts-increase nfa x) w t v u

-- and not the other way round too
pub accepting_order-asymmetric : (nfa : Automaton) (x : Search) (p q : List Pair)
    → ComesBefore (edges nfa x) p q → ComesBefore (edges nfa x) q p → ⊥
accepting_order-asymmetric nfa x = ComesBefore-asymmetric (edges nfa x)

-- the slots

-- a write keeps the length
length-write : (o : Option ℕ) (at : ℕ) (slots : Slots) → length (write o at slots) ≡ length slots
length-write = grind (arith, length-set)

-- a value is not none
pub never_none : {A : Type 0} (a : A) → Some a ≡ None → ⊥
never_none a e = cc

module _ (nfa : Automaton) where
  -- a path's captures keep the length
  length-apply : (p : List Pair) (slots : Slots) → length (apply (capture nfa) p slots) ≡ length slots
  length-apply [] slots = refl
  length-apply (v ∷ p) slots = length-apply p (write (capture nfa v) v.1 slots) ∙ length-write (capture nfa v) v.1 slots

  -- the slot after a path: what the path wrote last, or else what stood there
  get_or-apply : (p : List Pair) (slots : Slots) (slot : ℕ) → slot < length slots
      → get_or (apply (capture nfa) p slots) slot None ≡ option_or (slot_among nfa p slot) (get_or slots slot None)
  get_or-apply [] slots slot within = refl
  get_or-apply (v ∷ p) slots slot within =
      let after = write (capture nfa v) v.1 slots in
      let kept : slot < length after = rw (length-write (capture nfa v) v.1 slots) within in
      search (rules, get_or-apply p after slot kept)

  -- from empty slots a path's captures are its row
  pub apply-slot_row : (count : ℕ) (p : List Pair)
      → apply (capture nfa) p (replicate count None) ≡ slot_row nfa count (Some p)
  unfolding slot_row
  apply-slot_row count p =
      let long : length (apply (capture nfa) p (replicate count None)) ≡ count =
      grind (arith, length-apply, length-replicate) in
      ext_get_or None (apply (capture nfa) p (replicate count None)) (map (slot_among nfa p) (range_with_len 0 count))
      (long ∙ sym (length-map-range_with_len (slot_among nfa p) 0 count))
      (grind (arith, get_or-apply, get_or-replicate, option_or-None, get_or-map-range_with_len, length-replicate))

-- a path's end, and boundaries

-- a path ends on a boundary if its last pair is on one
pub ends_on_boundary : (x : Search) (p : List Pair) {v : Pair} → last_of p ≡ Some v
    → EndsOnBoundary x p ↔ IsBoundary x.haystack v.1
ends_on_boundary x [] e = absurd (never_none _ (sym e))
ends_on_boundary x (w ∷ p) e = of w p e
  where
    of : (w : Pair) (p : List Pair) {v : Pair} → last_or (Some w) p ≡ Some v
        → EndsOnBoundary x (w ∷ p) ↔ IsBoundary x.haystack v.1
    of w [] {v} e = grind arith
    of w (u ∷ p) e = of u p e

module _ (nfa : Automaton) where
  -- a scan has one answer
  pub scan_answer-unique : (x : Search) (kind : MatchKind) (earliest : Bool) (r s : Option (List Pair))
      → IsScanAnswer nfa x kind earliest r → IsScanAnswer nfa x kind earliest s → r ≡ s
  scan_answer-unique =
      grind (arith, IsFirstPath-unique, IsEarliestPath-unique, IsLastPath-unique, IsEarliestLastPath-unique)

  -- the path that a scan answers with leads to a match
  pub record LeadsToMatch (x : Search) (p : List Pair) : Type 0 where
    pub end : Pair
    pub path : PathTo (edges nfa x) (starts nfa x) end p
    pub matches : IsMatch nfa end

  -- the answer of a scan, of whichever kind, is a path to a match
  pub scan_answer-leads : (x : Search) (kind : MatchKind) (earliest : Bool) (p : List Pair)
      → IsScanAnswer nfa x kind earliest (Some p) → LeadsToMatch x p
  scan_answer-leads = grind arith

  -- a scan with a path starts within its span
  pub scan_answer-within : (x : Search) (kind : MatchKind) (earliest : Bool) (p : List Pair)
      → IsScanAnswer nfa x kind earliest (Some p) → x.start ≤ x.end
  scan_answer-within x kind earliest p h = search rules

  module _ (kind : MatchKind) (earliest : Bool) where
    -- at most as many scans split a codepoint as starts are left
    skipped-anchored : (x : Search) (n : ℕ) → ((i : ℕ) → i < n → SplitsCharacter nfa kind earliest (raised x i))
        → n + 1 ≤ span_len x + 2
    skipped-anchored = grind (arith, scan_answer-within)

    -- a scan whose answer splits a codepoint has no answer that is whole
    SplitsCharacter-whole : (x : Search) (r : Option (List Pair)) → SplitsCharacter nfa kind earliest x
        → IsScanAnswer nfa x kind earliest r → IsWhole x r → ⊥
    SplitsCharacter-whole = grind (arith, never_none, scan_answer-unique)

    -- the restarts stop at the first scan that is whole, so a search that restarts has one answer
    IsRestartedAnswer-unique : (x : Search) (i j : ℕ) (r s : Option (List Pair))
        → IsRestartedAnswer nfa kind earliest x i r → IsRestartedAnswer nfa kind earliest x j s → (i ≡ j) × (r ≡ s)
    IsRestartedAnswer-unique = grind (arith, SplitsCharacter-whole, scan_answer-unique)

    -- a search has one answer, after one number of restarts
    pub search_answer-unique : (x : Search) (i j : ℕ) (r s : Option (List Pair))
        → IsSearchAnswer nfa kind earliest x i r → IsSearchAnswer nfa kind earliest x j s → (i ≡ j) × (r ≡ s)
    search_answer-unique x i j r s = grind (arith, IsRestartedAnswer-unique, scan_answer-unique)

    module _ (x : Search) (empty : is_utf8_empty nfa ≡ true) (free : is_anchored x.anchored ≡ false) (k : ℕ)
        (skipped : (i : ℕ) → i < k → SplitsCharacter nfa kind earliest (raised x i)) where
      -- if k scans split a codepoint, one more is at most what the answer takes
      pub split-within_scans : IsWithinScans nfa kind earliest x (k + 1)
      split-within_scans restarts path answers = grind (arith, SplitsCharacter-whole)

      -- and within the limit
      pub split-anchored : k + 1 ≤ max_scans nfa x
      split-anchored = rw (empty, free) (skipped-anchored x k skipped)

-- one scan is within the limit
pub one_scan-bound : (nfa : Automaton) (x : Search) {scans : ℕ} → scans ≤ 1 → scans ≤ max_scans nfa x
one_scan-bound nfa x {scans} few = grind arith
