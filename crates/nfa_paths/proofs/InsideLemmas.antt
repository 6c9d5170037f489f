-- The match of a search's answer is in its span.
use Rattle.nfa_paths.proofs.Common.{◌≡◌, ℕ, ◌+◌, ◌*◌, ◌≤◌, inl, Bool, true, false, List, [], ◌∷◌, map, refl, sym, subst, arith, rules, ◌<◌, length, All, IfSome, Option, None, Some, cond, option_and_then, option_or, range_with_len, slice_get-map, Found, HalfFound, slot_count, Search, offset_at, match_of, MatchKind, Automaton, IsAutomaton, Pair, In, PathTo, edges, starts, path_pattern, slot_among, slot_row, raised, last_of, IsSearchAnswer, IsAnswer, IsFindAnswer, path_half, IsHalfAnswer, All-map, All-replicate}
use Rattle.nfa_paths.proofs.AnswerLemmas.{scan_answer-leads}
use Rattle.nfa_paths.proofs.OneScanLemmas.{last-scan}
use Rattle.nfa_paths.proofs.PathToLemmas.{EndsWith-in, EndsWith-last, PathTo-keeps}
use Rattle.nfa_paths.proofs.PatternLemmas.{pattern-within as path-pattern}
use Rattle.nfa_paths.proofs.ScanAnswerLemmas.{edges-onward, edges-within, starts-from, starts-within}

-- the position is in the span
abbrev IsWithin : Search → ℕ → Type 0
IsWithin x i = (x.start ≤ i) × (i ≤ x.end)

-- the two offsets that make a match
pub offsets : (slots : List (Option ℕ)) (p : ℕ) (f : Found) → match_of (Some p) slots ≡ Some f
    → (offset_at slots (2 * p) ≡ Some f.start) × (offset_at slots (2 * p + 1) ≡ Some f.end) × (f.start ≤ f.end)
offsets slots p f = grind arith

-- an offset of a row of values is one of the values
offset-value : (f : ℕ → Option ℕ) (places : List ℕ) (i k : ℕ) → offset_at (map f places) i ≡ Some k
    → (j : ℕ) × (f j ≡ Some k)
offset-value f places i k e = grind (arith, slice_get-map)

module _ (nfa : Automaton) where
  module _ (x : Search) where
    -- each pair of a path is in the span
    path-within : (m : Pair) (p : List Pair) → PathTo (edges nfa x) (starts nfa x) m p → (w : Pair) → In w p
        → IsWithin x w.1
    path-within m p path = PathTo-keeps (edges nfa x) (starts nfa x) (λ v. IsWithin x v.1)
        (λ s i. (starts-from nfa x s i, starts-within nfa x s i))
        (λ v y i h.
        let on : v.1 ≤ y.1 = edges-onward nfa x v y i in
        let low : x.start ≤ y.1 = omega (arith, h.0) in (low, edges-within nfa x v y i h.1)) path

    -- and so does each slot that it writes
    slot-within : (p : List Pair) → ((w : Pair) → In w p → IsWithin x w.1) → (slot k : ℕ)
        → slot_among nfa p slot ≡ Some k → IsWithin x k
    slot-within [] inside slot k e = cc
    slot-within (v ∷ p) inside slot k e =
        (grind (arith, of, slot-within p))
      where
        of : (o : Option ℕ) (b : Bool) → ((j : ℕ) → o ≡ Some j → IsWithin x j)
            → option_or o (cond b (Some v.1) None) ≡ Some k → IsWithin x k
        of (Some j) b later e = later k e
        of None true later e = let is : v.1 ≡ k = cc in subst (IsWithin x) is (inside v (inl refl))
        of None false later e = cc

    -- and the match that its slots make
    row-within : (p : List Pair) → ((w : Pair) → In w p → IsWithin x w.1) → (count q : ℕ) (f : Found)
        → match_of (Some q) (slot_row nfa count (Some p)) ≡ Some f → (x.start ≤ f.start) × (f.start ≤ f.end)
        × (f.end ≤ x.end)
    unfolding slot_row
    row-within p inside count q f e =
        let at = offsets _ q f e in
        let one = offset-value (slot_among nfa p) (range_with_len 0 count) (2 * q) f.start at.0 in
        let two = offset-value (slot_among nfa p) (range_with_len 0 count) (2 * q + 1) f.end at.1 in
        let start = slot-within p inside one.0 f.start one.1 in
        let end = slot-within p inside two.0 f.end two.1 in
        (start.0, at.2, end.1)

  module _ (kind : MatchKind) (earliest : Bool) where
    -- the path of a search's answer is in the span
    answer-within : (x : Search) (restarts : ℕ) (p : List Pair) → IsSearchAnswer nfa kind earliest x restarts (Some p)
        → (w : Pair) → In w p → IsWithin x w.1
    answer-within x restarts p answers w i =
        let to = scan_answer-leads nfa (raised x restarts) kind earliest p
        (last-scan nfa kind earliest x restarts p answers).scan in
        let lies = path-within (raised x restarts) to.end p to.path w i in
        (omega arith, lies.1)

    -- the match is in the span
    pub match-within : (x : Search) (f : Found) → IsFindAnswer nfa kind earliest x (Some f) → (x.start ≤ f.start)
        × (f.start ≤ f.end) × (f.end ≤ x.end)
    match-within x f a = of a.path a.answers a.found_is
      where
        some : (p : List Pair) → ((w : Pair) → In w p → IsWithin x w.1) → (q : Option ℕ)
            → Some f ≡ match_of q (slot_row nfa (slot_count nfa.groups) (Some p))
            → (x.start ≤ f.start) × (f.start ≤ f.end) × (f.end ≤ x.end)
        some p inside None e = cc
        some p inside (Some q) e = row-within x p inside (slot_count nfa.groups) q f (sym e)

        of : (path : Option (List Pair)) → IsSearchAnswer nfa kind earliest x a.restarts path
            → Some f ≡ match_of (option_and_then (path_pattern nfa) path) (slot_row nfa (slot_count nfa.groups) path)
            → (x.start ≤ f.start) × (f.start ≤ f.end) × (f.end ≤ x.end)
        of = search (rules, some, answer-within)

    -- the end of an answer's path
    half-end : (p : List Pair) (v : Pair) (h : HalfFound) → last_of p ≡ Some v → Some h ≡ path_half nfa p
        → h.offset ≡ v.1
    half-end p v h last e = grind arith

    ends-within : (x : Search) (restarts : ℕ) (p : List Pair) → IsSearchAnswer nfa kind earliest x restarts (Some p)
        → (h : HalfFound) → Some h ≡ path_half nfa p → IsWithin x h.offset
    ends-within x restarts p answers h e =
        let to = scan_answer-leads nfa (raised x restarts) kind earliest p
        (last-scan nfa kind earliest x restarts p answers).scan in
        let lies = answer-within x restarts p answers to.end (EndsWith-in to.end p to.path.ends) in
        let is = half-end p to.end h (EndsWith-last None to.end p to.path.ends) e in
        rw is lies

    -- the end of a half match is in the span
    pub half-within : (x : Search) (h : HalfFound) → IsHalfAnswer nfa kind earliest x (Some h)
        → (x.start ≤ h.offset) × (h.offset ≤ x.end)
    half-within x h a = search (rules, ends-within)

    -- what holds of the number that a slot has
    if-some : (o : Option ℕ) (P : ℕ → Type 0) → ((k : ℕ) → o ≡ Some k → P k) → IfSome o P
    if-some = grind arith

    -- each slot of an answer is none, or is in the span
    pub slots-within : (x : Search) (pattern : Option ℕ) (slots : List (Option ℕ))
        → IsAnswer nfa kind earliest x pattern slots
        → All (λ o. IfSome o (λ k. (x.start ≤ k) × (k ≤ x.end))) slots
    unfolding slot_row
    slots-within x pattern slots a =
        subst (All (λ o. IfSome o (IsWithin x))) (sym a.slots_are) (of a.path a.answers)
      where
        of : (path : Option (List Pair)) → IsSearchAnswer nfa kind earliest x a.restarts path
            → All (λ o. IfSome o (IsWithin x)) (slot_row nfa (length slots) path)
        of None answers = All-replicate (λ o. IfSome o (IsWithin x)) (length slots) None tt
        of (Some p) answers =
            All-map (λ o. IfSome o (IsWithin x)) (slot_among nfa p) (range_with_len 0 (length slots))
            (λ i d below.
            if-some (slot_among nfa p _) (IsWithin x) (slot-within x p (answer-within x a.restarts p answers) _))

    among : IsAutomaton nfa → (path : Option (List Pair)) (q : ℕ) → option_and_then (path_pattern nfa) path ≡ Some q
        → q < length nfa.patterns
    among = grind (arith, path-pattern)

    -- the pattern of an answer is one of the NFA's
    pub pattern-within : IsAutomaton nfa → (x : Search) (pattern : Option ℕ) (slots : List (Option ℕ))
        → IsAnswer nfa kind earliest x pattern slots
        → IfSome pattern (λ q. q < length nfa.patterns)
    pattern-within valid x pattern slots a = grind (arith, if-some, among)

    -- and so is that of a match
    pub match-pattern : IsAutomaton nfa → (x : Search) (f : Found) → IsFindAnswer nfa kind earliest x (Some f)
        → f.pattern < length nfa.patterns
    match-pattern valid x f a = search (rules, among)
