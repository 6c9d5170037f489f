-- The slots of a search whose NFA has only those of one match.
use Rattle.nfa_paths.proofs.Common.{◌≡◌, ◌∙◌, ℕ, Ok, zero, suc, ◌*◌, ◌<◌, Bool, true, false, List, [], ◌∷◌, length, nat_le, ap, arith, refl, sym, ◌≤◌, All, if◌then◌else◌, Option, None, Some, option_and_then, option_map, unwrap_or, slice_get, slice_set, All-cons, All-nil, slice_get_within, Found, slot_count, Search, match_of, span_at, MatchKind, Span, Automaton, Pair, IsAnswer, IsFindAnswer, path_pattern, slot_among, slot_row}
use Rattle.nfa_search_base.specs.Common.{Captured, IsInside, IsSlotInside, answer_span, filled_answer, row_span, span_of}
use Rattle.nfa_meta.specs.MatchSlots.{match_slots}

-- a match of the span that two slots give
span-pair : (m : Found) (p : ℕ) (a b : Option ℕ)
    → Some m ≡ option_map
    (λ (s : Span). (let f : Found = record { pattern = p; start = s.start; end = s.end } in f))
    (option_and_then (λ start. option_and_then
    (λ end. if nat_le start end then Some (let s : Span = record { start = start; end = end } in s) else None) b) a)
    → (p ≡ m.pattern) × (a ∷ b ∷ [] ≡ match_slots m)
span-pair m p None b e = cc
span-pair m p (Some s) None e = cc
span-pair m p (Some s) (Some t) e = of (nat_le s t) e
  where
    of : (o : Bool)
        → Some m ≡ option_map
        (λ (s : Span). (let f : Found = record { pattern = p; start = s.start; end = s.end } in f))
        (if o then Some (let u : Span = record { start = s; end = t } in u) else None)
        → (p ≡ m.pattern) × (Some s ∷ Some t ∷ [] ≡ match_slots m)
    of false e = cc
    of true e = (cc, cc)

-- a match that two slots give is that of the first pattern, and the slots are its offsets
pub pair-row : (m : Found) (pattern : Option ℕ) (a b : Option ℕ) → Some m ≡ match_of pattern (a ∷ b ∷ [])
    → (pattern ≡ Some m.pattern) × (a ∷ b ∷ [] ≡ match_slots m)
pair-row m None a b e = cc
pair-row m (Some zero) a b e =
    let h = span-pair m 0 a b e in
    (cc, h.1)
pair-row m (Some (suc n)) a b e =
    let never : Some m ≡ None = e ∙ ap (λ (s : Option Span). option_map
    (λ (s : Span). (let f : Found = record { pattern = suc n; start = s.start; end = s.end } in f)) s)
    (beyond (slice_get (a ∷ b ∷ []) (2 * suc n)) refl) in
    cc
  where
    beyond : (o : Option (Option ℕ)) → slice_get (a ∷ b ∷ []) (2 * suc n) ≡ o
        → span_at (a ∷ b ∷ []) (2 * suc n) ≡ None
    beyond None is = rw is refl
    beyond (Some y) is =
        let within : 2 * suc n < length (a ∷ b ∷ []) = slice_get_within (a ∷ b ∷ []) (2 * suc n) y is in
        absurd (omega (arith, within))

-- if the NFA has two slots, a match gives both
pub plain-answer : (nfa : Automaton) (kind : MatchKind) (earliest : Bool) (x : Search) (m : Found)
    → slot_count nfa.groups ≡ 2 → IsFindAnswer nfa kind earliest x (Some m)
    → IsAnswer nfa kind earliest x (Some m.pattern) (match_slots m)
unfolding slot_row
plain-answer nfa kind earliest x m two h =
    let is = row h.path (rw two at h.found_is) in
    record {
      restarts = h.restarts;
      path = h.path;
      answers = h.answers;
      pattern_is = sym is.0;
      slots_are = sym is.1;
    }
  where
    row : (path : Option (List Pair))
        → Some m ≡ match_of (option_and_then (path_pattern nfa) path) (slot_row nfa 2 path)
        → (option_and_then (path_pattern nfa) path ≡ Some m.pattern) × (slot_row nfa 2 path ≡ match_slots m)
    row None e = cc
    row (Some p) e = pair-row m (path_pattern nfa p) (slot_among nfa p 0) (slot_among nfa p 1) e

-- and these two hold the match
pub plain-match : (nfa : Automaton) (kind : MatchKind) (earliest : Bool) (x : Search) (m : Found)
    → slot_count nfa.groups ≡ 2 → IsFindAnswer nfa kind earliest x (Some m)
    → match_of (Some m.pattern) (match_slots m) ≡ Some m
unfolding slot_row
plain-match nfa kind earliest x m two h = row h.path (rw two at h.found_is)
  where
    row : (path : Option (List Pair))
        → Some m ≡ match_of (option_and_then (path_pattern nfa) path) (slot_row nfa 2 path)
        → match_of (Some m.pattern) (match_slots m) ≡ Some m
    row None e = cc
    row (Some p) e =
        let is = pair-row m (path_pattern nfa p) (slot_among nfa p 0) (slot_among nfa p 1) e in
        sym (rw is.1 at rw is.0 at e)

-- captures of a match give its span
pub match-held : (c : Captured) (m : Found) → match_of c.pattern c.slots ≡ Some m
    → answer_span row_span (filled_answer c (Ok tt)) ≡ Some (span_of m)
match-held c m is =
    rw is (ap (λ (o : Option Found). Some (span_of (unwrap_or o (record { pattern = 0; start = 0; end = 0 })))) is)

-- two slots that are both written
pub two-set : (xs : List (Option ℕ)) (a b : Option ℕ) (m : Found) → length xs ≡ 2 → a ≡ Some m.start
    → b ≡ Some m.end → slice_set (slice_set xs 0 a) 1 b ≡ match_slots m
two-set [] a b m two i j = cc
two-set (x ∷ []) a b m two i j = cc
two-set (x ∷ (y ∷ [])) a b m two i j = cc
two-set (x ∷ (y ∷ (z ∷ xs))) a b m two i j = cc

-- the slots of a match in the span are in it
pub match_slots-inside : (x : Search) (m : Found) → IsInside x m → All (IsSlotInside x) (match_slots m)
match_slots-inside x m h =
    let from : x.start ≤ m.start = h.from in
    let ordered : m.start ≤ m.end = h.ordered in
    let to : m.end ≤ x.end = h.to in
    All-cons (IsSlotInside x) (Some m.start) (Some m.end ∷ []) (from, omega arith)
    (All-cons (IsSlotInside x) (Some m.end) [] (omega arith, to) (All-nil (IsSlotInside x)))
