-- If the accepting paths of one search are those of another, moved, so is its answer.
use Rattle.nfa_paths.proofs.Common.{◌≡◌, ◌∙◌, ℕ, ◌+◌, ◌*◌, Bool, false, List, [], ◌∷◌, map, replicate, zero, suc, length, refl, sym, subst, ap, arith, nat_le, if◌then◌else◌, Option, None, Some, option_map, option_and_then, last_or, range_with_len, option_or, nat_tests, length-map, slice_get-map, Found, Search, offset_at, match_of, Span, MatchKind, Automaton, Pair, is_utf8_empty, node_at, path_pattern, pattern_of, slot_among, slot_row, path_half, HalfFound, IsAnswer, IsBoolAnswer, IsFindAnswer, IsHalfAnswer, IsSearchAnswer, is_some}
use Rattle.nfa_paths.proofs.OneScanLemmas.{given, gives, scan-of, search-of}
use Rattle.nfa_engines.specs.Laws.{Tells}
use Rattle.nfa_engines.specs.SpanLaws.{moved_found, moved_half, moved_match, moved_slots}
use Rattle.nfa_paths.proofs.SameScanLemmas.{explored}
use Rattle.nfa_engines.proofs.MovedLemmas.{moved, moved_path, scan-moved, ArePathsMoved}

-- the match at slots

-- an offset, moved
offset-moved : (k : ℕ) (slots : List (Option ℕ)) (i : ℕ)
    → offset_at (moved_slots k slots) i ≡ option_map (λ at. at + k) (offset_at slots i)
offset-moved k slots i = grind (arith, slice_get-map)

-- the span from one offset to the next, if both are set and in order
abbrev spans : Option ℕ → Option ℕ → Option Span
spans from to =
    option_and_then (λ start. option_and_then
    (λ end. if nat_le start end then Some (record { start = start; end = end }) else None) to) from

-- the match of the pattern there
abbrev found : ℕ → Option Span → Option Found
found p o = option_map (λ (s : Span). record { pattern = p; start = s.start; end = s.end }) o

spans-moved : (k p : ℕ) (a b : Option ℕ)
    → found p (spans (option_map (λ at. at + k) a) (option_map (λ at. at + k) b))
    ≡ option_map (moved_match k) (found p (spans a b))
spans-moved = grind (arith, nat_tests)

-- the match of moved slots is the match of the slots, moved
match-moved : (k : ℕ) (pattern : Option ℕ) (slots : List (Option ℕ))
    → match_of pattern (moved_slots k slots) ≡ option_map (moved_match k) (match_of pattern slots)
match-moved k None slots = refl
match-moved k (Some p) slots =
    rw (offset-moved k slots (2 * p), offset-moved k slots (2 * p + 1))
    (spans-moved k p (offset_at slots (2 * p)) (offset_at slots (2 * p + 1)))

-- by no distance, slots and matches stay
moved_slots-none : (slots : List (Option ℕ)) → moved_slots 0 slots ≡ slots
moved_slots-none [] = refl
moved_slots-none (o ∷ slots) = grind (arith, moved_slots-none slots)

moved_match-none : (found : Option Found) → option_map (moved_match 0) found ≡ found
moved_match-none found = grind arith

moved_half-none : (half : Option HalfFound) → moved_half 0 half ≡ half
moved_half-none half = grind arith

module _ (nfa : Automaton) (k : ℕ) where
  -- pattern and slots of a path that moves

  last-moved : (o : Option Pair) (p : List Pair)
      → option_and_then (λ (v : Pair). pattern_of (node_at nfa v.0)) (last_or (option_map (moved k) o) (moved_path k p))
      ≡ option_and_then (λ (v : Pair). pattern_of (node_at nfa v.0)) (last_or o p)
  last-moved None [] = refl
  last-moved (Some v) [] = refl
  last-moved o (v ∷ p) = last-moved (Some v) p

  pattern-moved : (r : Option (List Pair))
      → option_and_then (path_pattern nfa) (option_map (moved_path k) r) ≡ option_and_then (path_pattern nfa) r
  pattern-moved r = grind (arith, last-moved)

  -- the half match of a path that ends with the pair
  abbrev half_of : Pair → Option HalfFound
  half_of v = option_map (λ pattern. record { pattern = pattern; offset = v.1 }) (pattern_of (node_at nfa v.0))

  last_half-moved : (o : Option Pair) (p : List Pair)
      → option_and_then half_of (last_or (option_map (moved k) o) (moved_path k p))
      ≡ moved_half k (option_and_then half_of (last_or o p))
  last_half-moved None [] = refl
  last_half-moved (Some v) [] = grind arith
  last_half-moved o (v ∷ p) = last_half-moved (Some v) p

  half-moved : (r : Option (List Pair))
      → option_and_then (path_half nfa) (option_map (moved_path k) r)
      ≡ moved_half k (option_and_then (path_half nfa) r)
  half-moved r = grind (arith, last_half-moved)

  found-moved : (r : Option (List Pair)) → is_some (option_map (moved_path k) r) ≡ is_some r
  found-moved r = grind arith

  either : (a : Option ℕ) (t : Bool) (at : ℕ)
      → option_or (option_map (λ i. i + k) a) (if t then Some (at + k) else None)
      ≡ option_map (λ i. i + k) (option_or a (if t then Some at else None))
  either = grind arith

  slot-moved : (p : List Pair) (slot : ℕ)
      → slot_among nfa (moved_path k p) slot ≡ option_map (λ at. at + k) (slot_among nfa p slot)
  slot-moved [] slot = refl
  slot-moved (v ∷ p) slot = grind (arith, slot-moved p slot)

  none-moved : (n : ℕ) → replicate n None ≡ moved_slots k (replicate n None)
  none-moved zero = refl
  none-moved (suc n) = ap (λ (s : List (Option ℕ)). None ∷ s) (none-moved n)

  row-moved : (n : ℕ) (r : Option (List Pair))
      → slot_row nfa n (option_map (moved_path k) r) ≡ moved_slots k (slot_row nfa n r)
  unfolding slot_row
  row-moved n None = none-moved n
  row-moved n (Some p) = of (range_with_len 0 n)
    where
      of : (slots : List ℕ)
          → map (slot_among nfa (moved_path k p)) slots ≡ moved_slots k (map (slot_among nfa p) slots)
      of [] = refl
      of (i ∷ slots) = grind (arith, slot-moved, of slots)

-- the paths of the first search to matches are those of the second, moved, and no match has to end on a boundary
pub record IsMovedTo (nfa : Automaton) (k : ℕ) (x y : Search) : Type 0 where
  pub paths : ArePathsMoved k (explored nfa x) (explored nfa y)
  pub anywhere : is_utf8_empty nfa ≡ false

module _ {nfa : Automaton} {k : ℕ} {x y : Search} (to : IsMovedTo nfa k x y) (kind : MatchKind) (earliest : Bool) where
  -- a search's answer, moved
  moved-answer : (restarts : ℕ) (r : Option (List Pair)) → IsSearchAnswer nfa kind earliest x restarts r
      → IsSearchAnswer nfa kind earliest y 0 (option_map (moved_path k) r)
  moved-answer restarts r h =
      search-of nfa kind earliest y to.anywhere (option_map (moved_path k) r)
      (scan-moved nfa k x y to.paths kind earliest r (scan-of nfa kind earliest x to.anywhere restarts r h))

  -- pattern and slots
  answer-moved : (pattern : Option ℕ) (slots : List (Option ℕ)) → IsAnswer nfa kind earliest x pattern slots
      → IsAnswer nfa kind earliest y pattern (moved_slots k slots)
  answer-moved pattern slots h = record {
    restarts = 0;
    path = option_map (moved_path k) h.path;
    answers = moved-answer h.restarts h.path h.answers;
    pattern_is = h.pattern_is ∙ sym (pattern-moved nfa k h.path);
    slots_are = ap (moved_slots k) h.slots_are ∙ sym (row-moved nfa k (length slots) h.path)
        ∙ ap (λ n. slot_row nfa n (option_map (moved_path k) h.path))
        (sym (length-map slots (option_map (λ (at : ℕ). at + k))));
  }

  -- the match
  match_answer-moved : (found : Option Found) → IsFindAnswer nfa kind earliest x found
      → IsFindAnswer nfa kind earliest y (option_map (moved_match k) found)
  match_answer-moved found h =
      let g = gives nfa kind earliest x found h in
      let long = length-map g.slots (option_map (λ (at : ℕ). at + k)) in
      subst (IsFindAnswer nfa kind earliest y)
      (match-moved k g.pattern g.slots ∙ ap (option_map (moved_match k)) (sym g.is))
      (given nfa kind earliest y g.pattern (moved_slots k g.slots) (long ∙ g.count)
      (answer-moved g.pattern g.slots g.answers))

  -- the half match
  half_answer-moved : (half : Option HalfFound) → IsHalfAnswer nfa kind earliest x half
      → IsHalfAnswer nfa kind earliest y (moved_half k half)
  half_answer-moved half h = record {
    restarts = 0;
    path = option_map (moved_path k) h.path;
    answers = moved-answer h.restarts h.path h.answers;
    found_is = ap (moved_half k) h.found_is ∙ sym (half-moved nfa k h.path);
  }

  -- whether there is a match
  bool_answer-moved : (found : Bool) → IsBoolAnswer nfa kind earliest x found → IsBoolAnswer nfa kind earliest y found
  bool_answer-moved found h = record {
    restarts = 0;
    path = option_map (moved_path k) h.path;
    answers = moved-answer h.restarts h.path h.answers;
    found_is = h.found_is ∙ sym (found-moved nfa k h.path);
  }

-- what searches answer moves with their accepting paths, and stays if these move by no distance
pub record IsMovable {A : Type 0} (Is : Tells A) (moved : ℕ → A → A) : Type 0 where
  pub moves : (nfa : Automaton) (k : ℕ) (x y : Search) → IsMovedTo nfa k x y → (kind : MatchKind) (earliest : Bool)
      (a : A) → Is nfa kind earliest x a → Is nfa kind earliest y (moved k a)
  pub none : (a : A) → moved 0 a ≡ a

pub slots-movable : (pattern : Option ℕ)
    → IsMovable (λ nfa kind earliest x. IsAnswer nfa kind earliest x pattern) moved_slots
slots-movable pattern = record {
  moves = λ nfa k x y to kind earliest. answer-moved to kind earliest pattern;
  none = moved_slots-none;
}

pub match-movable : IsMovable IsFindAnswer moved_found
match-movable = record { moves = λ nfa k x y to. match_answer-moved to; none = moved_match-none }

pub half-movable : IsMovable IsHalfAnswer moved_half
half-movable = record { moves = λ nfa k x y to. half_answer-moved to; none = moved_half-none }

pub bool-movable : IsMovable IsBoolAnswer (λ k found. found)
bool-movable = record { moves = λ nfa k x y to. bool_answer-moved to; none = λ found. refl }

pub stays : {A : Type 0} {Is : Tells A} {moved : ℕ → A → A} → IsMovable Is moved → (nfa : Automaton) (x y : Search)
    → IsMovedTo nfa 0 x y → (kind : MatchKind) (earliest : Bool) (a : A) → Is nfa kind earliest x a
    → Is nfa kind earliest y a
stays {Is = Is} movable nfa x y to kind earliest a h =
    subst (Is nfa kind earliest y) (movable.none a) (movable.moves nfa 0 x y to kind earliest a h)
