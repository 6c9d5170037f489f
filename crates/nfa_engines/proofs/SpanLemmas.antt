-- An NFA reads only the bytes of the span and whether its assertions hold there, and not the place of the span.
use Rattle.thompson_nfa.specs.declared.look.Look as looks
use Rattle.nfa_paths.proofs.ScanAnswerLemmas.{edges-onward, edges-within, starts-from, starts-within}
use Rattle.nfa_engines.specs.Laws.{Tells}
use Rattle.nfa_engines.specs.SpanLaws.{cut_out, AreBytesMoved, CutOutMoves, EachLook, HoldAlike, IfLook, IsSameSpan, IsSpanMoved, LookHoldsAlike, Moves, NoneToHold, ReadsTheSpan}
use Rattle.nfa_paths.proofs.SameScanLemmas.{explored}
use Rattle.nfa_engines.proofs.MovedLemmas.{moved_path, ArePathsMoved, paths-moved}
use Rattle.nfa_engines.proofs.MovedAnswerLemmas.{IsMovable, IsMovedTo, stays}
use Rattle.nfa_paths.proofs.StartLemmas.{resting-edges}
use Rattle.nfa_paths.proofs.Common.{◌≡◌, ◌∙◌, ℕ, zero, suc, ◌+◌, ◌≤◌, ◌<◌, Bool, false, List, [], ◌∷◌, map, take, drop, refl, ap, arith, if◌then◌else◌, All, Option, option_map, option_and_then, option_to_list, slice_get, get_or_past, nat_tests, Search, Automaton, Node, Pair, In, byte_at, edges, edges_of, node_at, pairs_from, start_count, starts, target_on, is_utf8_empty, Look, Union, BinaryUnion, Capture, Fail}

-- what holds of each state of the NFA holds at each number
all-at : (nfa : Automaton) (P : Node → Type 0) → P Fail → All P nfa.states → (state : ℕ) → P (node_at nfa state)
unfolding node_at
all-at nfa P none all state = grind (arith, get_or_past)

-- what follows from what is true of each assertion of the NFA is true of each
pub each-look : (P Q : looks.Look → Type 0) (nfa : Automaton) → ((look : looks.Look) → P look → Q look)
    → EachLook P nfa → EachLook Q nfa
each-look P Q nfa on all = grind arith

-- the assertions of an NFA without assertions hold alike
pub no-look-alike : (nfa : Automaton) (k : ℕ) (x y : Search) → NoneToHold nfa k x y → HoldAlike nfa k x y
no-look-alike nfa k x y plain = each-look (λ look. ⊥) (LookHoldsAlike k x y) nfa (λ look h. absurd h) plain

pairs-moved : (k state at count : ℕ) → pairs_from state (at + k) count ≡ moved_path k (pairs_from state at count)
pairs-moved k state at zero = refl
pairs-moved k state at (suc count) = grind (arith, pairs-moved k state (at + 1) count)

-- the next pair on a byte, moved
next-moved : (k p : ℕ) (o : Option ℕ)
    → option_to_list (option_map (λ (next : ℕ). (next, p + k + 1)) o)
    ≡ moved_path k (option_to_list (option_map (λ (next : ℕ). (next, p + 1)) o))
next-moved k p o = grind arith

leads-moved : (k p : ℕ) (node : Node) (byte : Option ℕ)
    → option_to_list (option_and_then (λ b. option_map (λ (next : ℕ). (next, p + k + 1)) (target_on node b)) byte)
    ≡ moved_path k (option_to_list
    (option_and_then (λ b. option_map (λ (next : ℕ). (next, p + 1)) (target_on node b)) byte))
leads-moved k p node byte = grind (arith, next-moved)

union-moved : (k p : ℕ) (alternates : List ℕ)
    → map (λ (next : ℕ). (next, p + k)) alternates ≡ moved_path k (map (λ (next : ℕ). (next, p)) alternates)
union-moved k p [] = refl
union-moved k p (a ∷ alternates) = grind (arith, union-moved k p alternates)

-- the pair after an assertion, moved
look-moved : (k p next : ℕ) (b : Bool)
    → (if b then (next, p + k) ∷ [] else []) ≡ moved_path k (if b then (next, p) ∷ [] else [])
look-moved k p next b = grind arith

module _ (nfa : Automaton) (k : ℕ) (x y : Search) (alike : HoldAlike nfa k x y) (span : IsSpanMoved k x y)
    (bytes : AreBytesMoved k x y) where
  -- the second search
  abbrev there : Search
  there = record y { start = x.start + k; end = x.end + k; anchored = x.anchored }

  is_there : y ≡ there
  is_there = grind arith

  byte-moved : (p : ℕ) → x.start ≤ p → byte_at there (p + k) ≡ byte_at x p
  byte-moved p past = grind (arith, nat_tests, bytes)

  byte_edges-moved : (node : Node) (p : ℕ) → x.start ≤ p
      → option_to_list (option_and_then (λ b. option_map (λ (next : ℕ). (next, p + k + 1)) (target_on node b))
      (byte_at there (p + k)))
      ≡ moved_path k (option_to_list (option_and_then
      (λ b. option_map (λ (next : ℕ). (next, p + 1)) (target_on node b)) (byte_at x p)))
  byte_edges-moved node p past = grind (arith, byte-moved, leads-moved)

  edges-at : (node : Node) → IfLook (LookHoldsAlike k x y) node → (p : ℕ) → x.start ≤ p → p ≤ x.end
      → edges_of there node (p + k) ≡ moved_path k (edges_of x node p)
  unfolding edges_of
  edges-at (Look look next) h p past within = grind (arith, look-moved)
  edges-at (Union alternates) h p past within = union-moved k p alternates
  edges-at (BinaryUnion a b) h p past within = refl
  edges-at (Capture next slot) h p past within = refl
  edges-at node h p past within = grind (arith, resting-edges, byte_edges-moved)

  count-moved : start_count nfa there ≡ start_count nfa x
  count-moved = grind (arith, nat_tests)

  starts-moved : starts nfa there ≡ moved_path k (starts nfa x)
  starts-moved = grind (arith, pairs-moved, count-moved)

  -- the position is one of the span or its end
  abbrev Inside : Pair → Type 0
  Inside v = (x.start ≤ v.1) × (v.1 ≤ x.end)

  inside-onward : (v w : Pair) → Inside v → In w (edges nfa x v) → Inside w
  inside-onward v w inside edge =
      let past : x.start ≤ v.1 = inside.0 in
      let on : v.1 ≤ w.1 = edges-onward nfa x v w edge in
      (omega arith, edges-within nfa x v w edge inside.1)

  span-paths : ArePathsMoved k (explored nfa x) (explored nfa y)
  span-paths = rw is_there (paths-moved {Inside = Inside} (record {
    onward = inside-onward;
    from = λ v i. (starts-from nfa x v i, starts-within nfa x v i);
    edges_are = λ v inside.
        edges-at (node_at nfa v.0) (all-at nfa (IfLook (LookHoldsAlike k x y)) tt alike v.0) v.1 inside.0 inside.1;
    starts_are = starts-moved;
    matches_are = λ m. (λ h. h, λ h. h);
  }))

-- the same span is moved by nothing

pub same-moved : (x y : Search) → IsSameSpan x y → IsSpanMoved 0 x y
same-moved x y h = grind arith

pub same-bytes : (x y : Search) → IsSameSpan x y → AreBytesMoved 0 x y
same-bytes x y h = grind arith

-- the span cut out

get-take : (xs : List ℕ) (n i : ℕ) → i < n → slice_get (take n xs) i ≡ slice_get xs i
get-take [] zero i below = refl
get-take [] (suc n) i below = refl
get-take (x ∷ xs) zero i below = absurd (omega arith)
get-take (x ∷ xs) (suc n) zero below = refl
get-take (x ∷ xs) (suc n) (suc i) below = get-take xs n i (omega arith)

get-drop : (xs : List ℕ) (n i : ℕ) → slice_get (drop n xs) i ≡ slice_get xs (i + n)
get-drop xs zero i = let at : i ≡ i + 0 = omega arith in ap (slice_get xs) at
get-drop [] (suc n) i = refl
get-drop (x ∷ xs) (suc n) i =
    let at : suc (i + n) ≡ i + suc n = omega arith in get-drop xs n i ∙ ap (slice_get (x ∷ xs)) at

pub cut-moved : (x : Search) → x.start ≤ x.end → IsSpanMoved x.start (cut_out x) x
cut-moved x ordered = record { start = omega arith; end = omega arith; anchored = refl }

pub cut-bytes : (x : Search) → AreBytesMoved x.start (cut_out x) x
cut-bytes x = grind (arith, get-take, get-drop)

-- If a match may end anywhere, what moves with the accepting paths moves with the span.
module _ {Alike : Automaton → ℕ → Search → Search → Type 0}
    (alike : (nfa : Automaton) (k : ℕ) (x y : Search) → Alike nfa k x y → HoldAlike nfa k x y)
    {A : Type 0} {Is : Tells A} {moved : ℕ → A → A} (movable : IsMovable Is moved) where
  span-to : (nfa : Automaton) (k : ℕ) (x y : Search) → Alike nfa k x y → is_utf8_empty nfa ≡ false
      → IsSpanMoved k x y → AreBytesMoved k x y → IsMovedTo nfa k x y
  span-to nfa k x y holds anywhere span bytes = grind (arith, span-paths, alike)

  pub span-moves : Moves Alike moved Is
  span-moves nfa k x y kind earliest a holds anywhere span bytes =
      movable.moves nfa k x y (span-to nfa k x y holds anywhere span bytes) kind earliest a

  pub span-reads : ReadsTheSpan Alike Is
  span-reads nfa x y kind earliest a holds anywhere same =
      let to = span-to nfa 0 x y holds anywhere (same-moved x y same) (same-bytes x y same) in
      stays movable nfa x y to kind earliest a

  pub cut-moves : CutOutMoves Alike moved Is
  cut-moves nfa x kind earliest a holds anywhere ordered =
      span-moves nfa x.start (cut_out x) x kind earliest a holds anywhere (cut-moved x ordered) (cut-bytes x)
