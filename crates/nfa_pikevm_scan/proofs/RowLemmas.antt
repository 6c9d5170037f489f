-- Rows and marks in memory, the room of the threads, and rows that are copied slot by slot.
use Rattle.std.proofs.Math.Nat.{mul-le-mul_right}
use Rattle.nfa_pikevm_scan.proofs.Common.{Active, All, All-head, All-tail, Bool, List, Marks, None, Option, Parts, Slots, [], ap, arith, drop, drop-append-le, drop-drop, drop-take, false, get_or, get_or-map, items_of, length, length-drop, length-map, length-replicate, length-set, length-take-le, map-set, marks_of, nat_tests, refl, replicate, set, suc, sym, take, take-append-le, take-take, take_more_set, true, zero, ℕ, ◌*◌, ◌++◌, ◌+◌, ◌<◌, ◌∙◌, ◌∷◌, ◌≡◌, ◌≤◌, AddsStart, All-push, AreAt, Automaton, HaveRows, KeepsThreads, PassesOver, Search, Some, Starts, Threads, blank, cases_lt, inl, inr, is_some, le-ltb, length-append, lt-ltb, with_start}

-- a state that is pushed has the row that was written after those of the others
pub items_of-push : (width : ℕ) (states : List ℕ) (s n : ℕ) (cells after row : Slots) → n ≡ length states * width
    → length row ≡ width → n ≤ length cells → take (n + width) after ≡ take n cells ++ row
    → items_of width (states ++ s ∷ []) after ≡ items_of width states cells ++ (s, row) ∷ []
items_of-push width [] s n cells after row is w fits e =
    let none : n ≡ 0 = omega arith in
    let sum : n + width ≡ width = omega arith in
    ap (λ r. (s, r) ∷ []) (sym (ap (λ k. take k after) sum) ∙ e ∙ ap (λ k. take k cells ++ row) none)
items_of-push width (t ∷ states) s n cells after row is w fits e =
    let m : ℕ = length states * width in
    let more : n ≡ width + m = omega (arith, is) in
    let below : width ≤ length (take n cells) = rw (length-take-le n cells fits) (omega arith) in
    let head : take width after ≡ take width cells =
    sym (take-take width (n + width) after (omega arith)) ∙ ap (take width) e
    ∙ take-append-le width (take n cells) row below ∙ take-take width n cells (omega arith) in
    let both : n + width ≡ width + (m + width) = omega arith in
    let rest : take (m + width) (drop width after) ≡ take m (drop width cells) ++ row =
    sym (drop-take width (m + width) after) ∙ ap (λ k. drop width (take k after)) (sym both) ∙ ap (drop width) e
    ∙ drop-append-le width (take n cells) row below ∙ ap (λ k. drop width (take k cells) ++ row) more
    ∙ ap (λ l. l ++ row) (drop-take width m cells) in
    let fits_rest : m ≤ length (drop width cells) = omega (arith, length-drop width cells) in
    ap (λ r. (t, r) ∷ items_of width (states ++ s ∷ []) (drop width after)) head
    ∙ ap (λ l. (t, take width cells) ∷ l) (items_of-push width states s m (drop width cells) (drop width after) row refl
    w fits_rest rest)

pub length-items_of : (width : ℕ) (states : List ℕ) (cells : Slots)
    → length (items_of width states cells) ≡ length states
length-items_of width [] cells = refl
length-items_of width (s ∷ states) cells = ap suc (length-items_of width states (drop width cells))

-- the items from the i-th on
pub drop-items_of : (width i : ℕ) (states : List ℕ) (cells : Slots)
    → drop i (items_of width states cells) ≡ items_of width (drop i states) (drop (i * width) cells)
drop-items_of width zero states cells = grind arith
drop-items_of width (suc i) [] cells = refl
drop-items_of width (suc i) (s ∷ states) cells =
    grind (arith, drop-items_of width i states (drop width cells), drop-drop (i * width) width cells)

pub marks_of-set : (newest : ℕ) (stamps : List ℕ) (k : ℕ)
    → marks_of newest (set stamps k newest) ≡ set (marks_of newest stamps) k true
marks_of-set newest stamps k = grind (arith, nat_tests, map-set)

-- a newer stamp marks nothing
pub marks_of-newer : (newest : ℕ) (stamps : List ℕ) → All (λ stamp. stamp ≤ newest) stamps
    → marks_of (newest + 1) stamps ≡ replicate (length stamps) false
marks_of-newer newest [] older = refl
marks_of-newer newest (s ∷ stamps) older = grind (
  arith,
  nat_tests,
  All-head (λ stamp. stamp ≤ newest) s stamps older,
  marks_of-newer newest stamps (All-tail (λ stamp. stamp ≤ newest) s stamps older),
)

pub marks_of-zeros : (n : ℕ) → marks_of 1 (replicate n 0) ≡ replicate n false
marks_of-zeros zero = refl
marks_of-zeros (suc n) = ap (λ l. false ∷ l) (marks_of-zeros n)

-- marks as a value
abbrev pub met_of : List Bool → ℕ → Marks
met_of bits turns = record { bits = bits; turns = turns }

pub cleared-newer : (newest turns : ℕ) (stamps : List ℕ) → All (λ stamp. stamp ≤ newest) stamps
    → met_of (marks_of (newest + 1) stamps) turns ≡ met_of (replicate (length (marks_of newest stamps)) false) turns
cleared-newer newest turns stamps older = grind (arith, marks_of-newer, length-map)

pub cleared-zeros : (newest turns n : ℕ) (old stamps : List ℕ) → stamps ≡ replicate n 0 → n ≡ length old
    → met_of (marks_of 1 stamps) turns ≡ met_of (replicate (length (marks_of newest old)) false) turns
cleared-zeros newest turns n old stamps zeros len = grind (arith, marks_of-zeros, length-map)

pub marks_of-other : (newest : ℕ) (stamps : List ℕ) (k v : ℕ) (b : Bool) → k < length stamps → v ≡ get_or stamps k v
    → ¬ (v ≡ newest) → get_or (marks_of newest stamps) k b ≡ false
marks_of-other newest stamps k v b h is other = grind (arith, nat_tests, get_or-map)

-- the fields as a value
abbrev pub active_of : ℕ → List ℕ → Slots → ℕ → Active
active_of width kept cells len = record {
  items = items_of width (take len kept) cells;
  width = width;
  capacity =
      length kept;
  cells = length cells;
}

-- a row with no slot set
pub length-blank : (width : ℕ) → length {A = Option ℕ} (replicate width None) ≡ width
length-blank width = length-replicate width None

-- a state that is pushed onto the parts, which are seen as `a`
module _ (p : Parts) {a : Active} (view : active_of p.width p.kept.items p.rows.items p.len ≡ a)
    (fits : (p.len ≤ length p.kept.items) × (length p.kept.items * p.width ≤ length p.rows.items))
    (room : length a.items < a.capacity) where
  pub pushed-len : p.len < length p.kept.items
  pushed-len = grind (arith, length-items_of, length-take-le)

  pub pushed-fits : p.len * p.width + p.width ≤ length p.rows.items
  pushed-fits = grind (arith, pushed-len, mul-le-mul_right)

  module _ (sid : ℕ) {cells after : Slots} (same : cells ≡ after) (long : length after ≡ length p.rows.items) where
    pub pushed-view : {row given : Slots} → length row ≡ p.width
        → take (p.len * p.width + p.width) after ≡ take (p.len * p.width) p.rows.items ++ row → row ≡ given
        → active_of p.width (set p.kept.items p.len sid) cells (p.len + 1)
        ≡ record a { items = a.items ++ (sid, given) ∷ [] }
    pushed-view w e is =
        grind (arith, take_more_set, pushed-len, length-take-le, pushed-fits, items_of-push, length-set)

    pub pushed-inside : (p.len + 1 ≤ length (set p.kept.items p.len sid))
        × (length (set p.kept.items p.len sid) * p.width ≤ length cells)
    pushed-inside = let l = pushed-len in (rw length-set (omega arith), rw (length-set, same, long) fits.1)

-- two slots are copied at once
pub copied-two : (to from : Slots) (x y : Option ℕ) → length to ≡ length from → length from ≡ 2 → x ≡ get_or from 0 x
    → y ≡ get_or from 1 y → set (set to 0 x) 1 y ≡ from
copied-two (a ∷ b ∷ []) (c ∷ d ∷ []) x y size two is also = cc (is, also)
copied-two to from x y size two is also = absurd (omega arith)

-- and four
pub copied-four : (to from : Slots) (w x y z : Option ℕ) → length to ≡ length from → length from ≡ 4
    → w ≡ get_or from 0 w → x ≡ get_or from 1 x → y ≡ get_or from 2 y → z ≡ get_or from 3 z
    → set (set (set (set to 0 w) 1 x) 2 y) 3 z ≡ from
copied-four (a ∷ b ∷ c ∷ d ∷ []) (e ∷ f ∷ g ∷ h ∷ []) w x y z size four is-w is-x is-y is-z =
    cc (is-w, is-x, is-y, is-z)
copied-four to from w x y z size four is-w is-x is-y is-z = absurd (omega arith)

-- one more slot is copied, of those that are left
pub handed-more : (row : Slots) (i left : ℕ) (x : Option ℕ) → i < length row → x ≡ get_or row i x
    → set (take i row ++ replicate (suc left) None) i x ≡ take (suc i) row ++ replicate left None
handed-more [] i left x inside is = absurd (omega arith)
handed-more (o ∷ row) zero left x inside is = ap (λ y. y ∷ replicate left None) is
handed-more (o ∷ row) (suc i) left x inside is = ap (λ l. o ∷ l) (handed-more row i left x (omega arith) is)

-- no state is there when a scan begins
pub AreAt-none : (nfa : Automaton) (x : Search) (turns : ℕ) → AreAt nfa x x.start turns turns []
AreAt-none nfa x turns = grind arith

-- threads that keep their sizes, from one moment to a later one
pub KeepsThreads-none : (t : Threads) → KeepsThreads t t
KeepsThreads-none t = record { width = refl; sizes = refl; scans = refl }

pub KeepsThreads-then : {a b c : Threads} → KeepsThreads a b → KeepsThreads b c → KeepsThreads a c
KeepsThreads-then k l = grind arith

-- they keep their room
pub HaveRows-kept : {nfa : Automaton} {width : ℕ} {a b : Threads} → HaveRows nfa width a → KeepsThreads a b
    → HaveRows nfa width b
HaveRows-kept r k = grind arith

-- a list without items
pub none_of : {A : Type 0} (xs : List A) → length xs ≡ 0 → xs ≡ []
none_of [] e = refl
none_of (x ∷ xs) e = absurd (omega arith)

module _ (begins : Starts) (width at : ℕ) (items : List (ℕ × Slots)) where
  -- with the start, if it may still join, each state is below `states`
  pub below-joined : {states : ℕ} → begins.state < states → All (λ i. i.0 < states) items
      → All (λ i. i.0 < states) (with_start begins width at items)
  below-joined {states} below all =
      elim (cases_lt at begins.limit) [
        | inl less ↦ rw (lt-ltb at begins.limit less)
            (All-push (λ (i : ℕ × Slots). i.0 < states) items (begins.state, blank width) all below)
        | inr past ↦ rw (le-ltb at begins.limit past) all
      ]

  -- they are no more than one more
  pub few-joined : length (with_start begins width at items) ≤ length items + 1
  few-joined = grind (arith, length-append)

  -- if there is none, there was none, and no start is left
  pub over-joined : with_start begins width at items ≡ [] → begins.limit ≤ at
  over-joined none =
      elim (cases_lt at begins.limit) [
        | inl less ↦
            let more : items ++ (begins.state, blank width) ∷ [] ≡ [] = rw (lt-ltb at begins.limit less) at none in
            absurd (omega (
              arith,
              ap (λ (xs : List (ℕ × Slots)). length xs) more,
              length-append items ((begins.state, blank width) ∷ []),
            ))
        | inr past ↦ past
      ]

-- if starts are skipped, at most one joins, too
pub few-joins : {table : List Bool} {x : Search} {begins : Starts} {limit width at : ℕ} {items : List (ℕ × Slots)}
    {to : ℕ} {kept : List (ℕ × Slots)} → AddsStart table x begins limit width at items to kept
    → length kept ≤ length items + 1
few-joins j = grind (arith, length-append)

-- if no state is there, the start joins at the first position that may not be skipped
pub AddsStart-passes : {table : List Bool} {x : Search} {begins : Starts} {limit at to : ℕ} (width : ℕ)
    → PassesOver table x at begins.stop to → begins.stop ≤ x.end → begins.stop < limit → at < limit
    → AddsStart table x begins limit width at [] to ((begins.state, blank width) ∷ [])
AddsStart-passes width p inside before some = grind arith

-- an option with nothing in it
pub is_none_of : {A : Type 0} (o : Option A) → is_some o ≡ false → o ≡ None
is_none_of None e = refl
is_none_of (Some a) e = cc
