-- The work that is left in a depth-first search, and the answer that it leads to.
use Rattle.std.specs.Prelude.{◌≡◌, ℕ, suc, ◌+◌, ◌≤◌, ◌⊎◌, ◌↔◌, Bool, List, [], ◌∷◌, Option, None, Some, slice_set, map, ◌++◌, length}
use Rattle.std.specs.List.{last_or}
use Rattle.std.specs.Option.{option_map}
use Rattle.nfa_paths.specs.Graphs.{Pair, In, Space, IsFirst}

-- slots, each with a position or none
abbrev pub Slots : Type 0
Slots = List (Option ℕ)

-- the result of a search: the pair that it ends with, and the slots there
abbrev pub Hit : Type 0
Hit = Option (Pair × Slots)

-- an item of work: a pair to explore, a slot to restore, or slots to load
pub data Task : Type 0 where
  Explore : Pair → Task
  Restore : ℕ → Option ℕ → Task
  Load : Slots → Task

-- the slots after a pair wrote its position
abbrev pub write : Option ℕ → ℕ → Slots → Slots
write None at slots = slots
write (Some k) at slots = slice_set slots k (Some at)

module _ (capture : Pair → Option ℕ) where
  -- the slots after the captures of the pairs, in order
  abbrev pub apply : List Pair → Slots → Slots
  apply [] slots = slots
  apply (v ∷ p) slots = apply p (write (capture v) v.1 slots)

  -- the result along a list: its last pair, and the slots there
  abbrev pub found : List Pair → Slots → Hit
  found p slots = option_map (λ e. (e, apply p slots)) (last_or None p)

-- the pairs of a front as the work of the next position, before the work that waits
unfoldable pub next_tasks : (Pair → List Pair) → List (Pair × Slots) → List Task → List Task
next_tasks edges [] waiting = waiting
next_tasks edges (a ∷ front) waiting = Load a.1 ∷ (map Explore (edges a.0) ++ next_tasks edges front waiting)

-- the starts, each followed by the slots to load after it
unfoldable pub seeds : Slots → List Pair → List Task
seeds slots [] = []
seeds slots (s ∷ starts) = Explore s ∷ Load slots ∷ seeds slots starts

module _ (space : Space) (target : Pair → Bool) where
  -- The answer is that of the first explored pair from which a path is left. If there is none, it is `otherwise`. A
  -- turn tries to mark one pair. `left` turns are left, at least as many as the pairs of the answer's path.
  unfoldable pub ExploresTo : ℕ → Hit → List Pair → List Task → Slots → Hit → Type 0
  ExploresTo left otherwise marks [] slots g = g ≡ otherwise
  ExploresTo left otherwise marks (Explore v ∷ rest) slots g =
      ((p : List Pair) × IsFirst space.edges target marks v (Some p) × (g ≡ found space.capture p slots)
      × (length p ≤ left))
      ⊎ (IsFirst space.edges target marks v None × ExploresTo left otherwise marks rest slots g)
  ExploresTo left otherwise marks (Restore k old ∷ rest) slots g =
      ExploresTo left otherwise marks rest (slice_set slots k old) g
  ExploresTo left otherwise marks (Load old ∷ rest) slots g = ExploresTo left otherwise marks rest old g

  -- the same after the pairs of a front, each with its slots, which come first
  unfoldable pub ExploresAfter : ℕ → List (Pair × Slots) → Hit → List Pair → List Task → Slots → Hit → Type 0
  ExploresAfter left [] otherwise marks work slots g = ExploresTo left otherwise marks work slots g
  ExploresAfter left (a ∷ front) otherwise marks work slots g =
      ((p : List Pair) × IsFirst space.edges target [] a.0 (Some p) × (g ≡ found space.capture p a.1)
      × (length p ≤ suc left))
      ⊎ (IsFirst space.edges target [] a.0 None × ExploresAfter left front otherwise marks work slots g)

  -- A search in progress, in the form of a loop invariant. Some list holds exactly the pairs that are `Seen`. Any
  -- answer from here on meets `goal`, with the number of turns at the end of the search. `spent` turns were taken.
  pub record Searching (goal : Hit → ℕ → Type 0) (Seen : Pair → Type 0) (spent : ℕ) (front : List (Pair × Slots))
      (otherwise : Hit) (work : List Task) (slots : Slots) : Type 0 where
    pub marks : List Pair
    pub agrees : (x : Pair) → In x marks ↔ Seen x
    pub leads : (g : Hit) (left total : ℕ) → spent + left ≡ total
        → ExploresAfter left front otherwise marks work slots g → goal g total
