-- What a search for the patterns of all matches adds to a set of patterns.
use Rattle.std.specs.Prelude.{◌≡◌, ◌↔◌, ◌⊎◌, ℕ, ◌<◌, Bool, true, false, List, length}
use Rattle.nfa_paths.specs.Common.{Search, Automaton, In, HoldsPattern, IsPatternOf, IsPermitted, IsPermittedEnd}

-- The set gains these patterns, but for those at or above its capacity. `met` says whether one was below it.
pub record AddsEach (hits : List ℕ) (old : List Bool) (met : Bool) (new : List Bool) : Type 0 where
  pub capacity : length new ≡ length old
  pub gained : (k : ℕ) → HoldsPattern new k ↔ (HoldsPattern old k ⊎ ((k < length old) × In k hits))
  pub some : met ≡ true → (k : ℕ) × (k < length old) × In k hits
  pub none : met ≡ false → (k : ℕ) → k < length old → In k hits → ⊥

-- the same for the patterns of matches that end at the position, if a match may end there
pub record AddsHere (nfa : Automaton) (x : Search) (at : ℕ) (hits : List ℕ) (old : List Bool) (met : Bool)
    (new : List Bool) : Type 0 where
  pub capacity : length new ≡ length old
  pub gained : (k : ℕ) → HoldsPattern new k
      ↔ (HoldsPattern old k ⊎ ((k < length old) × (IsPermittedEnd nfa x at × In k hits)))
  pub some : met ≡ true → (k : ℕ) × (k < length old) × (IsPermittedEnd nfa x at × In k hits)
  pub none : met ≡ false → (k : ℕ) → k < length old → IsPermittedEnd nfa x at × In k hits → ⊥

-- What a search that stopped has made of the set. The set keeps its capacity and its patterns. It gained only patterns
-- below its capacity, each of an accepting path with a permitted end; with `earliest` it gained none.
pub record IsPartOfOverlap (nfa : Automaton) (x : Search) (earliest : Bool) (old new : List Bool) : Type 0 where
  pub capacity : length new ≡ length old
  pub keeps : (k : ℕ) → HoldsPattern old k → HoldsPattern new k
  pub sound : (k : ℕ) → HoldsPattern new k
      → HoldsPattern old k ⊎ ((k < length old) × IsPatternOf nfa x (IsPermitted nfa x) k)
  pub none : earliest ≡ true → (k : ℕ) → HoldsPattern new k → HoldsPattern old k
