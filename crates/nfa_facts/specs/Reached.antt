-- The states that a walk over an NFA reaches if it may not read one of the bytes.
use Rattle.std.specs.Prelude.{◌≡◌, ℕ, ◌<◌, ◌++◌, All, Bool, List, Option, Some, false, length, slice_index_or, true}
use Rattle.nfa_paths.specs.Common.{In, Node, target_on}
use Rattle.nfa_scan_core.specs.FirstBytes.{epsilon_targets}

-- states that were reached, of this number of states
pub record Reach : Type 0 where
  pub room : ℕ
  pub states : List ℕ

-- each state that is marked is listed, and each listed one has a mark
pub record AreMarked (marks : List Bool) (states : List ℕ) : Type 0 where
  pub listed : (s : ℕ) → slice_index_or marks s false ≡ true → In s states
  pub below : (s : ℕ) → In s states → s < length marks

-- the new list is the old one, and maybe more
pub record AddsTo (old new : List ℕ) : Type 0 where
  pub more : List ℕ
  pub kept : new ≡ old ++ more

-- the list has the target of the state on each byte, but this one if there is one
pub record HasOtherTargets (states : List ℕ) (byte : Option ℕ) (node : Node) : Type 0 where
  pub others : (b t : ℕ) → ¬ (Some b ≡ byte) → target_on node b ≡ Some t → In t states

-- and the states that it leads to without a byte
pub record HasTargets (states : List ℕ) (byte : Option ℕ) (node : Node) : Type 0 where
  pub without : All (λ s. In s states) (epsilon_targets node)
  pub over : HasOtherTargets states byte node
