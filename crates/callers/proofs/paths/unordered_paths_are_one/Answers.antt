-- The law, of these paths.
use Rattle.std.proofs.Common.{inl, inr}
use Rattle.callers.proofs.paths.unordered_paths_are_one.Goals as goal

pub returns : goal.returns
returns c = λ m n p q to_m is_m to_n is_n not_before not_after.
    elim (c.accepting_paths_are_ordered.ensures.total _ _ m n p q to_m is_m to_n is_n) [
      | inl same ↦ same
      | inr apart ↦ elim apart [ inl before ↦ absurd (not_before before) | inr after ↦ absurd (not_after after) ]
    ]
