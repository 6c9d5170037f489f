-- Two slots lose their offsets at once.
use Rattle.std.proofs.Common.{◌≡◌, List, [], ◌∷◌, length, replicate, refl, arith, set}
use Rattle.nfa_backtrack.proofs.scan.unset.Goals as goal

both : {A : Type 0} (slots : List A) (none : A) → length slots ≡ 2
    → set (set slots 0 none) 1 none ≡ replicate (length slots) none
both (a ∷ b ∷ []) none two = refl
both slots none two = absurd (omega arith)

pub returns-then-slots-eq2 : goal.returns-then-slots-eq2
returns-then-slots-eq2 c = both c.args.slots.now _ c.if-slots-eq2.true
