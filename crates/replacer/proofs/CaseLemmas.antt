-- Bytes whose letters stay as they are.
use Rattle.std.proofs.Common.{◌≡◌, ℕ, List, [], ◌∷◌, ap, refl}
use Rattle.replacer.specs.Cased.{cased, casing_after, uncased}
use Rattle.replacer.specs.declared.case.Casing.{Casing}

uncased-bytes : (bytes : List ℕ) → cased uncased bytes ≡ bytes
uncased-bytes [] = refl
uncased-bytes (byte ∷ bytes) = ap (λ (bs : List ℕ). byte ∷ bs) (uncased-bytes bytes)

uncased-after : (bytes : List ℕ) → casing_after uncased bytes ≡ uncased
uncased-after [] = refl
uncased-after (byte ∷ bytes) = uncased-after bytes

pub cased_as_is : (casing : Casing) (bytes : List ℕ) → casing ≡ uncased → cased casing bytes ≡ bytes
cased_as_is casing bytes is = rw is (uncased-bytes bytes)

pub casing_as_is : (casing : Casing) (bytes : List ℕ) → casing ≡ uncased → casing ≡ casing_after casing bytes
casing_as_is casing bytes is = rw (is, uncased-after bytes) refl
