-- One byte occurs where it is.
use Rattle.std.proofs.lemmas.Bool.{eqb-true}
use Rattle.memchr.specs.Find.{FindsNeedle, IsFirstByte, OccursAt, Passes, is_byte}
use Rattle.nfa_paths.proofs.Common.{◌≡◌, ◌∙◌, ◌==◌, ℕ, zero, suc, ◌+◌, ◌<◌, ◌≤◌, List, [], ◌∷◌, Option, None, Some, true, arith, ap, length}
use Rattle.std.specs.Prelude.{slice_index}

module _ (part : List ℕ) (b : ℕ) where
  occurs-byte : (k : ℕ) → k < length part → Passes (is_byte b) part k → OccursAt part (b ∷ []) k
  occurs-byte k less is = record { fits = omega arith; reads = each }
    where
      each : (j : ℕ) → j < length (b ∷ []) → slice_index part (k + j) ≡ slice_index (b ∷ []) j
      each zero less =
          let e : k + zero ≡ k = omega arith in ap (slice_index part) e ∙ eqb-true (slice_index part k) b is
      each (suc j) less = absurd (omega arith)

  same-byte : (a : ℕ) → a ≡ b → (a == b) ≡ true
  same-byte a is = grind arith

  byte-occurs : (k : ℕ) → OccursAt part (b ∷ []) k → Passes (is_byte b) part k
  byte-occurs k h =
      let e : k ≡ k + zero = omega arith in
      same-byte (slice_index part k) (ap (slice_index part) e ∙ h.reads zero (omega arith))

  -- so a search for the byte is one for the needle that it is
  pub finds-byte : (r : Option ℕ) → IsFirstByte (is_byte b) part r → FindsNeedle part (b ∷ []) 0 r
  finds-byte None none = λ k low less occurs.
      let fits : k + 1 ≤ length part = occurs.fits in none k low (omega arith) (byte-occurs k occurs)
  finds-byte (Some k) found =
      let high : k < length part = found.0.high in (
        record {
          low = found.0.low;
          high = omega arith;
          before = λ i low less occurs.
              found.0.before i low less (byte-occurs i occurs);
        },
        occurs-byte k high found.1,
      )

-- the same for bytes that are only one
pub finds-one : (part bytes : List ℕ) (r : Option ℕ) → length bytes ≡ 1
    → IsFirstByte (is_byte (slice_index bytes 0)) part r → FindsNeedle part bytes 0 r
finds-one part [] r one h = absurd (omega (arith, one))
finds-one part (b ∷ []) r one h = finds-byte part b r h
finds-one part (b ∷ (c ∷ more)) r one h = absurd (omega (arith, one))
