-- Templates are read one after the other, and so are the pieces of a filling written.
use Rattle.std.proofs.Common.{◌≡◌, ◌∙◌, ◌<◌, ◌+◌, ℕ, List, [], ◌∷◌, ◌++◌, inl, inr, ap, append_assoc, arith, drop, get_or, length, refl, subst, sym}
use Rattle.std.proofs.lemmas.Bool.{cases_lt}
use Rattle.std.proofs.lemmas.List.{at_drop_more, get_or_append_left, get_or_push}
use Rattle.std.specs.List.{AllZip}
use Rattle.nfa_compiler.specs.Common.{Captured}
use Rattle.nfa_meta.specs.Templates.{filled}
use Rattle.replacer.specs.Cased.{after_escape, cased, casing_after}
use Rattle.replacer.specs.Fillings.{Groups, IsPiece, written}
use Rattle.replacer.specs.Stretches.{Stretched}
use Rattle.replacer.specs.declared.case.Casing.{Casing}
use Rattle.replacer.specs.declared.filling.Piece.{Piece}

-- the pieces so far are those of the stretches at their places, and so are one more
pub fillings_more : (groups : Groups) (ts : List (List Stretched)) (fs : List (List Piece)) (n : ℕ)
    (pieces : List Piece) → length fs ≡ n
    → ((k : ℕ) → k < n → AllZip (IsPiece groups k) (get_or ts k []) (get_or fs k []))
    → AllZip (IsPiece groups n) (get_or ts n []) pieces → (k : ℕ) → k < n + 1
    → AllZip (IsPiece groups k) (get_or ts k []) (get_or (fs ++ (pieces ∷ [])) k [])
fillings_more groups ts fs n pieces count each one k within =
    elim (cases_lt k n) [
      | inl before ↦
          subst (λ (ps : List Piece). AllZip (IsPiece groups k) (get_or ts k []) ps)
          (sym (get_or_append_left fs (pieces ∷ []) [] k (omega (arith, count, before)))) (each k before)
      | inr after ↦
          let last : n ≡ k = omega (arith, within, after) in
          subst (λ (j : ℕ). AllZip (IsPiece groups j) (get_or ts j []) (get_or (fs ++ (pieces ∷ [])) j [])) last
          (subst (λ (ps : List Piece). AllZip (IsPiece groups n) (get_or ts n []) ps)
          (sym (get_or_push fs pieces [] n count)) one)
    ]

-- one more piece was written, in its case
pub pieces_more : (haystack : List ℕ) (c : Captured) (pieces : List Piece) (i : ℕ) (piece : Piece)
    (casing now next : Casing) (out text all : List ℕ) → i < length pieces → piece ≡ get_or pieces i piece
    → now ≡ after_escape casing piece.escape
    → text ≡ cased now (filled haystack c piece.template.parts.items)
    → next ≡ casing_after now (filled haystack c piece.template.parts.items)
    → out ++ written haystack c casing (drop i pieces) ≡ all
    → (out ++ text) ++ written haystack c next (drop (i + 1) pieces) ≡ all
pieces_more haystack c pieces i piece casing now next out text all within is now-is text-is next-is going =
    let rest = written haystack c next (drop (i + 1) pieces) in
    let first : written haystack c casing (piece ∷ drop (i + 1) pieces) ≡ text ++ rest =
    rw (text-is, next-is, now-is) refl in
    let split : written haystack c casing (drop i pieces) ≡ text ++ rest =
    at_drop_more (written haystack c casing) pieces i piece within
    ∙ ap (λ (p : Piece). written haystack c casing (p ∷ drop (i + 1) pieces)) (sym is)
    ∙ first in
    append_assoc out text rest ∙ ap (λ (l : List ℕ). out ++ l) (sym split) ∙ going
