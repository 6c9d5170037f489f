-- Two lists that go on together, by one item each.
use Rattle.std.proofs.Common.{◌<◌, ◌+◌, ℕ, List, [], ◌∷◌, ◌++◌, get_or, length, take, sym, subst}
use Rattle.std.proofs.lemmas.List.{take_more}
use Rattle.std.specs.List.{AllZip}

-- two lists go together, and so do one more item of both
pub zip_push : {A B : Type 0} (R : A → B → Type 0) (xs : List A) (ys : List B) (x : A) (y : B) → AllZip R xs ys
    → R x y → AllZip R (xs ++ (x ∷ [])) (ys ++ (y ∷ []))
zip_push R [] [] x y zip one = (one, tt)
zip_push R [] (z ∷ ys) x y zip one = absurd zip
zip_push R (a ∷ xs) [] x y zip one = absurd zip
zip_push R (a ∷ xs) (z ∷ ys) x y zip one = (zip.0, zip_push R xs ys x y zip.1 one)

-- the first items of one list go with those of another, and so do one more of both
pub zip_more : {A B : Type 0} (R : A → B → Type 0) (xs : List A) (i : ℕ) (d : A) (ys : List B) (y : B)
    → i < length xs → AllZip R (take i xs) ys → R (get_or xs i d) y → AllZip R (take (i + 1) xs) (ys ++ (y ∷ []))
zip_more R xs i d ys y within zip one =
    subst (λ firsts. AllZip R firsts (ys ++ (y ∷ []))) (sym (take_more xs i d within))
    (zip_push R (take i xs) ys (get_or xs i d) y zip one)
