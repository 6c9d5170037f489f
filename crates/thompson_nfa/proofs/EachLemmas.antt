-- A list whose elements are replaced by their images, one after another.
use Rattle.std.proofs.Common.{◌≡◌, ℕ, ◌+◌, ◌<◌, ◌≤◌, ◌∙◌, ◌∷◌, [], List, length, map, take, drop, ◌++◌, ap, ap₂, sym, refl, arith, get_or, set}
use Rattle.std.proofs.lemmas.List.{take_more, take_more_set, take_all, drop_more, drop-drop, drop-set-lt, map-append, length-set}

-- the elements below i are the images of the old ones, and the others are the old ones
pub record MapsSoFar {X : Type 0} (f : X → X) (old new : List X) (i : ℕ) : Type 0 where
  pub done : take i new ≡ map f (take i old)
  pub rest : drop i new ≡ drop i old
  pub count : length new ≡ length old

module _ {X : Type 0} (f : X → X) (old : List X) where
  pub maps-none : MapsSoFar f old old 0
  maps-none = record { done = refl; rest = refl; count = refl }

  -- the element at i is replaced by its image
  pub maps-next : (new : List X) (i : ℕ) (y d : X) → i < length new → MapsSoFar f old new i → y ≡ f (get_or new i d)
      → MapsSoFar f old (set new i y) (i + 1)
  maps-next new i y d less so_far is =
      let within : i < length old = omega (arith, so_far.count) in
      let here : get_or new i d ≡ get_or old i d =
      cc (drop_more new i d less, drop_more old i d within, so_far.rest) in
      record {
        done =
            take_more_set new i y less
            ∙ ap₂ (λ l x. l ++ x ∷ []) so_far.done (is ∙ ap f here)
            ∙ sym (map-append f (take i old) (get_or old i d ∷ []))
            ∙ ap (map f) (sym (take_more old i d within));
        rest =
            drop-set-lt (i + 1) new i y (omega arith)
            ∙ sym (drop-drop 1 i new) ∙ ap (drop 1) so_far.rest ∙ drop-drop 1 i old;
        count = length-set new i y ∙ so_far.count;
      }

  pub maps-all : (new : List X) (i : ℕ) → length new ≤ i → MapsSoFar f old new i → new ≡ map f old
  maps-all new i whole so_far =
      sym (take_all i new whole) ∙ so_far.done ∙ ap (map f) (take_all i old (omega (arith, so_far.count)))
