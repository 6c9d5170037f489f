-- Which lines are printed, as lines are taken one by one.
use Rattle.nfa_paths.proofs.Common.{◌≡◌, ℕ, zero, suc, ◌-◌, ◌≤◌, ◌<◌, Bool, true, false, List, [], ◌∷◌, ◌++◌, ◌⊎◌, length, All, take, refl, arith, append_assoc, common_steps, flat_map, map-append, All-head, All-tail}
use Rattle.nfa_grep.specs.Going.{kept_items}
use Rattle.nfa_grep.specs.Printed.{Item, between, grouped, has_selected, Context}

abbrev unselected : List ℕ → Item
unselected text = record { selected = false; text = text }

abbrev chosen : List ℕ → Item
chosen text = record { selected = true; text = text }

-- no line is selected among the first ones
none-among : (n : ℕ) (texts : List (List ℕ)) (later : List Item) → n ≤ length texts
    → has_selected (take n (kept_items texts ++ later)) ≡ false
none-among zero texts later within = refl
none-among (suc n) [] later within = absurd (omega arith)
none-among (suc n) (text ∷ texts) later within = none-among n texts later (omega arith)

-- a line is selected among the first ones
some-among : (n : ℕ) (texts : List (List ℕ)) (text : List ℕ) (later : List Item) → length texts < n
    → has_selected (take n (kept_items texts ++ chosen text ∷ later)) ≡ true
some-among zero texts text later within = absurd (omega arith)
some-among (suc n) [] text later within = refl
some-among (suc n) (kept ∷ texts) text later within = some-among n texts text later (omega arith)

kept-more : (texts : List (List ℕ)) (text : List ℕ) (later : List Item)
    → kept_items texts ++ unselected text ∷ later ≡ kept_items (texts ++ text ∷ []) ++ later
kept-more texts text later = simp (map-append, append_assoc)

-- none of the lines that are kept is selected
pub kept-none : (texts : List (List ℕ)) (later : List Item) → has_selected later ≡ false
    → has_selected (kept_items texts ++ later) ≡ false
kept-none [] later none = none
kept-none (text ∷ texts) later none = kept-none texts later none

module _ (context : Context) where
  begins-at : (used gap : Bool) (texts : List (List ℕ)) (text : List ℕ) (later : List Item)
      → length texts ≤ context.before
      → grouped context used gap 0 (kept_items texts ++ chosen text ∷ later)
      ≡ between context used gap
      ++ (flat_map (λ t. t) texts ++ (text ++ grouped context true false context.after later))
  unfolding grouped
  begins-at used gap [] text later within = refl
  begins-at used gap (first ∷ texts) text later within =
      grind (arith, common_steps, some-among, begins-at true false texts text later)

  -- the lines that are kept are printed with a line that is selected
  pub begins : (used gap : Bool) (left : ℕ) (texts : List (List ℕ)) (text : List ℕ) (later : List Item)
      → length texts ≤ context.before → (left ≡ 0) ⊎ ((texts ≡ []) × (used ≡ true) × (gap ≡ false))
      → grouped context used gap left (kept_items texts ++ chosen text ∷ later)
      ≡ between context used gap
      ++ (flat_map (λ t. t) texts ++ (text ++ grouped context true false context.after later))
  unfolding grouped
  begins used gap left texts text later within order = grind (arith, common_steps, order, begins-at)

  -- a line is printed because of one before it
  pub goes-on : (used gap : Bool) (left : ℕ) (texts : List (List ℕ)) (text : List ℕ) (later : List Item)
      → (left ≡ 0) ⊎ ((texts ≡ []) × (used ≡ true) × (gap ≡ false)) → 0 < left
      → grouped context used gap left (kept_items texts ++ unselected text ∷ later)
      ≡ text ++ grouped context used gap (left - 1) (kept_items texts ++ later)
  unfolding grouped
  goes-on used gap left texts text later order some = grind (arith, common_steps, order)

  passes : (used gap : Bool) (item : Item) (items later : List Item)
      → All (λ item. item.selected ≡ false) (item ∷ items) → context.before ≡ 0
      → grouped context used gap 0 (item ∷ items ++ later) ≡ grouped context used true 0 later
  unfolding grouped
  passes used gap item [] later none zero-is = grind (arith, none 0 item, zero-is)
  passes used gap item (next ∷ items) later none zero-is =
      let here : item.selected ≡ false = All-head (λ item. item.selected ≡ false) item (next ∷ items) none in
      let far : has_selected (take context.before (next ∷ items ++ later)) ≡ false = rw zero-is refl in
      rw (here, far) (passes used true next items later
      (All-tail (λ item. item.selected ≡ false) item (next ∷ items) none) zero-is)

  -- lines that are not selected are not printed, and none is kept
  pub passes-all : (used gap : Bool) (left : ℕ) (texts : List (List ℕ)) (items later : List Item)
      → left ≡ 0 → length texts ≤ context.before → context.before ≡ 0
      → All (λ item. item.selected ≡ false) items → 0 < length items
      → grouped context used gap left (kept_items texts ++ (items ++ later))
      ≡ grouped context used true left (kept_items texts ++ later)
  passes-all used gap left texts [] later none within zero-is all some = absurd (omega arith)
  passes-all used gap left [] (item ∷ items) later none within zero-is all some =
      rw none (passes used gap item items later all zero-is)
  passes-all used gap left (first ∷ texts) (item ∷ items) later none within zero-is all some =
      absurd (omega (arith, within, zero-is))

  -- the first line that is kept is not printed, if none of the next ones is selected
  pub drops : (used gap : Bool) (left : ℕ) (all : List (List ℕ)) (first : List ℕ) (texts : List (List ℕ))
      (text : List ℕ) (later : List Item) → left ≡ 0 → all ≡ first ∷ texts → context.before ≤ length all
      → grouped context used gap left (kept_items all ++ unselected text ∷ later)
      ≡ grouped context used true left (kept_items texts ++ unselected text ∷ later)
  unfolding grouped
  drops used gap left all first texts text later none is enough = grind (arith, common_steps, kept-more, none-among)

  all-none : (n : ℕ) (items : List Item) → has_selected items ≡ false → has_selected (take n items) ≡ false
  all-none zero items none = refl
  all-none (suc n) [] none = refl
  all-none (suc n) (item ∷ items) none = grind (arith, none, all-none n items)

  -- nothing is printed of lines of which none is selected
  pub none-printed : (used gap : Bool) (items : List Item) → has_selected items ≡ false
      → grouped context used gap 0 items ≡ []
  unfolding grouped
  none-printed used gap [] none = refl
  none-printed used gap (item ∷ items) none = grind (arith, none, all-none, none-printed used true items)

-- what was appended before a line that is selected
pub begun : (before middle out line kept text rest : List ℕ) → middle ≡ before ++ line → out ≡ middle ++ kept
    → before ++ (line ++ (kept ++ (text ++ rest))) ≡ out ++ (text ++ rest)
begun before middle out line kept text rest a b = grind (arith, common_steps)

-- no lines
pub passes-none : (items later : List Item) → length items ≡ 0 → items ++ later ≡ later
passes-none items later none = grind (arith, common_steps)
