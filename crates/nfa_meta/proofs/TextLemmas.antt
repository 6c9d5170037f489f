-- How the texts of a list are written.
use Rattle.std.proofs.Common.{◌≡◌, ◌∙◌, List, [], ◌∷◌, Option, None, Some, ap, map, refl, string_bytes, sym, ℕ}
use Rattle.std.specs.Prelude.{String, codes}
use Rattle.std.specs.Fmt.{comma_space, debug_items, debug_list, debug_str, ◌++?◌}
use Rattle.std.specs.declared.alloc.Global.{Global}
use Rattle.nfa_meta.specs.Texts.{only_text, regex_debug, set_debug, shown}

module _ {A B : Type 0} (f : A → B) (text : B → Option (List ℕ)) where
  -- the items of a list are written as those of the list of what a function gives for them
  items-map : (lead : List ℕ) (xs : List A) → debug_items (λ x. text (f x)) lead xs ≡ debug_items text lead (map f xs)
  items-map lead [] = refl
  items-map lead (x ∷ xs) = ap (λ rest. Some lead ++? text (f x) ++? rest) (items-map comma_space xs)

  -- so is the list
  list-map : (xs : List A) → debug_list (λ x. text (f x)) xs ≡ debug_list text (map f xs)
  list-map xs = ap (λ items. Some (91 ∷ []) ++? items ++? Some (93 ∷ [])) (items-map [] xs)

-- what `{:?}` writes of these strings
abbrev pub debug_strings : List (String Global) → Option (List ℕ)
debug_strings own = debug_list (λ s. debug_str (string_bytes s)) own

-- without an only text, the list is shown

shown-list : (texts : List (List ℕ)) → only_text texts ≡ None → shown texts ≡ debug_list debug_str texts
shown-list [] none = refl
shown-list (text ∷ []) none = cc
shown-list (text ∷ (other ∷ texts)) none = refl

debug-list : (texts : List (List ℕ)) → only_text texts ≡ None
    → regex_debug texts ≡ (Some (codes "Regex(") ++? debug_list debug_str texts ++? Some (codes ")"))
debug-list [] none = refl
debug-list (text ∷ []) none = cc
debug-list (text ∷ (other ∷ texts)) none = refl

module _ (texts : List (List ℕ)) (own : List (String Global)) (are : map string_bytes own ≡ texts) where
  listed : debug_list debug_str texts ≡ debug_strings own
  listed = ap (debug_list debug_str) (sym are) ∙ sym (list-map string_bytes debug_str own)

  pub shown_strings : only_text texts ≡ None → shown texts ≡ debug_strings own
  shown_strings none = shown-list texts none ∙ listed

  pub debug_of_strings : only_text texts ≡ None
      → regex_debug texts ≡ (Some (codes "Regex(") ++? debug_strings own ++? Some (codes ")"))
  debug_of_strings none =
      debug-list texts none ∙ ap (λ out. Some (codes "Regex(") ++? out ++? Some (codes ")")) listed

  pub set_of_strings : set_debug texts ≡ (Some (codes "RegexSet(") ++? debug_strings own ++? Some (codes ")"))
  set_of_strings = ap (λ out. Some (codes "RegexSet(") ++? out ++? Some (codes ")")) listed
