-- The texts of patterns, and how they are written.
use Rattle.std.specs.Prelude.{ℕ, List, [], ◌∷◌, Option, None, Some, codes}
use Rattle.std.specs.Fmt.{debug_list, debug_str, ◌++?◌}

-- the only text of the list, if it has one only
abbrev pub only_text : List (List ℕ) → Option (List ℕ)
only_text (text ∷ []) = Some text
only_text _ = None

-- what `{}` writes of a regex of these texts: the only text, or else the list of them
abbrev pub shown : List (List ℕ) → Option (List ℕ)
shown (text ∷ []) = Some text
shown texts = debug_list debug_str texts

-- what `{:?}` writes: the same, with a text in quotes, as an argument of `Regex`
abbrev pub regex_debug : List (List ℕ) → Option (List ℕ)
regex_debug (text ∷ []) = Some (codes "Regex(") ++? debug_str text ++? Some (codes ")")
regex_debug texts = Some (codes "Regex(") ++? debug_list debug_str texts ++? Some (codes ")")

-- the same of a set: the list of its texts, as an argument of `RegexSet`
abbrev pub set_debug : List (List ℕ) → Option (List ℕ)
set_debug texts = Some (codes "RegexSet(") ++? debug_list debug_str texts ++? Some (codes ")")
