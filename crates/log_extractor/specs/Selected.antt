-- Which rows are taken, and which of their columns are shown.
use Rattle.std.specs.Prelude.{ℕ, ◌&&◌, Bool, not, true, if◌then◌else◌, List, [], ◌∷◌, map, bytes_eq, Option, None, Some, option_and_then, string_bytes}
use Rattle.log_extractor.specs.Fields.{field_text}
use Rattle.log_extractor.specs.Several.{LabelledPattern, field_at, row_by_first, shown_names}
use Rattle.log_extractor.specs.declared.selection.Chosen.{Chosen}
use Rattle.log_extractor.specs.declared.selection.Condition.{Condition}
use Rattle.log_extractor.specs.declared.selection.Selection.{Selection}

-- whether the field of the column has this text, or with `!=` another one; a field that is none has an empty text
abbrev pub holds : List (Option (List ℕ)) → Condition → Bool
holds fields condition =
    if condition.equal then bytes_eq (field_text (field_at fields condition.column)) condition.text.now
    else not (bytes_eq (field_text (field_at fields condition.column)) condition.text.now)

-- whether all conditions hold of these fields
abbrev pub all_hold : List (Option (List ℕ)) → List Condition → Bool
all_hold fields [] = true
all_hold fields (condition ∷ conditions) = holds fields condition && all_hold fields conditions

-- the fields that are shown: those of the chosen columns, in their order, or all
abbrev pub chosen_fields : Option Chosen → List (Option (List ℕ)) → List (Option (List ℕ))
chosen_fields None fields = fields
chosen_fields (Some chosen) fields = map (field_at fields) chosen.columns.items

-- the names of the columns that are shown
abbrev pub chosen_names : Option Chosen → List (List ℕ) → List (List ℕ)
chosen_names None names = names
chosen_names (Some chosen) names = map string_bytes chosen.names.items

-- what is shown of these fields, if they are taken
abbrev pub selected : Selection → List (Option (List ℕ)) → Option (List (Option (List ℕ)))
selected selection fields =
    if all_hold fields selection.conditions.items then Some (chosen_fields selection.chosen fields) else None

-- the names of the columns that are shown of rows by these patterns
abbrev pub selected_names : Selection → List LabelledPattern → List (List ℕ)
selected_names selection ps = chosen_names selection.chosen (shown_names ps)

-- The row that is shown of a line: of that by the first pattern that matches it, if all conditions hold of it.
abbrev pub row_in : Selection → List LabelledPattern → List ℕ → Option (List (Option (List ℕ)))
row_in selection ps line = option_and_then (selected selection) (row_by_first ps line)
