-- The rows of lines by several patterns.
use Rattle.std.specs.Prelude.{◌≡◌, ℕ, ◌+◌, Bool, if◌then◌else◌, List, [], ◌∷◌, ◌++◌, codes, drop, length, map, nat_lt, Option, None, Some, option_map, slice_get, unwrap_or}
use Rattle.nfa_paths.specs.Common.{AllZip, list_any, option_or, bytes_eq, Bor, decimal}
use Rattle.log_extractor.specs.declared.command.Given.{Given}
use Rattle.log_extractor.specs.Fields.{IsLinePattern, LinePattern, NamedGroup, column_names, columns_of, row}
use Rattle.log_extractor.specs.declared.parsers.LabelledParser.{LabelledParser}

-- a label and the text of a pattern
abbrev pub LabelledText : Type 0
LabelledText = List ℕ × List ℕ

-- a label and a pattern of lines
abbrev pub LabelledPattern : Type 0
LabelledPattern = List ℕ × LinePattern

-- The label is the same, and the grammar reads the pattern in the text.
abbrev pub IsLabelledPattern : LabelledText → LabelledPattern → Type 0
IsLabelledPattern text p = (text.0 ≡ p.0) × IsLinePattern text.1 p.1

-- the grammar reads these patterns in the texts
abbrev pub AreLinePatterns : List LabelledText → List LabelledPattern → Type 0
AreLinePatterns texts ps = AllZip IsLabelledPattern texts ps

-- the label of the pattern of this number: the name of its format, if it has one, or the number in digits
abbrev pub pattern_label : ℕ → Given → List ℕ
pattern_label number given = unwrap_or (option_map (λ (name : Bor (List ℕ)). name.now) given.format) (decimal number)

-- the labels of patterns, the first of which has this number
abbrev pub labels_from : ℕ → List Given → List (List ℕ)
labels_from number [] = []
labels_from number (given ∷ more) = pattern_label number given ∷ labels_from (number + 1) more

-- what a parser with a label is
abbrev pub labelled_text : LabelledParser → LabelledText
labelled_text labelled = (labelled.label.now, labelled.parser)

-- the names and one more, unless it is one of them
abbrev pub with_name : List (List ℕ) → List ℕ → List (List ℕ)
with_name names name = if list_any (λ other. bytes_eq other name) names then names else (names ++ name ∷ [])

-- the names and these, each once
abbrev pub with_names : List (List ℕ) → List (List ℕ) → List (List ℕ)
with_names names [] = names
with_names names (name ∷ more) = with_names (with_name names name) more

-- the names and those of the columns of these patterns, each once
abbrev pub with_columns : List (List ℕ) → List LabelledPattern → List (List ℕ)
with_columns names [] = names
with_columns names (p ∷ ps) = with_columns (with_names names (column_names (columns_of p.1))) ps

-- the names of the columns of all patterns, each once, in the order of their first appearance
abbrev pub union_names : List LabelledPattern → List (List ℕ)
union_names ps = with_columns [] ps

-- the field of this number; none if there are not as many
abbrev pub field_at : List (Option (List ℕ)) → ℕ → Option (List ℕ)
field_at fields number = unwrap_or (slice_get fields number) None

-- the field of the first column of this name; none if no column has it
abbrev pub field_named : List NamedGroup → List (Option (List ℕ)) → List ℕ → Option (List ℕ)
field_named [] fields name = None
field_named (column ∷ columns) fields name =
    if bytes_eq column.name name then field_at fields 0 else field_named columns (drop 1 fields) name

-- whether there is more than one
abbrev pub is_several : {A : Type 0} → List A → Bool
is_several xs = nat_lt 1 (length xs)

-- the field of the column of labels, if there are several patterns
abbrev pub label_field : Bool → List ℕ → List (Option (List ℕ))
label_field several label = if several then (Some label ∷ []) else []

-- the row of a line by one of the patterns: after the label the fields of the columns of these names
abbrev pub row_of_one : Bool → List (List ℕ) → LabelledPattern → List ℕ → Option (List (Option (List ℕ)))
row_of_one several names p line =
    option_map (λ fields. label_field several p.0 ++ map (field_named (columns_of p.1) fields) names) (row p.1 line)

-- the row of a line by the first of the patterns that matches it
abbrev pub row_of_first : Bool → List (List ℕ) → List LabelledPattern → List ℕ → Option (List (Option (List ℕ)))
row_of_first several names [] line = None
row_of_first several names (p ∷ ps) line =
    option_or (row_of_one several names p line) (row_of_first several names ps line)

-- the names of the columns: of several patterns first that of the column of labels
abbrev pub shown_names : List LabelledPattern → List (List ℕ)
shown_names ps = (if is_several ps then (codes "pattern" ∷ []) else []) ++ union_names ps

-- The row of a line by the patterns: it has one exactly if one of them matches it from its start.
abbrev pub row_by_first : List LabelledPattern → List ℕ → Option (List (Option (List ℕ)))
row_by_first ps line = row_of_first (is_several ps) (union_names ps) ps line
