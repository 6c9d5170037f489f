-- What is printed of the lines of an input, and how the text of a field is written.
use Rattle.std.specs.Prelude.{◌≡◌, ◌≢◌, ◌==◌, ◌||◌, ℕ, Bool, false, List, [], ◌∷◌, ◌++◌, All, Option, None, Some, codes, flat_map, is_some, length, map, if◌then◌else◌}
use Rattle.std.specs.List.{list_any, slice_split}
use Rattle.std.specs.Str.Lossy.{utf8_lossy}
use Rattle.json.specs.Print.{quoted}
use Rattle.json.specs.Word.{after_number}
use Rattle.program_text.specs.Lines.{carriage_return, content, line_feed, lines_of, with_end}
use Rattle.log_extractor.specs.Fields.{field_text}
use Rattle.log_extractor.specs.Selected.{row_in, selected_names}
use Rattle.log_extractor.specs.Several.{LabelledPattern}
use Rattle.log_extractor.specs.declared.output.Form.{Form}
use Rattle.log_extractor.specs.declared.output.Form.TheVariants.{Tabs, Commas}
use Rattle.log_extractor.specs.declared.output.Output.{Output}
use Rattle.log_extractor.specs.declared.output.Output.TheVariants.{Table, Rows, Objects, Rejects}
use Rattle.log_extractor.specs.declared.output.Values.{Values}
use Rattle.log_extractor.specs.declared.output.Values.TheVariants.{Texts, Numbers}
use Rattle.log_extractor.specs.declared.selection.Selection.{Selection}

abbrev pub tab : ℕ
tab = 9

abbrev pub quote : ℕ
quote = 34

abbrev pub comma : ℕ
comma = 44

abbrev pub backslash : ℕ
backslash = 92

-- the byte between the fields of a row
abbrev pub separator : Form → ℕ
separator Tabs = tab
separator Commas = comma

-- a byte of a field between tabs: one that could be taken for an end, or for an escape, is escaped
abbrev pub escaped_byte : ℕ → List ℕ
escaped_byte byte =
    if byte == tab then codes "\\t"
    else if byte == line_feed then codes "\\n"
    else if byte == carriage_return then codes "\\r"
    else if byte == backslash then codes "\\\\"
    else (byte ∷ [])

-- a field between tabs
abbrev pub escaped : List ℕ → List ℕ
escaped text = flat_map escaped_byte text

-- the byte that an escape means, by the byte after the backslash
abbrev pub meant_by : ℕ → ℕ
meant_by letter =
    if letter == 116 then tab
    else if letter == 110 then line_feed
    else if letter == 114 then carriage_return
    else letter

-- the text that a field between tabs means
abbrev pub unescaped : List ℕ → List ℕ
unescaped [] = []
unescaped (byte ∷ []) = byte ∷ []
unescaped (byte ∷ letter ∷ bytes) =
    if byte == backslash then (meant_by letter ∷ unescaped bytes) else (byte ∷ unescaped (letter ∷ bytes))

-- no field between tabs has a byte that ends a field or a line
abbrev pub HaveNoSeparator : Type 0
HaveNoSeparator =
    (text : List ℕ) → All (λ byte. (byte ≢ tab) × (byte ≢ line_feed) × (byte ≢ carriage_return)) (escaped text)

-- a field between tabs means its text
abbrev pub AreReadBack : Type 0
AreReadBack = (text : List ℕ) → unescaped (escaped text) ≡ text

-- whether the byte has a meaning between commas
abbrev pub is_special : ℕ → Bool
is_special byte = (byte == quote) || ((byte == comma) || ((byte == line_feed) || (byte == carriage_return)))

-- whether a field between commas has quotes around it
abbrev pub needs_quotes : List ℕ → Bool
needs_quotes text = (length text == 0) || list_any is_special text

-- the byte, twice if it is a quote
abbrev pub doubled_byte : ℕ → List ℕ
doubled_byte byte = if byte == quote then (quote ∷ quote ∷ []) else (byte ∷ [])

-- the text, with each quote doubled
abbrev pub doubled : List ℕ → List ℕ
doubled text = flat_map doubled_byte text

-- the text in quotes
abbrev pub quoted_text : List ℕ → List ℕ
quoted_text text = quote ∷ doubled text ++ quote ∷ []

-- the text as a field of a row of this form
abbrev pub written : Form → List ℕ → List ℕ
written Tabs text = escaped text
written Commas text = if needs_quotes text then quoted_text text else text

-- these pieces, with this byte before each one but the first
abbrev pub separated : ℕ → List (List ℕ) → List ℕ
separated byte [] = []
separated byte (piece ∷ pieces) = piece ++ flat_map (λ p. byte ∷ p) pieces

-- the texts as fields of a row of this form
abbrev pub row_text : Form → List (List ℕ) → List ℕ
row_text form texts = separated (separator form) (map (written form) texts)

-- the row as a line
abbrev pub row_line : Form → List (List ℕ) → List ℕ
row_line form texts = row_text form texts ++ line_feed ∷ []

-- a row with tabs is a single line
abbrev pub RowsAreLines : Type 0
RowsAreLines =
    (texts : List (List ℕ)) → All (λ byte. (byte ≢ line_feed) × (byte ≢ carriage_return)) (row_text Tabs texts)

-- what is between its tabs means the texts
abbrev pub RowsAreReadBack : Type 0
RowsAreReadBack =
    (text : List ℕ) (texts : List (List ℕ))
    → map unescaped (slice_split (λ byte. byte == tab) (row_text Tabs (text ∷ texts))) ≡ text ∷ texts

-- whether nothing is left of a text whose beginning was read
abbrev pub is_whole : Option (List ℕ) → Bool
is_whole None = false
is_whole (Some rest) = length rest == 0

-- whether the whole text is a number of JSON (RFC 8259): no number has a plus or a zero before another digit
abbrev pub is_number : List ℕ → Bool
is_number text = is_whole (after_number text)

-- the text as a JSON value: a string, or if numbers are wanted and it is one, as it is
abbrev pub json_value : Values → List ℕ → List ℕ
json_value Texts text = quoted text
json_value Numbers text = if is_number text then text else quoted text

-- The name of the column, a colon and the field as a JSON value: null if there is none. Bytes that are not UTF-8 become
-- U+FFFD.
abbrev pub member_text : Values → List ℕ → Option (List ℕ) → List ℕ
member_text values name None = quoted name ++ 58 ∷ codes "null"
member_text values name (Some text) = quoted name ++ 58 ∷ json_value values (utf8_lossy text)

abbrev pub members : Values → List (List ℕ) → List (Option (List ℕ)) → List (List ℕ)
members values [] fields = []
members values (name ∷ names) [] = []
members values (name ∷ names) (field ∷ fields) = member_text values name field ∷ members values names fields

-- the fields as a JSON object, with commas between its members and braces around them, on a line
abbrev pub object_line : Values → List (List ℕ) → List (Option (List ℕ)) → List ℕ
object_line values names fields = 123 ∷ separated 44 (members values names fields) ++ 125 ∷ line_feed ∷ []

-- what is printed of a line that has these fields
abbrev pub shown_fields : Output → List (List ℕ) → List (Option (List ℕ)) → List ℕ
shown_fields (Table form) names fields = row_line form (map field_text fields)
shown_fields (Rows form) names fields = row_line form (map field_text fields)
shown_fields (Objects values) names fields = object_line values names fields
shown_fields Rejects names fields = []

-- what is printed of a line that has no fields: of rejects, the line itself
abbrev pub shown_reject : Output → List ℕ → List ℕ
shown_reject Rejects line = with_end line_feed line
shown_reject _ line = []

-- what is printed of a line that has this row, or none
abbrev pub shown_as : Output → List (List ℕ) → List ℕ → Option (List (Option (List ℕ))) → List ℕ
shown_as output names line None = shown_reject output line
shown_as output names line (Some fields) = shown_fields output names fields

-- what is printed of a line
abbrev pub shown_line : Output → Selection → List LabelledPattern → List ℕ → List ℕ
shown_line output selection ps line =
    shown_as output (selected_names selection ps) line (row_in selection ps (content line))

-- what is printed before the lines: of a table, the names of the columns
abbrev pub table_head : Output → List (List ℕ) → List ℕ
table_head (Table form) names = row_line form names
table_head _ names = []

-- whether one of these lines has a row
abbrev pub has_row : Selection → List LabelledPattern → List (List ℕ) → Bool
has_row selection ps lines = list_any (λ line. is_some (row_in selection ps (content line))) lines

-- what is printed of the lines of a text, in order
abbrev pub extracted_lines : Output → Selection → List LabelledPattern → List ℕ → List ℕ
extracted_lines output selection ps text = flat_map (shown_line output selection ps) (lines_of text)

-- what is printed of a text
abbrev pub extracted : Output → Selection → List LabelledPattern → List ℕ → List ℕ
extracted output selection ps text =
    table_head output (selected_names selection ps) ++ extracted_lines output selection ps text

-- Of a text that is cut after a line feed, the same is printed as of its two parts, one after the other.
abbrev pub PartsAreJoined : Output → Type 0
PartsAreJoined output =
    (selection : Selection) (ps : List LabelledPattern) (a b : List ℕ)
    → extracted output selection ps (a ++ line_feed ∷ [] ++ b)
    ≡ extracted output selection ps (a ++ line_feed ∷ []) ++ extracted output selection ps b
