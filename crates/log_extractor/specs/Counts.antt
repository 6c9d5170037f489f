-- How often each value of a column occurs, and what is printed of that.
use Rattle.std.specs.Prelude.{◌≡◌, ◌⊎◌, ℕ, zero, suc, ◌<◌, false, List, [], ◌∷◌, ◌++◌, All, codes, length, map, Option, None, Some, option_map, slice_get, unwrap_or, count_by}
use Rattle.std.specs.BTreeMap.{BTreeMap, get, get_by}
use Rattle.std.specs.Cmp.Lexicographic.{slice_cmp}
use Rattle.std.specs.Ordering.{is_lt, nat_cmp}
use Rattle.std.specs.declared.cmp.Ordering.{Ordering}
use Rattle.std.specs.declared.cmp.Reverse.{Reverse}
use Rattle.nfa_paths.specs.Common.{Bor, decimal, Vec, AllAdjacentBelow, Contains, IsDistinct, option_to_list, bytes_eq}
use Rattle.program_text.specs.Lines.{content, line_feed}
use Rattle.log_extractor.specs.Fields.{field_text}
use Rattle.log_extractor.specs.Selected.{row_in}
use Rattle.log_extractor.specs.Several.{LabelledPattern}
use Rattle.log_extractor.specs.Printed.{separator, written}
use Rattle.log_extractor.specs.declared.selection.Selection.{Selection}
use Rattle.log_extractor.specs.declared.output.Form.{Form}

-- the text of the field of this number; none if there are no fields, or not as many
abbrev pub value_at : ℕ → Option (List (Option (List ℕ))) → Option (List ℕ)
value_at column None = None
value_at column (Some fields) = option_map field_text (slice_get fields column)

-- the value of the column in the row of a line, if the line has a row
abbrev pub value_in : Selection → List LabelledPattern → ℕ → List ℕ → List (List ℕ)
value_in selection ps column line = option_to_list (value_at column (row_in selection ps (content line)))

-- how often the value occurs
abbrev pub occurrences : List ℕ → List (List ℕ) → ℕ
occurrences value values = count_by (bytes_eq value) values

-- the number, if it is not 0
abbrev pub positive : ℕ → Option ℕ
positive zero = None
positive (suc n) = Some (suc n)

-- the count of a value in a map, if it has one
abbrev pub count_in : BTreeMap (Vec ℕ) ℕ → List ℕ → Option ℕ
count_in counts value = get_by (λ k. slice_cmp nat_cmp value k.items) counts

-- the same, and 0 if it has none
abbrev pub count_of : BTreeMap (Vec ℕ) ℕ → List ℕ → ℕ
count_of counts value = unwrap_or (count_in counts value) 0

-- the map has the count of each value that occurs, and of no other
abbrev pub IsTally : List (List ℕ) → BTreeMap (Vec ℕ) ℕ → Type 0
IsTally values counts = (value : List ℕ) → count_in counts value ≡ positive (occurrences value values)

-- the order of the keys
abbrev pub key_cmp : Vec ℕ → Vec ℕ → Ordering
key_cmp x y = slice_cmp nat_cmp x.items y.items

-- a look-up finds each entry of the map
abbrev pub IsFound : BTreeMap (Vec ℕ) ℕ → Type 0
IsFound counts = All (λ e. get key_cmp counts e.0 ≡ Some e.1) counts.entries

-- a count and its value
abbrev pub counted : Reverse ℕ × Bor (List ℕ) → ℕ × List ℕ
counted pair = (pair.0.0, pair.1.now)

abbrev pub entry_counted : Vec ℕ × ℕ → ℕ × List ℕ
entry_counted entry = (entry.1, entry.0.items)

-- The first count is greater; or they are the same, and the second value is not before the first by their bytes.
abbrev pub MayPrecede : ℕ × List ℕ → ℕ × List ℕ → Type 0
MayPrecede first second =
    (second.0 < first.0) ⊎ ((first.0 ≡ second.0) × (is_lt (slice_cmp nat_cmp second.1 first.1) ≡ false))

-- These are the values that occur, each once and with the number of its occurrences, the most frequent first.
pub record IsCountList (values : List (List ℕ)) (listed : List (ℕ × List ℕ)) : Type 0 where
  pub counts : All (λ (c : ℕ × List ℕ). (c.0 ≡ occurrences c.1 values) × (0 < c.0)) listed
  pub all : (value : List ℕ) → 0 < occurrences value values → Contains (map (λ (c : ℕ × List ℕ). c.1) listed) value
  pub once : IsDistinct bytes_eq (map (λ (c : ℕ × List ℕ). c.1) listed)
  pub sorted : AllAdjacentBelow MayPrecede listed (length listed)

-- the row of a value: its count, and the value as a field
abbrev pub tally_line : Form → ℕ × List ℕ → List ℕ
tally_line form c = decimal c.0 ++ separator form ∷ written form c.1 ++ line_feed ∷ []

-- the line with the names of the columns
abbrev pub count_head : Form → List ℕ → List ℕ
count_head form name = codes "count" ++ separator form ∷ written form name ++ line_feed ∷ []
