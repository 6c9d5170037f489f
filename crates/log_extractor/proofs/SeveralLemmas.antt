-- Several patterns, one after the other.
use Rattle.std.specs.Global.{Vec}
use Rattle.std.specs.Slice.{IsItemAt}
use Rattle.std.proofs.lemmas.Option.{slice_get_past}
use Rattle.nfa_paths.proofs.Common.{String, Bor, bytes_eq, at_drop_more, drop-drop, length-take, AllZip-left, AllZip-long, ◌≡◌, ◌∙◌, ℕ, zero, suc, ◌+◌, ◌<◌, ◌≤◌, Bool, List, [], ◌∷◌, ◌++◌, length, map, take, drop, get_or, refl, ap, arith, Option, None, Some, IsSomeAnd, if◌then◌else◌, is_some, nat_lt, option_map, slice_get, string_bytes, drop_all, drop_more, get_or-map, length-map, take_more, get_or_from_slice_get, slice_get-map, slice_get_read, slice_get_within, common_steps, false, option_or, ap₂, le-ltb, sym}
use Rattle.std.specs.declared.alloc.Global.{Global}
use Rattle.log_extractor.specs.Counts.{value_at}
use Rattle.log_extractor.specs.Fields.{column_names, columns_of, field_text, fields_now, group_of, row}
use Rattle.log_extractor.specs.Several.{AreLinePatterns, IsLabelledPattern, LabelledPattern, field_at, field_named, is_several, pattern_label, labels_from, row_by_first, row_of_first, row_of_one, labelled_text, union_names, with_name, with_names}
use Rattle.log_extractor.specs.declared.command.Given.{Given}
use Rattle.log_extractor.specs.declared.parsers.LabelledParser.{LabelledParser}
use Rattle.log_extractor.specs.declared.pattern.Column.{Column}

-- Names, each once.

pub with-names-more : (names : List (List ℕ)) (columns : List Column) (column : Column)
    → with_names names (column_names (map group_of (columns ++ column ∷ [])))
    ≡ with_name (with_names names (column_names (map group_of columns))) (string_bytes column.name)
with-names-more names [] column = refl
with-names-more names (c ∷ cs) column = with-names-more (with_name names (string_bytes c.name)) cs column

-- What is read in the texts of parsers.

-- the pattern of the parser of this number
pub record IsAt (ps : List LabelledPattern) (n : ℕ) (x : LabelledParser) : Type 0 where
  pub p : LabelledPattern
  pub is : IsLabelledPattern (labelled_text x) p
  pub rest : drop n ps ≡ p ∷ drop (n + 1) ps

module _ (parsers : List LabelledParser) (ps : List LabelledPattern)
    (are : AreLinePatterns (map labelled_text parsers) ps) where
  as-many : length ps ≡ length parsers
  as-many = AllZip-long IsLabelledPattern (map labelled_text parsers) ps are ∙ length-map parsers labelled_text

  pub pattern-at : (n : ℕ) (x : LabelledParser) → n < length parsers → x ≡ get_or parsers n x → IsAt ps n x
  pattern-at n x inside at =
      of (slice_get ps n) refl
      (rw (slice_get-map labelled_text parsers n, slice_get_read parsers _ n x refl inside at)
      at (AllZip-left IsLabelledPattern (map labelled_text parsers) ps are n))
    where
      of : (o : Option LabelledPattern) → slice_get ps n ≡ o → IsSomeAnd o (IsLabelledPattern (labelled_text x))
          → IsAt ps n x
      of None here none = absurd none
      of (Some p) here is = record {
        p = p;
        is = is;
        rest = drop_more ps n p (slice_get_within ps n p here)
            ∙ ap (λ q. q ∷ drop (n + 1) ps) (get_or_from_slice_get ps n p p here);
      }

  pub none-after : (n : ℕ) → length parsers ≤ n → drop n ps ≡ []
  none-after n past = drop_all n ps (omega (arith, as-many))

  -- whether there are several
  pub same-several : is_several ps ≡ nat_lt 1 (length parsers)
  same-several = ap (nat_lt 1) as-many

  -- the row of the line by the parser of this number or, if it has none, by those after it
  pub first-from : (several : Bool) (names : List (List ℕ)) (n : ℕ) (x : LabelledParser) (line : List ℕ)
      (row : Option (Vec (Option (Bor (List ℕ))))) → n < length parsers → x ≡ get_or parsers n x
      → ((p : LabelledPattern) → IsLabelledPattern (labelled_text x) p
      → option_map (λ fields. fields_now fields.items) row ≡ row_of_one several names p line)
      → row_of_first several names (drop n ps) line
      ≡ (if is_some row then option_map (λ fields. fields_now fields.items) row
      else row_of_first several names (drop (n + 1) ps) line)
  first-from several names n x line row inside at by =
      let it = pattern-at n x inside at in
      let here = by it.p it.is in
      grind (arith, it.rest, here)

-- The field of a name.

drop-at : (fields : List (Option (List ℕ))) (n : ℕ) → field_at (drop n fields) 0 ≡ field_at fields n
drop-at [] zero = refl
drop-at [] (suc n) = refl
drop-at (f ∷ fs) zero = refl
drop-at (f ∷ fs) (suc n) = drop-at fs n

-- the field of the column of this number, if it has the name, or of those after it
pub field-from : (columns : List Column) (fields : List (Option (List ℕ))) (name : List ℕ) (n : ℕ) (column : Column)
    → n < length columns → column ≡ get_or columns n column
    → field_named (drop n (map group_of columns)) (drop n fields) name
    ≡ (if bytes_eq (string_bytes column.name) name then field_at fields n
    else field_named (drop (n + 1) (map group_of columns)) (drop (n + 1) fields) name)
field-from columns fields name n column inside at =
    let groups = map group_of columns in
    at_drop_more (λ gs. field_named gs (drop n fields) name) groups n (group_of column)
    (omega (arith, length-map columns group_of))
    ∙ rw (get_or-map group_of columns n column (group_of column) inside, ← at, drop-at fields n, drop-drop) refl

-- what a function of columns gives for the one of this number
pub column-at : (f : Column → Option (List ℕ)) (columns : List Column) (n : ℕ) (column : Column) → n < length columns
    → column ≡ get_or columns n column → field_at (map f columns) n ≡ f column
column-at f columns n column inside at =
    rw (slice_get-map f columns n, slice_get_read columns _ n column refl inside at) refl

-- the name of the column of this number, as a look-up gives it
pub get-named : (names : List (String Global)) (column : ℕ) (found : Option (Bor (String Global)))
    → IsItemAt names column found
    → slice_get (map string_bytes names) column
    ≡ option_map (λ (name : Bor (String Global)). string_bytes name.now) found
get-named names column None is =
    slice_get_past (map string_bytes names) column (omega (arith, length-map names string_bytes, is.3))
get-named names column (Some name) is =
    slice_get-map string_bytes names column
    ∙ ap (option_map string_bytes) (slice_get_read names _ column name.now refl is.3.0 is.1)

-- the row of the line by the only pattern
pub by-one : (names : List (List ℕ)) (ps : List LabelledPattern) (line : List ℕ) → length ps ≡ 1
    → names ≡ union_names ps → row_of_first false names ps line ≡ row_by_first ps line
by-one names ps line one are =
    ap₂ (λ b ns. row_of_first b ns ps line) (sym (le-ltb 1 (length ps) (omega (arith, one)))) are

-- the field of a name in it
module _ (names : List (List ℕ)) (column : ℕ) where
  pub value-named : (name : List ℕ) (ps : List LabelledPattern) (line : List ℕ) → length ps ≡ 1
      → slice_get names column ≡ Some name
      → value_at column (row_of_first false names ps line)
      ≡ option_map (λ fields. field_text (field_at fields 0)) (row_of_first false (name ∷ []) ps line)
  value-named name [] line one at = cc
  value-named name (p ∷ []) line one at = of (row p.1 line)
    where
      of : (o : Option (List (Option (List ℕ))))
          → value_at column (option_or (option_map (λ fields. map (field_named (columns_of p.1) fields) names) o) None)
          ≡ option_map (λ fields. field_text (field_at fields 0))
          (option_or (option_map (λ fields. field_named (columns_of p.1) fields name ∷ []) o) None)
      of None = refl
      of (Some fields) = rw (slice_get-map (field_named (columns_of p.1) fields) names column, at) refl
  value-named name (p ∷ q ∷ ps) line one at = absurd (omega (arith, one))

  -- no column has this number
  pub value-none : (ps : List LabelledPattern) (line : List ℕ) → length ps ≡ 1 → slice_get names column ≡ None
      → None ≡ value_at column (row_of_first false names ps line)
  value-none [] line one at = refl
  value-none (p ∷ []) line one at = of (row p.1 line)
    where
      of : (o : Option (List (Option (List ℕ))))
          → None ≡ value_at column
          (option_or (option_map (λ fields. map (field_named (columns_of p.1) fields) names) o) None)
      of None = refl
      of (Some fields) = rw (slice_get-map (field_named (columns_of p.1) fields) names column, at) refl
  value-none (p ∷ q ∷ ps) line one at = absurd (omega (arith, one))

-- Labels.

labels-more : (before : List Given) (given : Given) (n m : ℕ) → m ≡ n + length before
    → labels_from n (before ++ given ∷ []) ≡ labels_from n before ++ pattern_label m given ∷ []
labels-more [] given n m is = grind (arith, is)
labels-more (b ∷ before) given n m is = grind (arith, is, labels-more before given (n + 1) m)

pub labels-step : (patterns : List Given) (i : ℕ) (given : Given) (labels new : List (String Global))
    (label : String Global) → i < length patterns → new ≡ labels ++ label ∷ []
    → string_bytes label ≡ pattern_label i (get_or patterns i given)
    → map string_bytes labels ≡ labels_from 0 (take i patterns)
    → map string_bytes new ≡ labels_from 0 (take (i + 1) patterns)
labels-step patterns i given labels new label inside is here so-far =
    grind (arith, common_steps, labels-more, take_more, length-take, is, here, so-far)
