-- The field of a line: the text of a named group in the first match of a pattern.
use Rattle.std.specs.Prelude.{ℕ, Bool, false, List, Option, None, Some, option_and_then, option_map, slice_range, if◌then◌else◌}
use Rattle.std.specs.Str.{bytes_eq, is_utf8}
use Rattle.nfa_engines.specs.Span.{Span}
use Rattle.nfa_compiler.specs.WrittenPatterns.{named_span_in}

-- a pattern, and the name of one of its groups
pub record FieldOf : Type 0 where
  pub pattern : List ℕ
  pub name : List ℕ

-- the bytes of the field
abbrev pub field_bytes : FieldOf → List ℕ → Option (List ℕ)
field_bytes f line =
    option_map (λ (s : Span). slice_range line s.start s.end) (named_span_in f.pattern f.name line)

-- the bytes, if they are UTF-8
abbrev pub utf8_text : List ℕ → Option (List ℕ)
utf8_text bytes = if is_utf8 bytes then Some bytes else None

-- the field as text; a field that is not UTF-8 is none
abbrev pub field_text : FieldOf → List ℕ → Option (List ℕ)
field_text f line = option_and_then utf8_text (field_bytes f line)

abbrev pub is_key : List ℕ → Option (List ℕ) → Bool
is_key key None = false
is_key key (Some found) = bytes_eq key found

-- whether the field of the line is this key
abbrev pub has_key : FieldOf → List ℕ → List ℕ → Bool
has_key f key line = is_key key (field_text f line)
