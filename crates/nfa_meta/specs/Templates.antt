-- A template that captures fill.
use Rattle.std.specs.Prelude.{ℕ, List, [], slice_range, Option, None, Some, flat_map}
use Rattle.nfa_paths.specs.Common.{Captured, group_span, Span}
use Rattle.nfa_meta.specs.declared.interpolate.Part.{Part}
use Rattle.nfa_meta.specs.declared.interpolate.Part.TheVariants.{Text, Group}

-- the bytes of a text in a span, or nothing if there is none
abbrev pub text_at : List ℕ → Option Span → List ℕ
text_at text None = []
text_at text (Some span) = slice_range text span.start span.end

-- the text of the part for a match of the haystack with these captures
abbrev pub part_text : List ℕ → Captured → Part → List ℕ
part_text haystack c (Text text) = text.now
part_text haystack c (Group group) = text_at haystack (group_span c group)

-- the texts of all parts, one after the other
abbrev pub filled : List ℕ → Captured → List Part → List ℕ
filled haystack c parts = flat_map (part_text haystack c) parts
