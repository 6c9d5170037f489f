-- The columns of a pattern and the fields of a line, in the words of the reference matcher.
use Rattle.std.specs.Prelude.{◌≡◌, ℕ, ◌+◌, List, [], ◌∷◌, drop, map, Option, None, Some, option_map, slice_range, string_bytes, unwrap_or, ⊤}
use Rattle.nfa_compiler.specs.Common.{Bor, Span, Match, Re, accept, attempt, IsMeant, IsNamed, written_span, IsOfOneText, NamesText, byte_syntax}
use Rattle.regex_search_core.specs.Search.{Search, whole}
use Rattle.regex_search_core.specs.declared.search.Anchored.TheVariants.{Yes}
use Rattle.log_extractor.specs.declared.pattern.Column.{Column}
use Rattle.log_extractor.specs.declared.pattern.PatternError.{PatternError}
use Rattle.log_extractor.specs.declared.pattern.PatternError.TheVariants.{Memory, Compile, NoColumns}

-- a pattern of lines: what it matches, and the names of its groups, from group 0 on
pub record LinePattern : Type 0 where
  pub tree : Re
  pub names : List (Option (List ℕ))

-- the grammar reads this pattern in the text
pub record IsLinePattern (text : List ℕ) (p : LinePattern) : Type 0 where
  pub tree : IsMeant byte_syntax text p.tree
  pub names : IsNamed byte_syntax text p.names

-- the search of a line from its start
abbrev pub from_start : List ℕ → Search
from_start line = record (whole line) { anchored = Yes }

-- a column: a group that has a name
pub record NamedGroup : Type 0 where
  pub number : ℕ
  pub name : List ℕ

-- the groups that have a name, in the order of their numbers, the first of which is n
abbrev pub named_groups : ℕ → List (Option (List ℕ)) → List NamedGroup
named_groups n [] = []
named_groups n (None ∷ names) = named_groups (n + 1) names
named_groups n (Some name ∷ names) = record { number = n; name = name } ∷ named_groups (n + 1) names

-- the columns: the named groups. Group 0 is the match, and has no name.
abbrev pub columns_in : List (Option (List ℕ)) → List NamedGroup
columns_in names = named_groups 1 (drop 1 names)

abbrev pub columns_of : LinePattern → List NamedGroup
columns_of p = columns_in p.names

-- the names of columns
abbrev pub column_names : List NamedGroup → List (List ℕ)
column_names columns = map (λ (column : NamedGroup). column.name) columns

-- what a column of the program is
abbrev pub group_of : Column → NamedGroup
group_of column = record { number = column.group; name = string_bytes column.name }

-- the bytes of the span
abbrev pub cut : List ℕ → Option Span → Option (List ℕ)
cut line span = option_map (λ (s : Span). slice_range line s.start s.end) span

-- the fields of a line that matched so: for each column the text that the match last wrote for its group, if any
abbrev pub fields_of : LinePattern → List ℕ → Match → List (Option (List ℕ))
fields_of p line m = map (λ (g : NamedGroup). cut line (written_span g.number m)) (columns_of p)

-- how the pattern matches the line from its start, if it does
abbrev pub match_at_start : LinePattern → List ℕ → Option Match
match_at_start p line = option_map (λ t. record { start = 0; trace = t }) (attempt line p.tree accept 0)

-- the row of a line: it has one exactly if the pattern matches it from its start
abbrev pub row : LinePattern → List ℕ → Option (List (Option (List ℕ)))
row p line = option_map (fields_of p line) (match_at_start p line)

-- the text of a field: empty if there is none
abbrev pub field_text : Option (List ℕ) → List ℕ
field_text field = unwrap_or field []

-- what the slices hold
abbrev pub fields_now : List (Option (Bor (List ℕ))) → List (Option (List ℕ))
fields_now fields = map (option_map (λ (field : Bor (List ℕ)). field.now)) fields

-- allocation failed, the text is not a pattern or the pattern exceeds the default size limit, or no group has a name
abbrev pub IsPatternMistake : List ℕ → PatternError → Type 0
IsPatternMistake text Memory = ⊤
IsPatternMistake text (Compile error) =
    IsOfOneText byte_syntax (text ∷ []) error.0 × NamesText byte_syntax 10485760 (text ∷ []) error.0
IsPatternMistake text NoColumns = (p : LinePattern) → IsLinePattern text p → columns_of p ≡ []
