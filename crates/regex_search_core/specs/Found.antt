-- matches as values
use Rattle.std.specs.Prelude.{ℕ}
use Rattle.regex_search_core.specs.PatternSets.{number_of}
use Rattle.regex_search_core.specs.declared.search.HalfMatch.{HalfMatch}
use Rattle.regex_search_core.specs.declared.search.Match.{Match}

-- a pattern, and the end of a match of it
pub record HalfFound : Type 0 where
  pub pattern : ℕ
  pub offset : ℕ

-- a pattern, and the span of a match of it
pub record Found : Type 0 where
  pub pattern : ℕ
  pub start : ℕ
  pub end : ℕ

-- the half match as a value
abbrev pub half_found_of : HalfMatch → HalfFound
half_found_of m = record { pattern = number_of m.pattern; offset = m.offset }

-- a match of the pattern that ends at the position
abbrev pub half_at : ℕ → ℕ → HalfFound
half_at at pattern = record { pattern = pattern; offset = at }

-- the match as a value
abbrev pub found_of : Match → Found
found_of m = record { pattern = number_of m.pattern; start = m.span.start; end = m.span.end }
