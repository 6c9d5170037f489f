-- the input of a search
use Rattle.std.specs.Prelude.{ℕ, Bool, true, false, List, length, Option, Some, None}
use Rattle.regex_search_core.specs.PatternSets.{number_of}
use Rattle.regex_search_core.specs.declared.search.Anchored.{Anchored}
use Rattle.regex_search_core.specs.declared.search.Anchored.TheVariants.{No, Yes, Pattern}
use Rattle.regex_search_core.specs.declared.search.Input.{Input}

-- whether a match may only start at the start of the span
abbrev pub is_anchored : Anchored → Bool
is_anchored No = false
is_anchored Yes = true
is_anchored (Pattern pattern) = true

-- the one pattern that may match, if the anchoring names one
abbrev pub anchored_pattern : Anchored → Option ℕ
anchored_pattern No = None
anchored_pattern Yes = None
anchored_pattern (Pattern pattern) = Some (number_of pattern)

-- an input as a value: the haystack, the span from start to end, the anchoring, and `earliest`
pub record Search : Type 0 where
  pub haystack : List ℕ
  pub start : ℕ
  pub end : ℕ
  pub anchored : Anchored
  pub earliest : Bool

-- the input as a value
abbrev pub search_of : Input → Search
search_of input = record {
  haystack = input.haystack.now;
  start = input.span.start;
  end = input.span.end;
  anchored = input.anchored;
  earliest = input.earliest;
}

-- a search of the whole haystack, not anchored and not earliest
abbrev pub whole : List ℕ → Search
whole haystack = record { haystack = haystack; start = 0; end = length haystack; anchored = No; earliest = false }
