-- The spans of the groups of a match.
use Rattle.std.specs.Prelude.{◌≡◌, ◌+◌, ◌<◌, ◌≤◌, ℕ, List, true, Some, is_some, slice_get}
use Rattle.regex_search_core.specs.Slots.{Captured, captured_count, group_span}
use Rattle.regex_search_core.specs.declared.search.Span.{Span}

-- the pattern has n explicit groups, and each of them has a span, and so does the match
pub record HasSpans (n : ℕ) (c : Captured) : Type 0 where
  pub count : captured_count c ≡ n + 1
  pub each : (group : ℕ) → group ≤ n → is_some (group_span c group) ≡ true

-- these are the spans of the match and of the n explicit groups of its pattern
pub record AreExtracted (n : ℕ) (c : Captured) (spans : Span × List Span) : Type 0 where
  pub count : captured_count c ≡ n + 1
  pub found : group_span c 0 ≡ Some spans.0
  pub each : (k : ℕ) → k < n → slice_get spans.1 k ≡ group_span c (k + 1)
