-- slots, and the match that two of them give
use Rattle.std.specs.Prelude.{ℕ, zero, suc, ◌+◌, ◌*◌, List, [], ◌∷◌, length, map, Option, Some, None, option_map, option_and_then, if◌then◌else◌, nat_le, slice_get, slice_range}
use Rattle.std.specs.List.{range_with_len}
use Rattle.std.specs.Option.{option_map_or}
use Rattle.regex_search_core.specs.Found.{Found}
use Rattle.regex_search_core.specs.Groups.{group_count, slot_at, group_named}
use Rattle.regex_search_core.specs.declared.captures.groups.CapturesPatternIter.{CapturesPatternIter}
use Rattle.regex_search_core.specs.declared.search.Span.{Span}

-- the result of a search: the groups, the pattern if one matched, and the slots
pub record Captured : Type 0 where
  pub groups : List (List (Option (List ℕ)))
  pub pattern : Option ℕ
  pub slots : List (Option ℕ)

-- the offset in the slot, if the slot exists and is set
abbrev pub offset_at : List (Option ℕ) → ℕ → Option ℕ
offset_at slots slot = option_and_then (λ offset. offset) (slice_get slots slot)

-- the span from this slot to the next one, if both are set and in order
abbrev pub span_at : List (Option ℕ) → ℕ → Option Span
span_at slots slot =
    option_and_then (λ start. option_and_then
    (λ end. if nat_le start end then Some (record { start = start; end = end }) else None)
    (offset_at slots (slot + 1))) (offset_at slots slot)

-- the match of the pattern: the span at its two slots, if there is one
abbrev pub match_of : Option ℕ → List (Option ℕ) → Option Found
match_of pattern slots =
    option_and_then (λ p. option_map (λ (s : Span). record { pattern = p; start = s.start; end = s.end })
    (span_at slots (2 * p))) pattern

-- the span at the two slots of this group of the pattern that is set, if there is one
abbrev pub group_span : Captured → ℕ → Option Span
group_span captures group =
    option_and_then (λ pattern. option_and_then (λ slot. span_at captures.slots slot)
    (slot_at captures.groups pattern group)) captures.pattern

-- the span of the first group of this name of the pattern that is set
abbrev pub named_span : Captured → List ℕ → Option Span
named_span captures name =
    option_and_then (λ pattern. option_and_then (λ group. group_span captures group)
    (group_named captures.groups pattern name)) captures.pattern

-- the number of groups of the pattern that is set, including group 0
abbrev pub captured_count : Captured → ℕ
captured_count captures = option_map_or (group_count captures.groups) captures.pattern 0

-- the spans of all groups of the pattern that is set, in order
abbrev pub group_spans : Captured → List (Option Span)
group_spans captures = map (group_span captures) (range_with_len 0 (captured_count captures))

-- the spans of n groups: the span at one slot, then those from another slot on, two slots apart
abbrev pub spans_at : List (Option ℕ) → ℕ → ℕ → ℕ → List (Option Span)
spans_at slots next explicit zero = []
spans_at slots next explicit (suc n) = span_at slots next ∷ spans_at slots explicit (explicit + 2) n

-- the spans of the groups still to come
abbrev pub spans_left : CapturesPatternIter → List (Option Span)
spans_left s = spans_at s.slots.now s.next s.explicit s.left

-- the bytes of the haystack at the span, if there is one and it ends within the haystack
abbrev pub text_of_span : List ℕ → Option Span → Option (List ℕ)
text_of_span haystack =
    option_and_then (λ (s : Span).
    if nat_le s.end (length haystack) then Some (slice_range haystack s.start s.end) else None)

-- those of the group
abbrev pub text_of_group : Captured → List ℕ → ℕ → Option (List ℕ)
text_of_group captures haystack group = text_of_span haystack (group_span captures group)

-- those of the first group of this name
abbrev pub text_of_name : Captured → List ℕ → List ℕ → Option (List ℕ)
text_of_name captures haystack name = text_of_span haystack (named_span captures name)
