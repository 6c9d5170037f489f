-- The spans around the matches of a text.
use Rattle.std.specs.Prelude.{◌≡◌, ◌⊎◌, ◌+◌, ◌≤◌, ℕ, false, List, [], ◌∷◌, ◌++◌, All, Option, None, Some, drop, length, map, if◌then◌else◌, ◌==◌}
use Rattle.nfa_search_base.specs.Common.{Found, found_of, whole, Match, Span, AreDisjoint, AreFirstMatches, AreMatches}
use Rattle.nfa_choice.specs.ChoiceState.{ChoiceState, kind_in}

-- the spans before, between and after these matches, from the one offset to the other
abbrev pub gap_spans : ℕ → ℕ → List Found → List Span
gap_spans from to [] = record { start = from; end = to } ∷ []
gap_spans from to (m ∷ ms) = record { start = from; end = m.start } ∷ gap_spans m.end to ms

-- where the last of the first i matches ended: at this offset, if there is one
abbrev pub last_end : ℕ → ℕ → Option ℕ
last_end i from = if i == 0 then None else Some from

-- the span is one of a text of this length
pub record IsSpanIn (len : ℕ) (span : Span) : Type 0 where
  pub ordered : span.start ≤ span.end
  pub within : span.end ≤ len

-- The first i matches were passed, up to the offset: these spans, and those around the other matches, are those around
-- all.
pub record HasSplit (text : List ℕ) (matches : List Match) (i from : ℕ) (spans : List Span) : Type 0 where
  pub spans_are : spans ++ gap_spans from (length text) (map found_of (drop i matches))
      ≡ gap_spans 0 (length text) (map found_of matches)
  pub count : length spans ≡ i
  pub inside : All (IsSpanIn (length text)) spans
  pub first : i ≡ 0 → from ≡ 0
  pub within : from ≤ length text
  pub apart : AreDisjoint (whole text) (last_end i from) (map found_of (drop i matches))

module _ (r : ChoiceState) (text : List ℕ) where
  -- these are all matches of the text
  abbrev pub AreAllOf : List Found → Type 0
  AreAllOf matches = AreMatches r.nfa (kind_in r) false (whole text) matches

  -- these are the first matches of the text
  abbrev pub AreFirstOf : List Found → Type 0
  AreFirstOf matches = AreFirstMatches r.nfa (kind_in r) false (whole text) matches

  -- the spans are those around all matches of the text
  pub record IsSplit (spans : List Span) : Type 0 where
    pub matches : List Found
    pub all : AreAllOf matches
    pub spans_are : spans ≡ gap_spans 0 (length text) matches

  -- the spans are those around the first matches of the text: of one less than the limit, or of all, if there are fewer
  pub record IsSplitUpTo (limit : ℕ) (spans : List Span) : Type 0 where
    pub matches : List Found
    pub first : AreFirstOf matches
    pub as_many : (length matches + 1 ≡ limit) ⊎ AreAllOf matches
    pub spans_are : spans ≡ gap_spans 0 (length text) matches
