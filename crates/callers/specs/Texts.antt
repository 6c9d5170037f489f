-- What callers say of texts: what lines hold, the matches of a regex, loops of searches, and stars in place of a group.
use Rattle.std.specs.Prelude.{◌≡◌, ℕ, ◌+◌, ◌<◌, true, List, Some, IsSomeAnd, slice_get, false, [], ◌∷◌, ◌&&◌, Bool, Option, length, MatchOption, nat_le, nat_lt, All, map, None, if◌then◌else◌}
use Rattle.std.specs.Char.{is_ascii_digit}
use Rattle.nfa_engines.specs.Anchored.TheVariants.{No, Yes}
use Rattle.nfa_engines.specs.Search.{Search, whole}
use Rattle.nfa_engines.specs.Found.{Found}
use Rattle.nfa_engines.specs.MatchKind.TheVariants.{LeftmostFirst}
use Rattle.nfa_choice.specs.ChoiceState.{ChoiceState, kind_in}
use Rattle.nfa_meta.specs.Built.{IsBuiltFrom, default_builder}
use Rattle.nfa_meta.specs.Filled.{AreAllCaught}
use Rattle.nfa_meta.specs.Gaps.{AreAllOf}
use Rattle.nfa_meta.specs.RegexState.{RegexState}
use Rattle.nfa_engines.specs.Backtrack.{Backtracker}
use Rattle.nfa_engines.specs.Engines.{Pike, kind_of}
use Rattle.nfa_engines.specs.Lists.{finds}
use Rattle.nfa_search_base.specs.Common.{enumerate_from, list_any, row_of, AreRows, HasGroups}
use Rattle.nfa_engines.specs.Slots.{Captured, group_span, named_span}
use Rattle.nfa_engines.specs.Span.{Span}

-- n digits stand one after another from i on
abbrev pub HasDigits : List ℕ → ℕ → ℕ → Type 0
HasDigits line i n = (k : ℕ) → k < n → IsSomeAnd (slice_get line (i + k)) (λ b. is_ascii_digit b ≡ true)

-- Somewhere stand four digits, a dash and two digits.
pub record HoldsMonth (line : List ℕ) : Type 0 where
  pub at : ℕ
  pub year : HasDigits line at 4
  pub dash : slice_get line (at + 4) ≡ Some 0x2D
  pub month : HasDigits line (at + 5) 2

-- the search of a line within its text
abbrev pub line_of : List ℕ → ℕ → ℕ → Search
line_of text start end = record { haystack = text; start = start; end = end; anchored = No; earliest = false }

-- these are all matches of the text, for a regex of this pattern with the default settings
pub record AreMatchesOf (pattern text : List ℕ) (matches : List Found) : Type 0 where
  pub regex : RegexState
  pub built : IsBuiltFrom default_builder (pattern ∷ []) regex.choice.nfa
  pub kind : kind_in regex.choice ≡ LeftmostFirst
  pub all : AreAllOf regex.choice text matches

-- the spans are those of this group in the captures of all matches of the text
pub record AreGroupSpans (r : ChoiceState) (text : List ℕ) (group : ℕ) (spans : List (Option Span)) : Type 0 where
  pub caught : List Captured
  pub all : AreAllCaught r text caught
  pub spans_are : spans ≡ map (λ c. group_span c group) caught

-- whether the engine finds a match in the line, as a text of its own
abbrev pub pikevm_finds : Pike → List ℕ → Bool
pikevm_finds vm line = finds vm.nfa (kind_of vm) false (whole line)

abbrev pub backtracker_finds : Backtracker → List ℕ → Bool
backtracker_finds engine line = finds engine.nfa LeftmostFirst false (whole line)

-- a search of the text for a match that starts at this offset
abbrev pub starting_at : List ℕ → ℕ → Search
starting_at text at = record (whole text) { start = at; anchored = Yes }

-- whether a match of each engine starts at this offset
abbrev pub both_start : Pike → Backtracker → List ℕ → ℕ → Bool
both_start vm engine text at = finds vm.nfa (kind_of vm) false (starting_at text at)
    && finds engine.nfa LeftmostFirst false (starting_at text at)

-- no such offset is before the end
abbrev pub NoCommonStartBefore : Pike → Backtracker → List ℕ → ℕ → Type 0
NoCommonStartBefore vm engine text end = (k : ℕ) → k < end → both_start vm engine text k ≡ false

-- the first offset at which a match of each engine starts, if there is one
abbrev pub IsFirstCommonStart : Pike → Backtracker → List ℕ → Option ℕ → Type 0
IsFirstCommonStart vm engine text first = MatchOption first (NoCommonStartBefore vm engine text (length text))
    (λ at. (at < length text) × (both_start vm engine text at ≡ true) × NoCommonStartBefore vm engine text at)

-- the star
abbrev pub star : ℕ
star = 42

-- whether the offset is in the span, if there is one
abbrev pub is_within : Option Span → ℕ → Bool
is_within None at = false
is_within (Some span) at = nat_le span.start at && nat_lt at span.end

-- whether the group of this name holds the byte at this offset in one of the matches
abbrev pub is_hidden : List Captured → List ℕ → ℕ → Bool
is_hidden caught name at = list_any (λ c. is_within (named_span c name) at) caught

-- the text, with a star in place of each byte that is hidden
abbrev pub starred : List Captured → List ℕ → List ℕ → List ℕ
starred caught name text = map (λ p. if is_hidden caught name p.0 then star else p.1) (enumerate_from 0 text)

-- what the group holds in the matches of the text is stars, and the rest of the text is as it was
pub record IsRedacted (c : ChoiceState) (name text redacted : List ℕ) : Type 0 where
  pub caught : List Captured
  pub are : AreRows c.nfa (kind_in c) false (whole text) (map row_of caught)
  pub groups : All (HasGroups c.nfa) caught
  pub stars : redacted ≡ starred caught name text
