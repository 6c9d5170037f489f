-- The iterators over the spans around the matches of a text.
use Rattle.std.specs.Prelude.{◌≡◌, ◌+◌, ℕ, zero, suc, All, List, length, MatchBool, None, Option, Some, false, true, min, if◌then◌else◌, [], ◌++◌}
use Rattle.nfa_paths.specs.Common.{Count, at_most}
use Rattle.nfa_search_base.specs.Common.{EachRunFrom, GivesKept, KeepsStepsWith, Match, MatchesGiven, MutBor, Span, found_of, matches_left, steps_iter_state, whole}
use Rattle.nfa_choice.specs.ChoiceState.{ChoiceState, kind_in}
use Rattle.nfa_meta.specs.Gaps.{IsSpanIn, IsSplitUpTo}
use Rattle.nfa_meta.specs.Matches.{finds_next, finds_regex, finds_steps}
use Rattle.nfa_meta.specs.RegexState.{KeepsRegex, RegexState}
use Rattle.nfa_meta.specs.declared.regex.split_iter.Split.{Split}
use Rattle.nfa_meta.specs.declared.regex.split_iter.SplitN.{SplitN}

-- The spans are those around the first matches of the text: as many spans as the limit, or all, if there are fewer. The
-- limit may be 0, for no span.
abbrev pub IsSplitWithin : ChoiceState → List ℕ → ℕ → List Span → Type 0
IsSplitWithin r text zero spans = spans ≡ []
IsSplitWithin r text (suc n) spans = IsSplitUpTo r text (suc n) spans

-- the items are the first ones of some list of which this holds
pub record BeginsOne {X : Type 0} (Is : List X → Type 0) (items : List X) : Type 0 where
  pub all : List X
  pub is : Is all
  pub more : List X
  pub all_is : all ≡ items ++ more

-- the engine that the iterator searches with
abbrev pub split_regex : Split → MutBor RegexState
split_regex s = finds_regex s.matches

-- what is left of the text
abbrev pub rest_of : Split → Span
rest_of s = record { start = s.start; end = s.end }

-- a call that ends the iteration gives what is left, unless the iteration has ended
abbrev pub ends_split : Split → Option Span → Split → Type 0
ends_split s r t = MatchBool s.done ((r ≡ None) × (t ≡ s))
    ((r ≡ Some (rest_of s)) × (t.done ≡ true) × (t.matches ≡ s.matches))

-- A call that found this match gives the span before it, and goes on after it. If it found none, it gives what is left.
abbrev pub SplitGives : Split → Option Match → Option Span → Split → Type 0
SplitGives s None r t = (r ≡ Some (rest_of s)) × (t.done ≡ true)
SplitGives s (Some m) r t = (r ≡ Some (record { start = s.start; end = (found_of m).start }))
    × (t.start ≡ (found_of m).end) × (t.end ≡ s.end) × (t.done ≡ false)

-- a call, before the iteration has ended
pub record SplitStep (s : Split) (r : Option Span) (t : Split) : Type 0 where
  pub found : Option Match
  pub step : finds_next s.matches found t.matches
  pub gives : SplitGives s found r t

-- a call
abbrev pub split_next : Split → Option Span → Split → Type 0
split_next s r t = MatchBool s.done ((r ≡ None) × (t ≡ s)) (SplitStep s r t)

-- the maximum number of spans still to come
abbrev pub split_bound : Split → ℕ
split_bound s = if s.done then 0 else
    matches_left (finds_steps s.matches).steps.done (steps_iter_state (finds_steps s.matches).steps) + 1

abbrev pub split_left : Split → Count
split_left s = at_most (split_bound s)

-- the calls keep the engine, and what its answers depend on
abbrev pub SplitGivesKept : Split → Type 0
SplitGivesKept s =
    GivesKept split_next (λ p q. KeepsStepsWith KeepsRegex (finds_steps p.matches) (finds_steps q.matches)) s

-- the spans are those of the text
abbrev pub SplitGivesIn : List ℕ → Split → Type 0
SplitGivesIn text s = EachRunFrom split_next s (λ p. All (IsSpanIn (length text)) p.items)

-- An iterator that begins with the text: its matches are those of the text.
pub record BeginsSplit (r : ChoiceState) (text : List ℕ) (s : Split) : Type 0 where
  pub given : MatchesGiven r.nfa (kind_in r) (whole text) finds_next s.matches
  pub start : s.start ≡ 0
  pub end : s.end ≡ length text
  pub going : s.done ≡ false

-- the engine that the iterator with a limit searches with
abbrev pub splitn_regex : SplitN → MutBor RegexState
splitn_regex s = split_regex s.spans

-- A call, by the number of spans that may still come. The last one ends the iteration.
abbrev pub SplitNGives : ℕ → SplitN → Option Span → SplitN → Type 0
SplitNGives zero s r t = (r ≡ None) × (t ≡ s)
SplitNGives (suc zero) s r t = ends_split s.spans r t.spans × (t.left ≡ 0)
SplitNGives (suc (suc n)) s r t = split_next s.spans r t.spans × (t.left ≡ suc n)

-- a call
abbrev pub splitn_next : SplitN → Option Span → SplitN → Type 0
splitn_next s r t = SplitNGives s.left s r t

abbrev pub splitn_left : SplitN → Count
splitn_left s = at_most (min s.left (split_bound s.spans))

abbrev pub SplitNGivesKept : SplitN → Type 0
SplitNGivesKept s = GivesKept splitn_next
    (λ p q. KeepsStepsWith KeepsRegex (finds_steps p.spans.matches) (finds_steps q.spans.matches)) s

abbrev pub SplitNGivesIn : List ℕ → SplitN → Type 0
SplitNGivesIn text s = EachRunFrom splitn_next s (λ p. All (IsSpanIn (length text)) p.items)
