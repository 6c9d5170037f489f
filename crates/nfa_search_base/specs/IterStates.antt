-- The steps of an iteration over the matches of a haystack.
use Rattle.std.specs.Prelude.{◌≡◌, ℕ, ◌+◌, ◌-◌, ◌<◌, ◌≤◌, max, Bool, false, ◌&&◌, Option, None, Some, IfSome, Result, Ok, Err, IsOk, ◌==◌}
use Rattle.std.specs.Bool.{MatchBool}
use Rattle.nfa_paths.specs.Common.{ForSome, Found, HalfFound, Search, Span}
pub use Rattle.nfa_search_base.specs.declared.error.SearchError.{SearchError}
pub use Rattle.nfa_search_base.specs.declared.error.SearchError.TheVariants.{HaystackTooLong, Memory}

-- the answer of a search for an X: one, none, or an error
abbrev pub Answer : Type 0 → Type 0
Answer X = Result (Option X) SearchError

-- the state of an iteration: its next search, and the end of the last match
pub record IterState : Type 0 where
  pub at : Search
  pub last : Option ℕ

-- an iteration before its first match
abbrev pub fresh : Search → IterState
fresh s = record { at = s; last = None }

-- t is s, except for its start
pub record SameButStart (s t : Search) : Type 0 where
  pub haystack : t.haystack ≡ s.haystack
  pub end : t.end ≡ s.end
  pub anchored : t.anchored ≡ s.anchored
  pub earliest : t.earliest ≡ s.earliest

-- the last match, if there was one, ends at or before the start
abbrev pub EndsBy : Option ℕ → ℕ → Type 0
EndsBy last start = ForSome last (λ e. e ≤ start)

-- the last match ended before the start
abbrev pub IsPast : IterState → Type 0
IsPast w = ForSome w.last (λ e. e < w.at.start)

-- the last match ended at e
abbrev pub ended_at : Option ℕ → ℕ → Bool
ended_at None e = false
ended_at (Some x) e = x == e

-- the iteration with its start moved one byte on
abbrev pub shifted : IterState → IterState
shifted w = record w { at = record w.at { start = w.at.start + 1 } }

-- the number of ends that a match may still have
abbrev pub ends_left : IterState → ℕ
ends_left w = w.at.end + 1 - first_end w.last
  where
    first_end : Option ℕ → ℕ
    first_end None = w.at.start
    first_end (Some e) = max w.at.start (e + 1)

-- An answer moves the iteration by the span of its match: `Some` span, or `None` if it has no match.

-- the match is in the span of the search
abbrev pub LiesIn : Search → Option Span → Type 0
LiesIn s match = IfSome match (λ p. (s.start ≤ p.start) × (p.end ≤ s.end))

-- the match is empty and at the end of the last match
abbrev pub repeats : IterState → Option Span → Bool
repeats w (Some p) = (p.start == p.end) && ended_at w.last p.end
repeats w None = false

-- the iteration after an answer: a match moves the start, and the last end, to its end
abbrev pub after : IterState → Option Span → IterState
after w (Some p) = record { at = record w.at { start = p.end }; last = Some p.end }
after w None = w

-- the match starts at or after the last end, and ends after it
abbrev pub ComesAfter : IterState → Option Span → Type 0
ComesAfter w match = IfSome match (λ p. ForSome w.last (λ e. (e ≤ p.start) × (e < p.end)))

-- a match leaves fewer ends, and no match leaves at most as many
abbrev pub LeavesFewer : IterState → Option Span → IterState → Type 0
LeavesFewer w (Some p) w' = ends_left w' < ends_left w
LeavesFewer w None w' = ends_left w' ≤ ends_left w

-- the span of a match
abbrev pub span_of : Found → Span
span_of m = record { start = m.start; end = m.end }

-- the span of a half match: its offset, without bytes
abbrev pub half_span_of : HalfFound → Span
half_span_of m = record { start = m.offset; end = m.offset }

-- A match is an X, and `span` gives its span.
module _ {X : Type 0} (span : X → Span) where
  -- the span of the answer's match
  abbrev pub answer_span : Answer X → Option Span
  answer_span (Ok (Some x)) = Some (span x)
  answer_span (Ok None) = None
  answer_span (Err e) = None

  -- the answer's match, if there is one, is in the span of the search
  abbrev pub AnswerIsInside : Search → Answer X → Type 0
  AnswerIsInside s a = LiesIn s (answer_span a)

  -- and the answer is not an error
  abbrev pub IsInfalliblyInside : Search → Answer X → Type 0
  IsInfalliblyInside s a = AnswerIsInside s a × IsOk a

  -- A step from the state s and the iteration w gave r: the first answer, or, if that is an empty match at the last
  -- end, the answer from one byte further on.
  pub record Advances {S : Type 0} (asks : S → Search → Answer X → S → Type 0) (s : S) (w : IterState) (r : Answer X)
      (s' : S) (w' : IterState) : Type 0 where
    pub answer : Answer X
    pub between : S
    pub first : asks s w.at answer between
    pub rest : MatchBool (repeats w (answer_span answer))
        (asks between (shifted w).at r s' × (w' ≡ after (shifted w) (answer_span r)))
        ((r ≡ answer) × (s' ≡ between) × (w' ≡ after w (answer_span r)))
