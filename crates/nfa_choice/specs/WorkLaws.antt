-- Laws of the work of a whole iteration by a choice, or by an engine that shows itself as one, by the totals of both
-- its caches.
use Rattle.std.specs.Prelude.{ℕ, ◌+◌, ◌*◌, List, length}
use Rattle.nfa_search_base.specs.Common.{Found, Search, Automaton, span_len, Row}
use Rattle.nfa_engines.specs.IterationLaws.{AddsAtMost, backtracker_totals, pike_totals}
use Rattle.nfa_choice.specs.ChoiceState.{ChoiceState}
use Rattle.nfa_choice.specs.Iterations.{ChoiceEngine, CapturesOn, CapturesToEnd, FindsOn, FindsToEnd}

-- the totals of each cache rose by at most `limit` scans of the span of x, and by no more turns than these may make
pub record ChoiceAddsAtMost (limit : ℕ) (x : Search) (old new : ChoiceState) : Type 0 where
  pub back : AddsAtMost limit old.nfa x (backtracker_totals old.back) (backtracker_totals new.back)
  pub pike : AddsAtMost limit old.nfa x (pike_totals old.pike) (pike_totals new.pike)

module _ {C : Type 0} (e : ChoiceEngine C) where
  -- A limit on scans.
  module _ (limit : Automaton → Search → ℕ → ℕ) where
    -- all matches are found within it
    abbrev pub MatchesAreWithin : Type 0
    MatchesAreWithin =
        (x : Search) (ms : List Found) (old new : C) → FindsToEnd e x ms old new
        → ChoiceAddsAtMost (limit (e.choice old).nfa x (length ms)) x (e.choice old) (e.choice new)

    -- all rows of captures are found within it
    abbrev pub RowsAreWithin : Type 0
    RowsAreWithin =
        (x : Search) (rows : List Row) (old new : C) → CapturesToEnd e x rows old new
        → ChoiceAddsAtMost (limit (e.choice old).nfa x (length rows)) x (e.choice old) (e.choice new)

  -- At most two scans for each byte of the span, and `more` besides.
  module _ (more : ℕ) where
    -- no more are made by an iteration over matches, however far it goes
    abbrev pub FindsWithin : Type 0
    FindsWithin =
        (x : Search) (old new : C) → FindsOn e x old new
        → ChoiceAddsAtMost (2 * span_len x + more) x (e.choice old) (e.choice new)

    -- nor by one over captures
    abbrev pub CapturesCostWithin : Type 0
    CapturesCostWithin =
        (x : Search) (old new : C) → CapturesOn e x old new
        → ChoiceAddsAtMost (2 * span_len x + more) x (e.choice old) (e.choice new)
