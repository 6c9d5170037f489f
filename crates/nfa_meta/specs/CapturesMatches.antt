-- The iterator over the captures of a regex.
use Rattle.std.specs.Prelude.{ℕ, ◌+◌, ◌*◌, false, List, [], Option, Result}
use Rattle.std.specs.Borrow.{Bor, Fml}
use Rattle.std.specs.Io.BufRead.{Rests}
use mir.Syntax.{named}
use Rattle.nfa_search_base.specs.Common.{AnswersRow, CapturesGiven, MutBor, Search, Captured, whole, span_len, GivesKept, WithCaptures, GivesStepsWith, LendsItem, StepsWith, count_left}
use Rattle.nfa_search_base.specs.declared.error.SearchError.{SearchError}
use Rattle.nfa_choice.specs.ChoiceState.{kind_in}
use Rattle.nfa_choice.specs.Iterations.{CapturesNextBy}
use Rattle.nfa_meta.specs.RegexState.{KeepsRegex, RegexState}
use Rattle.nfa_meta.specs.WindowRuns.{by_window}
use Rattle.nfa_meta.specs.Work.{WorksWithin}
use Rattle.nfa_meta.specs.declared.regex.captures_iter.CapturesMatches.{CapturesMatches}
use Rattle.nfa_meta.specs.contracts.regex.captures_iter.CapturesMatches.{the_row}

-- the steps of the iterator, and the engine that it borrows
abbrev pub captures_steps : CapturesMatches → StepsWith (WithCaptures (Unit {0})) RegexState
captures_steps s = record { steps = s.steps; cache = s.regex }

-- the engine that it searches with
abbrev pub captures_regex : CapturesMatches → MutBor RegexState
captures_regex s = s.regex

-- a call
abbrev pub captures_next : CapturesMatches → Option (Result Captured SearchError) → CapturesMatches → Type 0
captures_next s r t = CapturesNextBy by_window captures_steps s r t

-- the calls keep the engine, and what its answers depend on
abbrev pub CapturesGiveKept : CapturesMatches → Type 0
CapturesGiveKept s = GivesStepsWith captures_next captures_steps KeepsRegex s

-- Wherever an iteration over x stops, each engine made at most two scans for each byte of the span, and three more.
abbrev pub CapturesWorkWithin : Search → CapturesMatches → Type 0
CapturesWorkWithin x s =
    GivesKept captures_next (λ p q. WorksWithin (2 * span_len x + 3) 0 x p.regex.now q.regex.now) s

-- its calls give the captures of the text, and keep the engine, which is r
pub record GivesCaught (r : RegexState) (text : List ℕ) (s : CapturesMatches) : Type 0 where
  pub given : CapturesGiven captures_next r.choice.nfa (kind_in r.choice) false
      (AnswersRow r.choice.nfa (kind_in r.choice) false) (whole text) s
  pub keeps : CapturesGiveKept s

-- the maximum number of items still to come
abbrev pub captures_left : CapturesMatches → ℕ
captures_left s = count_left (captures_steps s)

-- once the captures that a call lent are no longer borrowed, it was a call that gave them
abbrev pub LendsNext : MutBor CapturesMatches → Option (Bor Captured) → Fml
LendsNext s lent = Rests (the_row (record { mir = named 0; lft = [] }) (record { mir = named 1; lft = [] })) s
    (LendsItem captures_next captures_left s.now lent)
