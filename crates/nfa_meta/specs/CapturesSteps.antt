-- Steps over the captures of a text that borrow a regex for each step.
use Rattle.std.specs.Prelude.{◌≡◌, ℕ, false, List, Option, Result}
use Rattle.nfa_search_base.specs.Common.{Captured, GivesCaptures, HasGroups, WithCache, WithCaptures, fresh, row_span, steps_iter_state, takes_steps, whole}
use Rattle.nfa_search_base.specs.declared.error.SearchError.{SearchError}
use Rattle.nfa_search_base.specs.declared.iter.steps.Steps.{Steps}
use Rattle.nfa_choice.specs.Iterations.{AsksRowBy}
use Rattle.nfa_meta.specs.RegexState.{RegexState}
use Rattle.nfa_meta.specs.WindowRuns.{by_window}

-- steps over the captures of the text that have not begun, with captures to fill that have the groups of the regex
pub record BeginsCaptures (r : RegexState) (text : List ℕ) (s : Steps (WithCaptures (Unit {0}))) : Type 0 where
  pub iter_state : steps_iter_state s ≡ fresh (whole text)
  pub going : s.done ≡ false
  pub groups : HasGroups r.choice.nfa s.backend.captures

-- a call of steps over captures that borrow the regex for it
abbrev pub captures_call : Steps (WithCache (WithCaptures (Unit {0})) RegexState) → Option (Result Captured SearchError)
    → Steps (WithCache (WithCaptures (Unit {0})) RegexState) → Type 0
captures_call = takes_steps row_span (AsksRowBy by_window) (λ q. GivesCaptures q.backend)
