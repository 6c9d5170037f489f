-- The iterator over the half matches of a regex.
use Rattle.std.specs.Prelude.{◌≡◌, ◌+◌, ◌*◌, List, None, Option, length}
use Rattle.nfa_search_base.specs.Common.{GivesKept, GivesStepsWith, HalfMatch, MutBor, Search, StepsWith, Yields, span_len}
use Rattle.nfa_engines.specs.IterationLaws.{list_scan_limit}
use Rattle.nfa_choice.specs.Iterations.{SearchesBy}
use Rattle.nfa_choice.specs.HalfIterations.{HalvesNextBy}
use Rattle.nfa_meta.specs.RegexState.{KeepsRegex, RegexState, pike_of}
use Rattle.nfa_meta.specs.WindowRuns.{by_ends}
use Rattle.nfa_meta.specs.Work.{WorksWithin}
use Rattle.nfa_meta.specs.declared.regex.half_matches.ByEnds.{ByEnds}
use Rattle.nfa_meta.specs.declared.regex.half_matches.HalfMatches.{HalfMatches}

-- one search for a half match, by the lazy DFA or the choice
abbrev pub FindsHalfAfterDfa : Search → RegexState → RegexState → Type 0
FindsHalfAfterDfa = SearchesBy by_ends

-- the steps of the iterator, and the engine that it borrows
abbrev pub half_steps : HalfMatches → StepsWith ByEnds RegexState
half_steps s = record { steps = s.steps; cache = s.regex }

-- the engine that it searches with
abbrev pub halves_regex : HalfMatches → MutBor RegexState
halves_regex s = s.regex

-- a call
abbrev pub halves_next : HalfMatches → Option HalfMatch → HalfMatches → Type 0
halves_next s r t = HalvesNextBy pike_of FindsHalfAfterDfa half_steps s r t

-- the calls keep the engine, and what its answers depend on
abbrev pub HalvesGiveKept : HalfMatches → Type 0
HalvesGiveKept s = GivesStepsWith halves_next half_steps KeepsRegex s

-- The calls of an iterator over the half matches of x, and those up to its end, cost no more than the searches of an
-- iteration and of a list. If the lazy DFA does not stop, no engine of the choice searches.
pub record HalvesWorkWithin (x : Search) (s : HalfMatches) : Type 0 where
  pub on : GivesKept halves_next (λ p q. WorksWithin (2 * span_len x + 3) 0 x p.regex.now q.regex.now) s
  pub to_end : (xs : List HalfMatch) (t u : HalfMatches) → Yields halves_next s xs t → halves_next t None u
      → WorksWithin (list_scan_limit s.regex.now.choice.nfa x (length xs)) 0 x s.regex.now u.regex.now
  pub rests : GivesKept halves_next (λ p q. q.regex.now.stops ≡ p.regex.now.stops
      → q.regex.now.choice ≡ p.regex.now.choice) s
