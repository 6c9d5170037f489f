-- The iterator over the matches of a regex.
use Rattle.std.specs.Prelude.{◌+◌, ◌*◌, length, List, None, Option}
use Rattle.nfa_search_base.specs.Common.{MutBor, Yields, Found, Search, span_len, Match, IsKnownFrom, WithCache, GivesStepsWith, StepsWith, GivesKept, Answer}
use Rattle.nfa_pikevm.specs.Finding.{IsSureOf}
use Rattle.nfa_engines.specs.IterationLaws.{list_scan_limit}
use Rattle.nfa_choice.specs.Iterations.{FindsBy, FindsNextBy, TellsMatch}
use Rattle.nfa_meta.specs.RegexState.{KeepsRegex, RegexState, pike_of}
use Rattle.nfa_meta.specs.WindowRuns.{by_window}
use Rattle.nfa_meta.specs.Work.{WorksWithin}
use Rattle.nfa_meta.specs.declared.regex.find_iter.ByWindow.{ByWindow}
use Rattle.nfa_meta.specs.declared.regex.find_iter.FindMatches.{FindMatches}

-- the steps of the iterator, and the engine that it borrows
abbrev pub finds_steps : FindMatches → StepsWith ByWindow RegexState
finds_steps s = record { steps = s.steps; cache = s.regex }

-- the engine that it searches with
abbrev pub finds_regex : FindMatches → MutBor RegexState
finds_regex s = s.regex

-- what is known of searches like this one is right
abbrev pub MayFindByWindow : WithCache ByWindow RegexState → Search → Type 0
MayFindByWindow s x = IsKnownFrom IsSureOf (pike_of s.cache) x s.backend.known

-- One search for a match may answer this: what was known of it, or what the engine finds. What is known then is right.
pub record AsksByWindow (s : WithCache ByWindow RegexState) (x : Search) (a : Answer Found)
    (t : WithCache ByWindow RegexState) : Type 0 where
  pub tells : TellsMatch s.cache.choice x a
  pub work : FindsBy by_window x s.cache t.cache
  pub knows : MayFindByWindow t x

-- a call
abbrev pub finds_next : FindMatches → Option Match → FindMatches → Type 0
finds_next s r t = FindsNextBy AsksByWindow finds_steps s r t

-- the calls keep the engine, and what its answers depend on
abbrev pub FindsGiveKept : FindMatches → Type 0
FindsGiveKept s = GivesStepsWith finds_next finds_steps KeepsRegex s

-- Wherever an iteration over x stops, each engine made at most two scans for each byte of the span, and three more. At
-- `None` they made no more than a list of the matches so far takes.
pub record FindsWorkWithin (x : Search) (s : FindMatches) : Type 0 where
  pub on : GivesKept finds_next (λ p q. WorksWithin (2 * span_len x + 3) (2 * length p.regex.now.choice.nfa.groups) x
      p.regex.now q.regex.now) s
  pub to_end : (xs : List Match) (t u : FindMatches) → Yields finds_next s xs t → finds_next t None u
      → WorksWithin (list_scan_limit s.regex.now.choice.nfa x (length xs)) (2 * length s.regex.now.choice.nfa.groups) x
      s.regex.now u.regex.now
