-- What of a regex searched: its lazy DFA, or the choice in a window or in the whole span.
use Rattle.std.specs.Prelude.{◌≡◌, ◌<◌, ◌≤◌, ◌⊎◌, ℕ, Bool, false, List, None, Option, Some, replicate}
use Rattle.nfa_paths.specs.Common.{Found, HalfFound, Search, MatchKind, Automaton, IsAnswer, IsBoolAnswer, IsFindAnswer, IsHalfAnswer}
use Rattle.nfa_choice.specs.ChoiceState.{ChoiceState, RunsByRule, SearchedByRule, kind_in}
use Rattle.nfa_choice.specs.Iterations.{ChoiceEngine}
use Rattle.nfa_meta.specs.RegexState.{KeepsRegex, RegexState}
use Rattle.nfa_meta.specs.Windowed.{HasNoWindows, IsWindowed}

-- a search that has windows, and the search of a span in its span
pub record IsWindowOf (nfa : Automaton) (x y : Search) : Type 0 where
  pub windowed : IsWindowed nfa x
  pub haystack : y.haystack ≡ x.haystack
  pub anchored : y.anchored ≡ x.anchored
  pub earliest : y.earliest ≡ x.earliest
  pub from : x.start ≤ y.start
  pub to : y.end ≤ x.end

-- the answers of y are answers of x
pub record AnswersAs (nfa : Automaton) (kind : MatchKind) (x y : Search) : Type 0 where
  pub rows : (pattern : Option ℕ) (slots : List (Option ℕ))
      → IsAnswer nfa kind x.earliest y pattern slots → IsAnswer nfa kind x.earliest x pattern slots
  pub matches : (found : Option Found)
      → IsFindAnswer nfa kind x.earliest y found → IsFindAnswer nfa kind x.earliest x found

-- the answer of x is that nothing matches
pub record HasNoMatch (nfa : Automaton) (kind : MatchKind) (x : Search) : Type 0 where
  pub rows : (n : ℕ) → IsAnswer nfa kind x.earliest x None (replicate n None)
  pub matches : IsFindAnswer nfa kind x.earliest x None

-- the half matches that y finds are those of x, and x finds a match if y does
pub record HalvesAs (nfa : Automaton) (kind : MatchKind) (x y : Search) : Type 0 where
  pub earliest : y.earliest ≡ x.earliest
  pub halves : (half : Option HalfFound)
      → IsHalfAnswer nfa kind x.earliest y half → IsHalfAnswer nfa kind x.earliest x half
  pub found : (found : Bool) → IsBoolAnswer nfa kind false y found → IsBoolAnswer nfa kind false x found

-- the answer of x is that there is no half match
pub record HasNoHalf (nfa : Automaton) (kind : MatchKind) (x : Search) : Type 0 where
  pub half : IsHalfAnswer nfa kind x.earliest x None
  pub found : IsBoolAnswer nfa kind false x false

-- the answer of x is a match that ends where y ends
pub record EndsAtMatch (nfa : Automaton) (kind : MatchKind) (x y : Search) : Type 0 where
  pub half : HalfFound
  pub found : IsHalfAnswer nfa kind x.earliest x (Some half)
  pub ends : half.offset ≡ y.end

-- the choice searched a window of x by its rule, which ends where the match ends
pub record SearchedWindow (x : Search) (old new : ChoiceState) : Type 0 where
  pub window : Search
  pub is : IsWindowOf old.nfa x window
  pub ends : EndsAtMatch old.nfa (kind_in old) x window
  pub runs : RunsByRule old window window.earliest new

-- the choice searched the whole span by its rule, as x has no windows
pub record SearchedWhole (x : Search) (old new : ChoiceState) : Type 0 where
  pub whole : HasNoWindows old.nfa x
  pub runs : SearchedByRule x old new

-- the lazy DFA stopped without an answer, and the choice searched the whole span by its rule
pub record RanAfterStop (x : Search) (earliest : Bool) (old new : RegexState) : Type 0 where
  pub stopped : old.stops < new.stops
  pub runs : RunsByRule old.choice x earliest new.choice

-- The choice did not search, or only since the lazy DFA stopped. `earliest` is the flag of the PikeVM's search.
abbrev pub RunsAfterDfa : Search → Bool → RegexState → RegexState → Type 0
RunsAfterDfa x earliest old new = (new.choice ≡ old.choice) ⊎ RanAfterStop x earliest old new

-- the same, or the choice searched a window, or the whole span of a search that has none
abbrev pub RunsByWindow : Search → RegexState → RegexState → Type 0
RunsByWindow x old new =
    RunsAfterDfa x x.earliest old new ⊎ (SearchedWindow x old.choice new.choice ⊎ SearchedWhole x old.choice new.choice)

-- why the choice searches the whole span of x: it has no windows, or the lazy DFA stopped
abbrev pub NeedsWhole : Search → RegexState → RegexState → Type 0
NeedsWhole x old new = HasNoWindows old.choice.nfa x ⊎ (old.stops < new.stops)

-- why the choice searches y for x: it is a window of x which ends where the match ends, or else the whole span
abbrev pub NeedsPart : Search → Search → RegexState → RegexState → Type 0
NeedsPart x y old new =
    (IsWindowOf old.choice.nfa x y × EndsAtMatch old.choice.nfa (kind_in old.choice) x y)
    ⊎ ((y ≡ x) × NeedsWhole x old new)

-- a regex, whose searches run by windows
abbrev pub by_window : ChoiceEngine RegexState
by_window = record { choice = λ r. r.choice; Runs = RunsByWindow; Keeps = KeepsRegex }

-- a regex that searches for half matches
abbrev pub by_ends : ChoiceEngine RegexState
by_ends = record { choice = λ r. r.choice; Runs = λ x. RunsAfterDfa x x.earliest; Keeps = KeepsRegex }
