-- What an NFA with fewer captures answers is what the NFA does.
use Rattle.std.specs.Prelude.{◌≡◌, ◌≤◌, ℕ, Bool, List, Option, length}
use Rattle.nfa_paths.specs.Common.{Found, HalfFound, slot_count, Search, MatchKind, Automaton, IsAutomaton, IsOverlapResult, IsAnswer, IsBoolAnswer, IsFindAnswer, IsHalfAnswer}
use Rattle.nfa_facts.specs.Kept.{with_captures}
use Rattle.nfa_facts.specs.declared.captures.which.WhichCaptures.{WhichCaptures}
use Rattle.nfa_facts.specs.declared.captures.which.WhichCaptures.TheVariants as which

-- whether there is a match
abbrev pub FindsAlike : Type 0
FindsAlike = (which : WhichCaptures) (nfa small : Automaton) (kind : MatchKind) (earliest : Bool) (x : Search)
    (found : Bool) → small ≡ with_captures which nfa → IsBoolAnswer small kind earliest x found
    → IsBoolAnswer nfa kind earliest x found

-- half matches
abbrev pub HalvesAlike : Type 0
HalvesAlike = (which : WhichCaptures) (nfa small : Automaton) (kind : MatchKind) (earliest : Bool) (x : Search)
    (half : Option HalfFound) → small ≡ with_captures which nfa → IsHalfAnswer small kind earliest x half
    → IsHalfAnswer nfa kind earliest x half

-- sets of patterns
abbrev pub SetsAlike : Type 0
SetsAlike = (which : WhichCaptures) (nfa small : Automaton) (x : Search) (kind : MatchKind) (earliest : Bool)
    (old new : List Bool) → small ≡ with_captures which nfa → IsOverlapResult small x kind earliest old new
    → IsOverlapResult nfa x kind earliest old new

-- the pattern, and the slots that are kept
abbrev pub SlotsAlike : Type 0
SlotsAlike = (which : WhichCaptures) (nfa small : Automaton) (kind : MatchKind) (earliest : Bool) (x : Search)
    (pattern : Option ℕ) (slots : List (Option ℕ)) → small ≡ with_captures which nfa
    → length slots ≤ slot_count small.groups → IsAnswer small kind earliest x pattern slots
    → IsAnswer nfa kind earliest x pattern slots

-- matches, if group 0 of each pattern is kept
abbrev pub MatchesAlike : Type 0
MatchesAlike = (nfa small : Automaton) (kind : MatchKind) (earliest : Bool) (x : Search) (found : Option Found)
    → IsAutomaton nfa → small ≡ with_captures which.Implicit nfa → IsFindAnswer small kind earliest x found
    → IsFindAnswer nfa kind earliest x found

-- all captures of an NFA are those that it has
abbrev pub AllAreKept : Type 0
AllAreKept = (nfa : Automaton) → IsAutomaton nfa → with_captures which.All nfa ≡ nfa
