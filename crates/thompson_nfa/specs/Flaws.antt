-- the first flaw in the parts of an NFA, and the result of making it
use Rattle.std.specs.Prelude.{◌≡◌, ℕ, ◌<◌, List, length, take, All, slice_index_or, ◌++◌, Option, None, Some, Result, Ok, Err, codes, decimal}
use Rattle.regex_search_core.specs.Groups.{slot_count}
use Rattle.thompson_nfa.specs.Automaton.{Node, Capture, Match, Fail, LeadsBelow, SlotBelow, PatternBelow, Automaton, IsAutomaton, AreStatesNumbered, IsNumbered, AreSlotsWithin, ArePatternsWithin, AreGroupsOfPatterns}
use Rattle.thompson_nfa.specs.declared.flaw.Referrer.{Referrer}
use Rattle.thompson_nfa.specs.declared.flaw.Referrer.TheVariants as holder
use Rattle.thompson_nfa.specs.declared.flaw.Flaw.{Flaw}
use Rattle.thompson_nfa.specs.declared.flaw.Flaw.TheVariants.{Empty, State, Slot, Pattern, Groups}
use Rattle.thompson_nfa.specs.declared.nfa.BuildError.{BuildError}
use Rattle.thompson_nfa.specs.declared.nfa.BuildError.TheVariants as error

-- the text of a place that holds the number of a state
abbrev pub referrer_text : Referrer → List ℕ
referrer_text holder.Anchored = codes "the anchored start"
referrer_text holder.Unanchored = codes "the unanchored start"
referrer_text (holder.Pattern i) = codes "the start of pattern " ++ decimal i
referrer_text (holder.State i) = codes "state " ++ decimal i

-- the index of the first element that fails; none if all pass; x, which passes, is read past the last element
abbrev pub IsFirstFailing : {X : Type 0} → (X → Type 0) → X → List X → Option ℕ → Type 0
IsFirstFailing P x xs None = All P xs
IsFirstFailing P x xs (Some i) = All P (take i xs) × (¬ P (slice_index_or xs i x))

-- the slot that a Capture writes
abbrev pub slot_of : Node → Option ℕ
slot_of (Capture next slot) = Some slot
slot_of _ = None

-- the pattern that a Match matches
abbrev pub pattern_of : Node → Option ℕ
pattern_of (Match pattern) = Some pattern
pattern_of _ = None

-- the first state that fails, and the number that it names; none if no state fails
abbrev pub NamesFirst : (Node → Type 0) → (Node → Option ℕ) → List Node → Option (ℕ × ℕ) → Type 0
NamesFirst P number_in states None = All P states
NamesFirst P number_in states (Some (i, number)) =
    IsFirstFailing P Fail states (Some i) × (number_in (slice_index_or states i Fail) ≡ Some number)

-- the first referrer whose number names no state: the two starts, then those of the patterns, then the states
abbrev pub NamesFirstReferrer : List Node → ℕ → ℕ → List ℕ → Option Referrer → Type 0
NamesFirstReferrer states anchored unanchored patterns None = AreStatesNumbered states anchored unanchored patterns
NamesFirstReferrer states anchored unanchored patterns (Some holder.Anchored) = ¬ (anchored < length states)
NamesFirstReferrer states anchored unanchored patterns (Some holder.Unanchored) =
    (anchored < length states) × (¬ (unanchored < length states))
NamesFirstReferrer states anchored unanchored patterns (Some (holder.Pattern i)) =
    (anchored < length states) × (unanchored < length states)
    × IsFirstFailing (λ s. s < length states) 0 patterns (Some i)
NamesFirstReferrer states anchored unanchored patterns (Some (holder.State i)) =
    (anchored < length states) × (unanchored < length states) × All (λ s. s < length states) patterns
    × IsFirstFailing (LeadsBelow (length states)) Fail states (Some i)

-- the first test of an NFA that fails, and the first place that fails it; none if all tests pass
abbrev pub IsFirstFlaw : Automaton → Option Flaw → Type 0
IsFirstFlaw a None = IsAutomaton a
IsFirstFlaw a (Some Empty) = length a.states ≡ 0
IsFirstFlaw a (Some (State h)) =
    (0 < length a.states) × NamesFirstReferrer a.states a.anchored a.unanchored a.patterns (Some h)
IsFirstFlaw a (Some (Slot state slot)) =
    IsNumbered a × NamesFirst (SlotBelow (slot_count a.groups)) slot_of a.states (Some (state, slot))
IsFirstFlaw a (Some (Pattern state pattern)) =
    IsNumbered a × AreSlotsWithin a
    × NamesFirst (PatternBelow (length a.patterns)) pattern_of a.states (Some (state, pattern))
IsFirstFlaw a (Some (Groups groups patterns)) =
    IsNumbered a × AreSlotsWithin a × ArePatternsWithin a × (¬ AreGroupsOfPatterns a)
    × (groups ≡ length a.groups) × (patterns ≡ length a.patterns)

-- the error that a flaw gives: its variant
abbrev pub error_of : Flaw → BuildError
error_of Empty = error.Empty
error_of (State holder) = error.State
error_of (Slot state slot) = error.Slot
error_of (Pattern state pattern) = error.Pattern
error_of (Groups groups patterns) = error.Groups

-- the result is the NFA if it has no flaw, and otherwise the variant of its first flaw
abbrev pub IsBuilt : Automaton → Result Automaton BuildError → Type 0
IsBuilt a (Ok nfa) = IsFirstFlaw a None × (nfa ≡ a)
IsBuilt a (Err e) = (f : Flaw) × IsFirstFlaw a (Some f) × (e ≡ error_of f)
