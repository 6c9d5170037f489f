-- Laws of the bytes that each match begins with, about the definitions only.
use Rattle.std.specs.Prelude.{ℕ, ◌+◌, ◌<◌, ◌≤◌, Bool, false, List, None, replicate}
use Rattle.nfa_paths.specs.Common.{Search, MatchKind, Automaton, IsAnswer, IsBoolAnswer, IsFindAnswer, IsHalfAnswer}
use Rattle.nfa_engines.specs.Laws.{MatchesNothing}
use Rattle.nfa_engines.specs.StartLaws.{anchored_at, IsFirstStart, IsUnbound}
use Rattle.nfa_facts.specs.LeastLengths.{HasLeast}
use Rattle.nfa_facts.specs.Prefixes.{IsFirstOccurrence, OccursBefore, OccursNowhere, BeginsWith, prefix_of}

-- each match of an NFA begins with its prefix
abbrev pub PrefixBegins : Type 0
PrefixBegins = (nfa : Automaton) → BeginsWith nfa (prefix_of nfa)

-- if the bytes do not occur at a position, the anchored search there has no accepting path
abbrev pub NothingWithoutBytes : Type 0
NothingWithoutBytes =
    (nfa : Automaton) (x : Search) (bytes : List ℕ) (at : ℕ) → BeginsWith nfa bytes
    → ¬ OccursBefore x.haystack x.end bytes at → MatchesNothing nfa (anchored_at x at)

-- if they occur nowhere from a first start up to a position, the position is a first start, too
abbrev pub FirstStartMovesOn : Type 0
FirstStartMovesOn =
    (nfa : Automaton) (x : Search) (bytes : List ℕ) (from at : ℕ) → BeginsWith nfa bytes → IsFirstStart nfa x from
    → from ≤ at → ((k : ℕ) → from ≤ k → k < at → ¬ OccursBefore x.haystack x.end bytes k)
    → IsFirstStart nfa x at

-- so the first position from a first start on at which they occur is a first start
abbrev pub FirstStartMovesToOccurrence : Type 0
FirstStartMovesToOccurrence =
    (nfa : Automaton) (x : Search) (bytes : List ℕ) (from at : ℕ) → BeginsWith nfa bytes → IsFirstStart nfa x from
    → IsFirstOccurrence x.haystack x.end bytes from at
    → IsFirstStart nfa x at

-- if they occur nowhere from a first start on, the search has no accepting path
abbrev pub NothingWithoutOccurrence : Type 0
NothingWithoutOccurrence =
    (nfa : Automaton) (x : Search) (bytes : List ℕ) (from : ℕ) → IsUnbound nfa x → BeginsWith nfa bytes
    → IsFirstStart nfa x from
    → OccursNowhere x.haystack x.end bytes from → MatchesNothing nfa x

-- if the span has fewer bytes than each match, the search has no accepting path
abbrev pub NothingInFewerBytes : Type 0
NothingInFewerBytes =
    (nfa : Automaton) (x : Search) (least : ℕ) → IsUnbound nfa x → HasLeast nfa least → x.end < x.start + least
    → MatchesNothing nfa x

-- a search without an accepting path has an answer without a pattern, and whose slots are `None`
abbrev pub NothingIsNoAnswer : Type 0
NothingIsNoAnswer =
    (nfa : Automaton) (kind : MatchKind) (earliest : Bool) (x : Search) (n : ℕ) → MatchesNothing nfa x
    → IsAnswer nfa kind earliest x None (replicate n None)

-- it has no match
abbrev pub NothingIsNoMatch : Type 0
NothingIsNoMatch =
    (nfa : Automaton) (kind : MatchKind) (earliest : Bool) (x : Search) → MatchesNothing nfa x
    → IsFindAnswer nfa kind earliest x None

-- it has no half match
abbrev pub NothingIsNoHalfMatch : Type 0
NothingIsNoHalfMatch =
    (nfa : Automaton) (kind : MatchKind) (earliest : Bool) (x : Search) → MatchesNothing nfa x
    → IsHalfAnswer nfa kind earliest x None

-- and it finds nothing
abbrev pub NothingIsNotFound : Type 0
NothingIsNotFound =
    (nfa : Automaton) (kind : MatchKind) (earliest : Bool) (x : Search) → MatchesNothing nfa x
    → IsBoolAnswer nfa kind earliest x false
