-- What a search needs: frames and scans.
use Rattle.std.specs.Prelude.{ℕ, ◌-◌, Bool, List, max, length, nat_lt, if◌then◌else◌}
use Rattle.regex_search_core.specs.declared.search.MatchKind.TheVariants.{All as AllMatches}
use Rattle.nfa_paths.specs.Common.{sum_by, size_of_set, MatchKind, Automaton, Node, LeftmostFirst, Union, BinaryUnion, Capture}

-- the most frames that a state pushes, besides the state that it goes on with
abbrev pub room_of : Node → ℕ
room_of (Union alternates) = length alternates - 1
room_of (BinaryUnion alt1 alt2) = 1
room_of (Capture next slot) = 1
room_of _ = 0

-- the frames that the stack of a search needs: those of all states together, and at least one
abbrev pub stack_frames : Automaton → ℕ
stack_frames nfa = max (sum_by room_of nfa.states) 1

-- The scans of a search for the patterns of all matches: one, or none under leftmost first if the set holds a pattern.
abbrev pub overlap_scans : MatchKind → List Bool → ℕ
overlap_scans AllMatches set = 1
overlap_scans LeftmostFirst set = if nat_lt 0 (size_of_set set) then 0 else 1
