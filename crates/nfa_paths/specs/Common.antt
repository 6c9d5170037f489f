-- The words of searches, NFAs and paths that most definitions and proofs cite, passed on from one place.
pub use Rattle.std.specs.Borrow.{Bor, MutBor}
pub use Rattle.std.specs.Fmt.{decimal}
pub use Rattle.std.specs.Fn.{Called, Mut}
pub use Rattle.std.specs.Global.{Vec}
pub use Rattle.std.specs.Io.KnownBytes.{Appends}
pub use Rattle.std.specs.Iterator.{Yields, Count, at_most, Drains}
pub use Rattle.std.specs.Iterator.Runs.{EachRunFrom, ItemsMapTo}
pub use Rattle.std.specs.List.{AllWithin, filter, list_all, list_any, AllAdjacentBelow, Contains, IsDistinct, AllZip, sum_by, after_last, before_first, concat, FoldsTo}
pub use Rattle.std.specs.Option.{option_to_list, option_or, option_map_or, ForSome}
pub use Rattle.std.specs.Str.{bytes_eq, is_utf8}
pub use Rattle.regex_search_core.specs.Boundary.{IsBoundary}
pub use Rattle.regex_search_core.specs.Found.{Found, HalfFound, found_of, half_found_of, half_at}
pub use Rattle.regex_search_core.specs.Groups.{group_named, groups_at, slot_at, slot_count, explicit_slot}
pub use Rattle.regex_search_core.specs.PatternSets.{patterns_of, size_of_set, with_pattern, number_of}
pub use Rattle.regex_search_core.specs.Search.{Search, is_anchored, search_of, whole}
pub use Rattle.regex_search_core.specs.Slots.{Captured, group_span, match_of, named_span}
pub use Rattle.regex_search_core.specs.declared.primitives.PatternID.{PatternID}
pub use Rattle.regex_search_core.specs.declared.search.Anchored.{Anchored}
pub use Rattle.regex_search_core.specs.declared.search.Anchored.TheVariants.{No, Pattern, Yes}
pub use Rattle.regex_search_core.specs.declared.search.HalfMatch.{HalfMatch}
pub use Rattle.regex_search_core.specs.declared.search.Input.{Input}
pub use Rattle.regex_search_core.specs.declared.search.Match.{Match}
pub use Rattle.regex_search_core.specs.declared.search.MatchKind.{MatchKind}
pub use Rattle.regex_search_core.specs.declared.search.MatchKind.TheVariants.{LeftmostFirst}
pub use Rattle.regex_search_core.specs.declared.search.Span.{Span}
pub use Rattle.thompson_nfa.specs.Automaton.{Automaton, Fail, IsAutomaton, LeadsBelow, Node, PatternBelow, SlotBelow, node_of}
pub use Rattle.thompson_nfa.specs.Automaton.Node.{BinaryUnion, ByteRange, Capture, Dense, Look, Sparse, Union}
pub use Rattle.thompson_nfa.specs.Flaws.{pattern_of, slot_of}
pub use Rattle.thompson_nfa.specs.Looks.{is_word_byte, look_holds}
pub use Rattle.thompson_nfa.specs.declared.look.Look.TheVariants.{EndLF, StartLF, StartLine, WordEndHalfUnicode, WordEndUnicode, WordStartHalfUnicode, WordStartUnicode, WordUnicode, WordUnicodeNegate}
pub use Rattle.thompson_nfa.specs.declared.state.Transition.{Transition}
unfoldable pub use Rattle.nfa_paths.specs.Exploring.{ExploresTo, seeds}
pub use Rattle.nfa_paths.specs.Exploring.{Hit, Searching, Slots, Task}
pub use Rattle.nfa_paths.specs.Exploring.Task.{Explore, Load, Restore}
pub use Rattle.nfa_paths.specs.Graphs.{IsFirst, Path, ComesBefore, EndsWith, HeadIs, In, IsEarliestPath, IsFirstPath, Linked, NoPath, NoRepeats, Pair, PathTo}
pub use Rattle.nfa_paths.specs.Kinds.{HoldsMatch, NoMatch, Scanning, before_match, first_match, last_match}
pub use Rattle.nfa_paths.specs.Overlaps.{HoldsPattern, IsEarliestInsertable, IsFirstBefore, IsOverlapResult, IsPatternOf, IsPermitted, IsPermittedEnd, pattern_at}
unfoldable pub use Rattle.nfa_paths.specs.Paths.{node_at}
pub use Rattle.nfa_paths.specs.Paths.{Holding, IsAnswer, IsBoolAnswer, IsFindAnswer, IsHalfAnswer, IsMatch, IsScanAnswer, IsSearchAnswer, IsSureMatch, IsWithinScans, IsWork, byte_at, degree, edges, epsilon_states, holding_at, is_match, is_utf8_empty, max_scans, pairs_from, path_half, path_pattern, raised, reads_byte, rests, slot_among, space, span_len, start_state, starts, target_on, total_degree}
pub use Rattle.nfa_paths.specs.Restarts.{GivesPath, max_scan_turns, AreUnset}
unfoldable pub use Rattle.nfa_paths.specs.Restarts.{marked_sum, repeated}
