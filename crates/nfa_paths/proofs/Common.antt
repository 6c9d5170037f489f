-- What most proofs cite: words and lemmas of std, and the words of searches, NFAs and paths. Declares nothing.
pub use Rattle.std.proofs.Common.{All, Bool, Bor, Err, IfErr, IfNone, IfOk, IfSome, IsCharBoundary, IsOk, IsSomeAnd, IsTrue, IsUtf8, List, MatchBool, MatchOption, None, Ok, OnErr, OnOk, OnSome, Option, Result, Some, SomeIff, Vec, [], add-one, add-zero, ap, append-nil, append_assoc, ap₂, arith, below_more, bit_or, chars, codes, cond, count_by, decimal, drop, drop-cons, drop-drop, drop_of_length-le, encode_utf8, encode_utf8_all, eq-eqb, false, filter_map, get_or, get_or-set_other, get_or-set_same, if◌then◌else◌, inl, inr, is_some, le-leb, le-ltb, length, length-append, length-drop, length-set, length-take, lit<, lt-ltb, ltb-true, map, min, nat_eq, nat_le, nat_lt, ne_eqb, not, option_and_then, option_map, option_to_list, refl, replicate, reverse, rules, set, set-set, slice_get, slice_index, slice_index_or, slice_range, slice_set, string_bytes, subst, suc, sum, sum_by, sym, take, take_at, true, true≢false, unwrap_or, vec_len, zero, zero-add, ℕ, ⊎_elim, ◌%◌, ◌&&◌, ◌*◌, ◌++◌, ◌+◌, ◌-◌, ◌/◌, ◌<◌, ◌==◌, ◌^◌, ◌||◌, ◌↔◌, ◌∙◌, ◌∷◌, ◌≡◌, ◌≢◌, ◌≤◌, ◌⊎◌, IsSome, is_none, take_while, find, String}
pub use Rattle.std.proofs.lemmas.Bool.{and_from, and_parts, and_right, both_ways, cases_Bool, cases_eq, cases_lt, cond-false, eqb-true, false_from_ne_true, lt-leb, ltb-false, not-false, not-true, or_cases, cond-true}
pub use Rattle.std.proofs.lemmas.Bool.Decides.{eqb_tells, nat_tests}
pub use Rattle.std.proofs.lemmas.Grind.{common_steps, get_or-set_at, get_or_default_zero, reverse_onto, flat_map-append}
pub use Rattle.std.proofs.lemmas.List.{drop-append-le, drop-take, drop_all, drop_at, drop_more, ext_get_or, get_or-append-add, get_or-append_right, get_or-drop, get_or-map, get_or-replicate, get_or_append_left, get_or_default, get_or_past, get_or_push, length-map, length-replicate, length-reverse, length-take-le, length_push, map-append, map-set, map_push, replicate-append-replicate, reverse-append, reverse-reverse, same_lists, set-append_left, set-append_right, set-get_or, set_past, take-append-drop, take-append-le, take-map, take-replicate, take-take, take_all, take_more, take_more_set, with_items_is, flat_map_more, at_drop_more, drop-map}
pub use Rattle.std.proofs.lemmas.List.Elements.{All-append, All-cons, All-drop, All-get_or, All-head, All-map, All-more, All-nil, All-pop, All-push, All-replicate, All-tail, All-take, All-weaker, recursion_from_All, same_from_all_zip, Contains-append_right}
pub use Rattle.std.proofs.lemmas.List.Sums.{AllPass-from_list_all, count_by-le-length, get_or-le-sum_by, suffix_len_is, sum-map, sum_by-append, sum_by-cons, sum_by-set, sum_by-take-le, sum_by_more, sum_by_more_le, sum_by_push, take_while-cons}
pub use Rattle.std.proofs.lemmas.Option.{IfSome_then, get_or_from_slice_get, none-some, same_Some, slice_get-get_or, slice_get-map, slice_get_cases, slice_get_past, slice_get_read, slice_get_within}
pub use Rattle.std.proofs.lemmas.Result.{IfErr-weaker, IfOk-weaker, err_from_is_err_and, on_ok_weaker}
pub use Rattle.std.specs.List.{AllByRecursion, AllZip, FoldsTo, concat, flat_map, join_with_byte, last_or, list_all, list_any, range_with_len, refill, suffix_len, AllWithin, filter, AllAdjacentBelow, Contains}
pub use Rattle.std.specs.Option.{ForSome, option_map_or, option_or}
pub use Rattle.std.proofs.KnownBytes.{Appends-nil, Appends-trans, Appends-kept, Keeps-refl, prepend_known-nil}
pub use Rattle.std.proofs.Math.Bool.{and-true, or-false, and-false, and_self, or_self}
pub use Rattle.std.proofs.Math.Decide.{ℕ_discrete}
pub use Rattle.std.proofs.Math.ListN.{get_or-append}
pub use Rattle.std.proofs.Math.Nat.{mul-le-mul_left, mul-div-le, lt-mul-div-succ, mul-le-mul_right, add-mul, le-max_left}
pub use Rattle.std.proofs.Math.Seq.{drop-append_seam, take-length}
pub use Rattle.std.proofs.lemmas.Iterator.{YieldsList, IsCollectResult}
pub use Rattle.std.proofs.lemmas.Iterator.Consumers.{YieldsList-at, YieldsList-end, map_from_collect, YieldsList-from_deque, YieldsList-from_first}
pub use Rattle.std.proofs.lemmas.List.Folds.{drop_split, list_all-append, list_any_at, list_any-append, Any-from_list_any, flat_map-map}
pub use Rattle.std.proofs.lemmas.List.FromFn.{length-map-range_with_len, get_or-map-range_with_len}
pub use Rattle.std.proofs.lemmas.Slice.Zip.{AllZip-long, AllZip-left, Zip-more, either_empty_from_Zip, all_zipped_more}
pub use Rattle.std.proofs.lemmas.Str.{IsUtf8-from_is_utf8, is_utf8-from_IsUtf8, IsCharBoundary-after_ascii, IsCharBoundary-from_rest, IsCharBoundary-from_take, IsCharBoundary-start, IsUtf8-drop, IsUtf8-encode, length-encode, len_utf8_bounds, encodes-chars, scalars-chars, encode_ascii, len_utf8_ascii}
pub use Rattle.std.specs.Borrow.{MutBor}
pub use Rattle.std.specs.Char.{is_ascii_digit, len_utf8, IsScalar}
pub use Rattle.std.specs.Int.{bit_at, w64, is_in_range}
pub use Rattle.std.specs.Io.KnownBytes.{Appends, Keeps, append_known, prepend_known}
pub use Rattle.std.specs.Str.{bytes_eq, is_utf8, all_scalars}
pub use Rattle.std.specs.Vec.{with_items, vec_items}
pub use Rattle.std.specs.Vec.Iter.{into_iter_items}
pub use Rattle.regex_search_core.specs.Boundary.{IsBoundary}
pub use Rattle.regex_search_core.specs.Found.{Found, HalfFound, found_of, half_found_of, half_at}
pub use Rattle.regex_search_core.specs.Groups.{group_named, groups_at, is_named, names_of, slot_at, slot_count}
pub use Rattle.regex_search_core.specs.PatternSets.{patterns_of, size_of_set, with_pattern, number_of}
pub use Rattle.regex_search_core.specs.Search.{Search, is_anchored, search_of, whole}
pub use Rattle.regex_search_core.specs.Slots.{Captured, group_span, match_of, named_span, offset_at, span_at}
pub use Rattle.regex_search_core.specs.declared.primitives.PatternID.{PatternID}
pub use Rattle.regex_search_core.specs.declared.search.Anchored.{Anchored}
pub use Rattle.regex_search_core.specs.declared.search.Anchored.TheVariants.{No, Pattern, Yes}
pub use Rattle.regex_search_core.specs.declared.search.HalfMatch.{HalfMatch}
pub use Rattle.regex_search_core.specs.declared.search.Input.{Input}
pub use Rattle.regex_search_core.specs.declared.search.Match.{Match}
pub use Rattle.regex_search_core.specs.declared.search.MatchKind.{MatchKind}
pub use Rattle.regex_search_core.specs.declared.search.MatchKind.TheVariants.{LeftmostFirst}
pub use Rattle.regex_search_core.specs.declared.search.Span.{Span}
pub use Rattle.regex_search_core.specs.PatternSetIters.{patterns_left}
pub use Rattle.thompson_nfa.specs.Automaton.{AreGroupsOfPatterns, Automaton, IsAutomaton, LeadsBelow, Node, PatternBelow, SlotBelow, node_of}
pub use Rattle.thompson_nfa.specs.Automaton.Node.{BinaryUnion, ByteRange, Capture, Dense, Fail, Look, Sparse, Union}
unfoldable pub use Rattle.thompson_nfa.specs.Characters.{char_after, char_before, char_of}
pub use Rattle.thompson_nfa.specs.Characters.{char_of_len_after, char_of_len_before, is_some_word, only}
pub use Rattle.thompson_nfa.specs.Flaws.{pattern_of, slot_of}
pub use Rattle.thompson_nfa.specs.Looks.{byte_before, differ, is_byte_at, is_byte_before, is_whole_after, is_whole_before, is_word_after, is_word_before, is_word_byte, is_word_char_after, is_word_char_before, look_holds}
pub use Rattle.thompson_nfa.specs.declared.look.Look.TheVariants.{End, EndCRLF, EndLF, EndLine, Start, StartCRLF, StartLF, StartLine, WordAscii, WordAsciiNegate, WordEndAscii, WordEndHalfAscii, WordEndHalfUnicode, WordEndUnicode, WordStartAscii, WordStartHalfAscii, WordStartHalfUnicode, WordStartUnicode, WordUnicode, WordUnicodeNegate}
pub use Rattle.thompson_nfa.specs.declared.state.State.{State}
pub use Rattle.thompson_nfa.specs.declared.state.Transition.{Transition}
pub use Rattle.thompson_nfa.proofs.FlawLemmas.{passes-at, no-flaw, all-take-suc}
unfoldable pub use Rattle.nfa_paths.specs.Exploring.{ExploresAfter, ExploresTo, next_tasks, seeds}
pub use Rattle.nfa_paths.specs.Exploring.{Hit, Searching, Slots, Task, apply, found, write}
pub use Rattle.nfa_paths.specs.Exploring.Task.{Explore, Load, Restore}
pub use Rattle.nfa_paths.specs.Graphs.{Accepts, FirstAmong, Increasing, IsFirst, IsFirstOfAll, Path, StopsAtTarget, Before, BeforeAfter, ComesBefore, Earlier, EndsWith, HeadIs, In, IsEarliestLastPath, IsEarliestPath, IsEnd, IsFirstPath, IsFirstTo, IsGreatestEnd, IsLastOfFirsts, IsLastPath, IsLeastEnd, Linked, NoPath, NoRepeats, Pair, PathTo, Space, WantedAt}
pub use Rattle.nfa_paths.specs.Graphs.Path.{go, stop}
pub use Rattle.nfa_paths.specs.Kinds.{EndsBefore, HoldsMatch, IsFoundBy, IsFrontier, IsOver, IsReached, LastBefore, NoMatch, NoneBefore, Passes, ReachedBefore, Scanned, Scanning, WantedBefore, before_match, first_match, found_along, is_resting, last_match}
pub use Rattle.nfa_paths.specs.Overlaps.{Gains, HoldsPath, HoldsPattern, HoldsSelected, HoldsUpTo, IsEarliestInsertable, IsFirstBefore, IsInsertable, IsOverlapResult, IsPatternOf, IsPermitted, IsPermittedEnd, IsSelectedByAll, IsSelectedPath, pattern_at}
unfoldable pub use Rattle.nfa_paths.specs.Paths.{edges_of, node_at, slot_row}
pub use Rattle.nfa_paths.specs.Paths.{EndsOnBoundary, Holding, IsAnswer, IsBoolAnswer, IsFindAnswer, IsHalfAnswer, IsKeptAnswer, IsMatch, IsRestartedAnswer, IsScanAnswer, IsSearchAnswer, IsWhole, IsWithinScans, IsWork, SplitsCharacter, byte_at, capture, degree, edges, epsilon_states, first_target, holding_at, holds_byte, is_match, is_utf8_empty, last_of, max_scans, pairs_from, path_half, path_pattern, raised, reads_byte, rests, slot_among, space, span_len, start_count, start_state, starts, target_on, total_degree}
pub use Rattle.nfa_paths.specs.Restarts.{AreUnset, GivesPath, IsBounded, Restarts, ScanGives, SearchGives, max_scan_turns}
unfoldable pub use Rattle.nfa_paths.specs.Restarts.{marked_sum, repeated}
