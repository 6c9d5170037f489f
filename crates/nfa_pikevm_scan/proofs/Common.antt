-- What most proofs cite: words of std and of paths, and the words of this scan. Declares nothing.
pub use Rattle.std.specs.Option.{option_to_list}
pub use Rattle.regex_search_core.specs.declared.search.MatchKind.TheVariants.{All as AllMatches}
pub use Rattle.nfa_paths.proofs.Common.{All, All-cons, All-head, All-nil, All-pop, All-push, All-tail, All-take, Automaton, Bool, Capture, EndsBefore, Explore, Fail, HalfFound, HalfMatch, Hit, Holding, HoldsMatch, In, IsBoundary, IsFirst, IsFoundBy, IsFrontier, IsInsertable, IsOverlapResult, IsPermittedEnd, IsScanAnswer, LastBefore, LeadsBelow, LeftmostFirst, List, Load, MatchKind, NoMatch, NoPath, Node, None, NoneBefore, Option, Pair, Passes, PatternID, Restore, ScanGives, Scanning, Search, Searching, Slots, Some, SomeIff, Space, State, Task, [], ap, append-nil, append_assoc, arith, before_match, both_ways, byte_at, capture, cases_lt, cond, degree, drop, drop-append-le, drop-drop, drop-take, drop_all, drop_more, edges, epsilon_states, ext_get_or, false, false_from_ne_true, first_match, get_or, get_or-map, get_or-set_other, get_or-set_same, get_or_default, get_or_from_slice_get, half_found_of, holding_at, inl, inr, is_match, is_resting, is_some, is_utf8_empty, last_match, le-ltb, length, length-append, length-drop, length-map, length-replicate, length-reverse, length-set, length-take, length-take-le, lt-ltb, map, map-set, map_push, max_scan_turns, nat_lt, nat_tests, node_of, not, number_of, option_and_then, option_map, option_or, pairs_from, pattern_at, pattern_of, refl, replicate, rests, reverse, reverse_onto, rules, search_of, set, size_of_set, slice_get, slice_get-map, slice_get_within, slot_of, space, span_len, starts, subst, suc, sum, sum-map, sum_by, sum_by-cons, sum_by_more_le, sum_by_push, sym, take, take-append-le, take-take, take_more, take_more_set, target_on, total_degree, true, with_items_is, with_pattern, zero, ℕ, ◌&&◌, ◌*◌, ◌++◌, ◌+◌, ◌-◌, ◌<◌, ◌^◌, ◌||◌, ◌↔◌, ◌∙◌, ◌∷◌, ◌≡◌, ◌≤◌, ◌⊎◌, half_at}
unfoldable pub use Rattle.nfa_paths.proofs.Common.{ExploresAfter, ExploresTo, edges_of, next_tasks, node_at, seeds}
pub use Rattle.nfa_pikevm_scan.specs.Needs.{room_of, stack_frames}
pub use Rattle.nfa_pikevm_scan.specs.States.{AreMatchPairs, EndsInMatch, Entered, FindsMatch, Follows, Formed, Frontier, HasRoom, HasSlot, IsClosureContext, IsHit, IsMet, IsWithin, KeepsRoom, Leads, MayFollow, Moment, NextsGive, Paid, Resumes, SearchingAt, StatesGive, TurnsGive, VisitsState, WasSeen, between, meant, moment_of, moves, state_of, state_on, tasks, tries, undone, unmarked, weight, with_state, work_item_of, work_onto}
pub use Rattle.nfa_pikevm_scan.specs.Rows.{Active, items_of, marks_of}
pub use Rattle.nfa_pikevm_scan.specs.Scans.{AddsStart, AreAt, AreStarts, HaveRows, IsPassed, IsSoFar, JoinsStart, KeepsThreads, MayCross, MayScan, PassesOver, ScansFirst, SearchesFirst, SearchingFrom, blank, held, starts_from, with_start}
pub use Rattle.nfa_pikevm_scan.specs.Sinks.{AddsAllPatterns, AddsFirstPattern, AddsPatterns, ClosureGives, ClosuresGive, ClosuresLeadTo, NextsOverlappingGive, PatternSinkTakes, SlotsSinkTakes, Takes, counts}
unfoldable pub use Rattle.nfa_pikevm_scan.specs.Sinks.{permits, wants}
pub use Rattle.nfa_pikevm_scan.specs.Sinks.Takes.{ends, none, plain, taken}
pub use Rattle.nfa_pikevm_scan.specs.declared.active.Parts.{Parts}
pub use Rattle.nfa_pikevm_scan.specs.declared.closure.ClosureContext.{ClosureContext}
pub use Rattle.nfa_pikevm_scan.specs.declared.closure.ClosureOutput.{ClosureOutput}
pub use Rattle.nfa_pikevm_scan.specs.declared.closure.Move.{Move}
pub use Rattle.nfa_pikevm_scan.specs.declared.closure.Move.TheVariants.{DeadEnd, Matched, On}
pub use Rattle.nfa_pikevm_scan.specs.declared.frame.FollowEpsilon.{FollowEpsilon}
pub use Rattle.nfa_pikevm_scan.specs.declared.overlap.PatternSink.{PatternSink}
pub use Rattle.nfa_pikevm_scan.specs.declared.scan.Starts.{Starts}
pub use Rattle.nfa_pikevm_scan.specs.declared.sink.SlotsSink.{SlotsSink}
pub use Rattle.nfa_pikevm_scan.specs.declared.threads.Threads.{Threads}
pub use Rattle.nfa_scan_core.specs.FirstBytes.{IsFirstBytes, IsRefused}
pub use Rattle.nfa_scan_core.specs.Marks.{Marks, SeenAt}
