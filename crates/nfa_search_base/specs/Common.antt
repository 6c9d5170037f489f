-- The words of iteration that most definitions and proofs cite, and words of std beside them, passed on from one place.
pub use Rattle.std.specs.Borrow.{Bor, MutBor}
pub use Rattle.std.specs.Fn.{Called, Mut}
pub use Rattle.std.specs.Iterator.{AlwaysYields, Drains, MakesProgress, Yields}
pub use Rattle.std.specs.Result.{result_transpose}
pub use Rattle.std.specs.Vec.{vec_items}
pub use Rattle.std.specs.declared.vec.Vec.{Vec}
pub use Rattle.std.specs.List.{enumerate_from, range_with_len, AllByRecursion}
pub use Rattle.nfa_paths.specs.Common.{IsFindAnswer, IsWithinScans, IsWork, max_scans, span_len, total_degree, LeftmostFirst, IsSureMatch, max_scan_turns, found_of, Match, Captured, number_of, Automaton, PatternID, MatchKind, IsBoundary, group_named, groups_at, group_span, named_span, Yes, No, HoldsPattern, IsAnswer, IsBoolAnswer, IsOverlapResult, is_utf8_empty, look_holds, Anchored, Pattern, slot_count, Span, is_anchored, size_of_set, IsAutomaton, Pair, IsEarliestInsertable, IsPermitted, IsPatternOf, edges, starts, path_pattern, whole, HalfFound, half_found_of, HalfMatch, IsHalfAnswer, list_any, sum_by, FoldsTo, Found, Search, EachRunFrom, ItemsMapTo, option_or, ForSome}
pub use Rattle.nfa_search_base.specs.EngineSearches.{AnswersBy, AsksEngine, AsksEngineRow, DoesSearch, FindsLeave, FindsLeaveAtEnd, IsKnownFrom, Keeping, Knowing, Leaves, LeavesAtEnd, MayFill, MayFind, SearchesUnlessKnown, StepsLead, answers_to_end, asks_keeping, found_in, if_ends_at, keeping, last_start}
pub use Rattle.nfa_search_base.specs.Finders.{AnswersAlong, Asks, Finds, IsCallableOn, LeadsOn, MayReply, ServesAdvance, ServesOn, ServesOnAlong, StepDone, may_ask, Answers, CallLeft, HasOffsetIn, IsInCharacter, IsInSpan, IsWholeReply, Reaches, ServesSkips, SkipsOn, SkipsTo, lowered, start_raised}
unfoldable pub use Rattle.nfa_search_base.specs.Items.{greedy}
pub use Rattle.nfa_search_base.specs.Items.{FindsEnds, GivesItem, HalfAndFullAgree, IsFoundIn, IsIterState, Item, answer_by, end_of, ends_at, greedy_unless, item_by, items_from, items_left, items_within, matches_in, matches_left, step_answer, step_iter_state}
pub use Rattle.nfa_search_base.specs.IterStates.{Advances, Answer, AnswerIsInside, ComesAfter, EndsBy, HaystackTooLong, IsInfalliblyInside, IterState, LeavesFewer, LiesIn, Memory, SameButStart, SearchError, after, answer_span, ended_at, ends_left, fresh, half_span_of, repeats, shifted, span_of}
unfoldable pub use Rattle.nfa_search_base.specs.Lists.{finds}
pub use Rattle.nfa_search_base.specs.Lists.{AnswersMatch, AnswersRow, AreAllCaptures, AreAllStoredCaptures, AreAllStoredMatches, AreDisjoint, AreFirstCaptures, AreFirstMatches, AreFirstRows, AreFirstStoredMatches, AreMatches, AreRows, AreSpansDisjoint, Fails, FailsOrIsRefused, HasGroups, IsInside, IsRow, IsSlotInside, IsSpanInside, IsStep, ItemsBy, ItemsLast, ItemsNext, SpansInside}
pub use Rattle.nfa_search_base.specs.Runs.{AreAll, AreFirst, CallsLead, CapturesGiven, CapturesInside, CapturesMemory, DrainsAll, DrainsToError, GivesAll, GivesFirst, GivesKept, GivesNext, ItemsGiven, MatchesAreAll, MatchesAreFirst, MatchesGiven, OksAll, OksFirst, OksGiven, OksNext, OksRun, RowsAreAll, RowsAreFirst, RunsGive, match_in}
pub use Rattle.nfa_search_base.specs.Stored.{Steps, GivesStepsWith, KeepsStepsWith, StepsWith, TakesBareStep, TakesStep, TakesStepWith, WithCache, accepts_whole, asks_whole, can_step, can_step_infallibly, count_left, held_item, infallible_left, iter_state_of, only_cache, steps_from, steps_iter_state, steps_left, steps_whole, steps_with_state, takes_bare_steps, takes_infallible_steps, takes_steps, with_cache, with_finder}
pub use Rattle.nfa_search_base.specs.StoredRuns.{AllFilled, AllFound, AllSure, FirstFilled, FirstFound, FirstSure, MayAnswer, MayAnswerRow, RunsApart, infallible_match_steps, spans_in, stored_captures_steps, stored_match_steps, takes_infallible_captures}
pub use Rattle.nfa_search_base.specs.WithCaptures.{CanFill, Fills, FillsAlong, FillsBy, GivesCaptures, GivesCopy, LendsItem, Row, UpToRefusal, WithCaptures, YieldsUpToRefusal, filled_answer, held_unless, lent_item, row_found, row_of, row_span}
