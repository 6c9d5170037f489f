-- The words of patterns that most definitions and proofs cite, passed on from one place.
pub use Rattle.std.specs.List.{after_first, enumerate_from, position_or_len, slice_split}
pub use Rattle.std.specs.Str.{trim, trim_start}
pub use Rattle.nfa_paths.specs.Common.{whole, Automaton, is_utf8_empty, patterns_of, group_named, decimal, Found, number_of, Search, Yes, Span, AllZip, before_first, filter, Bor, slot_count, Captured, LeftmostFirst, Appends, explicit_slot}
pub use Rattle.regex_syntax.specs.Brackets.{Nested}
unfoldable pub use Rattle.regex_syntax.specs.Captures.{outcome}
pub use Rattle.regex_syntax.specs.Captures.{SameCaptures}
pub use Rattle.regex_syntax.specs.Grammar.{Names, group_count, read}
unfoldable pub use Rattle.regex_syntax.specs.Reading.{first}
pub use Rattle.regex_syntax.specs.Same.{SameTree}
pub use Rattle.regex_syntax.specs.Sets.{Set, members}
unfoldable pub use Rattle.regex_syntax.specs.Verdict.{Reads}
pub use Rattle.regex_syntax.specs.Verdict.{ReadsAsText, default_config, default_flags, escaped_text}
pub use Rattle.regex_syntax.specs.declared.Config.{Config}
pub use Rattle.regex_syntax.specs.declared.Parsed.{Parsed}
unfoldable pub use Rattle.regex_hir.specs.Find.{find, find_str, first_from, matches_from}
pub use Rattle.regex_hir.specs.Find.{Match, find_after, find_all, find_all_str, first_between, last_write}
unfoldable pub use Rattle.regex_hir.specs.Looks.{holds, holds_between}
pub use Rattle.regex_hir.specs.Looks.{is_whole, side_after, side_before}
unfoldable pub use Rattle.regex_hir.specs.Matches.{IsMinLen}
pub use Rattle.regex_hir.specs.Matches.{Matches, Rounds, next_round, one_round}
unfoldable pub use Rattle.regex_hir.specs.Meaning.{repeat}
pub use Rattle.regex_hir.specs.Meaning.{alt_all, cat_all, copies, meaning, node_meaning, optional, up_to}
unfoldable pub use Rattle.regex_hir.specs.Re.{attempt}
pub use Rattle.regex_hir.specs.Re.{Re, Rest, Trace, accept, alt, byte_in, cat, char_in, empty, group, literal, look, plus, write}
pub use Rattle.regex_hir.specs.Reads.{always_reads}
unfoldable pub use Rattle.regex_hir.specs.Text.{byte_before, has_bytes_at, is_boundary}
pub use Rattle.regex_hir.specs.Text.{char_at, is_none_or, is_some_and}
pub use Rattle.regex_hir.specs.declared.hir.Hir.{Alternation', Bytes, Capture', Chars, Concat', Empty, Hir, Literal, Look, Repetition', Row_of-Hir, end_of-Hir, fold_out-Hir, items-the_row-Hir, items_shown-the_row-Hir-0, map-Hir, more_of-Hir}
pub use Rattle.regex_hir.specs.declared.look.Look.TheVariants.{End, Start, WordEndHalfUnicode, WordStartHalfUnicode}
pub use Rattle.nfa_compiler.specs.Blocks.{Adds, AreInRange, HoldsStates, IsBlock, IsInRange, KeepsInRange, LeadsInside, Stands, look_of, match_at, moved, node_for, slot_in}
pub use Rattle.nfa_compiler.specs.Compiled.{AlwaysReads, AreMeant, AreNamed, ArePatterns, Chooses, FindsFromAnyStart, IsCompiled, IsMeant, IsNamed, IsNfaOf, IsPattern, IsPatternAt, IsTreeOf, LosesNoHit, MatchesOnlyAtStart, explicit_names, groups_of, res_of}
pub use Rattle.nfa_compiler.specs.Rejected.{blank_byte, compile_error_text, last_line, only_pattern_text, FitsIn, IsFirstTooBig, IsFirstTooBigOf, IsOfNoText, IsOfOneText, IsOfPattern, IsRejection, NamesPattern, NamesText}
pub use Rattle.nfa_compiler.specs.Loops.{HasEmptyLoop, all_begin_at_start, begins_at_start, form_either, form_of, form_repeated, form_then, has_empty_loop, is_start, never_reads}
unfoldable pub use Rattle.nfa_compiler.specs.Patterns.{expected, expected_in_str}
unfoldable pub use Rattle.nfa_compiler.specs.Patterns.{expected_on_boundary, hits_from, slots_of}
pub use Rattle.nfa_compiler.specs.Patterns.{AreOfHit, HitOf, IsLeftmostToTheEnd, PatternHit, StartsOnBoundary, all_hits, all_of, all_str_hits, at_boundary, boundary_hit, captures_of, ends_on_boundary, first_hit, found_at, found_by, found_of_hit, hit, hit_after, hit_by, hit_in_mode, hit_of, hit_of_search, on_boundary, pick, pick_one, place_of, restarted_hit, row_of_hit, span_between, str_hit, writes_of, written_span}
pub use Rattle.nfa_compiler.specs.Written.{IsReadAs, IsTried, MatchesCharacters, MatchesIn, MatchesInStr, MatchesSomewhere, PatternMatches, byte_syntax}
