-- The patterns so far record their bounds.
use Rattle.std.proofs.Common.{ℕ, ◌<◌}
use Rattle.nfa_paths.specs.StatePaths.{PatternRecordsMatchSpans}
use Rattle.nfa_facts.proofs.match_spans.spans.records_match_spans.Given as goal

abbrev pub invariant-loop-pattern : goal.invariant-loop-pattern
invariant-loop-pattern l = (k : ℕ) → k < l.pattern → PatternRecordsMatchSpans l.nfa k
