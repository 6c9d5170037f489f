-- The count is that of the last round, in which the haystack was not too long.
use Rattle.std.proofs.Common.{◌<◌}
use Rattle.nfa_engines.specs.Backtrack.{IsTooLong}
use Rattle.regex_search_core.specs.Search.{whole}
use Rattle.nfa_samples.specs.Counts.{IsLastCount}
use Rattle.nfa_samples.proofs.named_engine.count_last_backtracked.Given as goal

abbrev pub invariant-loop : goal.invariant-loop
invariant-loop l = record {
  count : IsLastCount l.engine.nfa l.haystack l.counter l.count;
  short : 0 < l.counter → ¬ (IsTooLong l.engine (whole l.haystack));
}
