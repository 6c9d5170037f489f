-- The items so far are matches, and the count is theirs.
use Rattle.std.proofs.Common.{◌≡◌, List, Ok, length, map}
use Rattle.regex_search_core.specs.declared.search.Match.{Match}
use Rattle.nfa_samples.proofs.named_engine.count_backtracked.Given as goal

abbrev pub invariant-loop-found : goal.invariant-loop-found
invariant-loop-found l = (ms : List Match) × (l.yielded ≡ map Ok ms) × (l.count ≡ length ms)
