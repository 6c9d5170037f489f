-- The pattern that a search answers is one of the NFA's.
use Rattle.nfa_paths.proofs.Common.{arith}
use Rattle.nfa_paths.proofs.RestartLemmas.{pattern-among}
use Rattle.nfa_backtrack.proofs.engine.BoundedBacktracker.search.Goals as goal

pub returns-clause-pattern : goal.returns-clause-pattern
returns-clause-pattern c = grind (arith, pattern-among)
