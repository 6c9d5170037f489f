-- The search is made once, and answers what its captures hold.
use Rattle.std.proofs.Common.{arith}
use Rattle.nfa_backtrack.proofs.CapturesLemmas.{filled-once, filled-tells}
use Rattle.nfa_backtrack.proofs.engine.BoundedBacktracker.fill_at.Goals as goal

pub returns-clause-tells : goal.returns-clause-tells
returns-clause-tells c = grind (arith, filled-tells)

pub returns-clause-once : goal.returns-clause-once
returns-clause-once c = filled-once c.try_search.new.captures c.try_search.result c.try_search.ensures.counts
