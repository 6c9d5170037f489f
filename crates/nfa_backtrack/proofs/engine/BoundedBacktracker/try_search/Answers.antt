-- After no match no slot is set. If the slots are inside the span, so are the spans.
use Rattle.nfa_paths.proofs.Common.{arith, common_steps, search_of}
use Rattle.nfa_search_base.proofs.SpanLemmas.{spans-inside}
use Rattle.nfa_backtrack.proofs.EngineLemmas.{unmatched-slots}
use Rattle.nfa_backtrack.proofs.engine.BoundedBacktracker.try_search.Goals as goal

pub returns-clause-unmatched : goal.returns-clause-unmatched
returns-clause-unmatched c = grind (arith, unmatched-slots)

pub returns-clause-spans : goal.returns-clause-spans
returns-clause-spans c =
    spans-inside (search_of c.args.input.now) c.set_pattern-2.new.self (grind (arith, common_steps))
