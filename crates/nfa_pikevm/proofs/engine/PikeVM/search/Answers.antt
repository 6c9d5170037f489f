-- After no match no slot of the captures is set. If the slots are inside the span, so are the spans.
use Rattle.nfa_paths.proofs.Common.{arith, common_steps, search_of}
use Rattle.nfa_search_base.proofs.SpanLemmas.{spans-inside}
use Rattle.nfa_search_base.proofs.AskingLemmas.{slots-none}
use Rattle.nfa_pikevm.proofs.engine.PikeVM.search.Goals as goal

pub returns-clause-answer : goal.returns-clause-answer
returns-clause-answer c = grind (arith, common_steps)

pub returns-clause-count : goal.returns-clause-count
returns-clause-count c = grind (arith, common_steps)

pub returns-clause-unmatched : goal.returns-clause-unmatched
returns-clause-unmatched c =
    slots-none _ (returns-clause-answer c) (returns-clause-count c)

pub returns-clause-spans : goal.returns-clause-spans
returns-clause-spans c =
    spans-inside (search_of c.args.input.now) c.set_pattern.new.self (grind (arith, common_steps))
