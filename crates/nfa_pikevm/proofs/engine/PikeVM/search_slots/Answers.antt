-- The answer is that of the search: after no match no slot is set, and each slot that is set is inside the span.
use Rattle.nfa_paths.proofs.Common.{search_of}
use Rattle.nfa_pikevm.specs.Engines.{kind_of}
use Rattle.nfa_paths.proofs.InsideLemmas.{slots-within}
use Rattle.nfa_search_base.proofs.AskingLemmas.{slots-none_of}
use Rattle.nfa_pikevm.proofs.engine.PikeVM.search_slots.Goals as goal

pub returns-clause-unmatched : goal.returns-clause-unmatched
returns-clause-unmatched c =
    slots-none_of c.search_with.result c.search_with.ensures.answer c.search_with.auto.slots

pub returns-clause-inside : goal.returns-clause-inside
returns-clause-inside c = slots-within c.args.self.now.nfa (kind_of c.args.self.now) _ (search_of c.args.input.now) _ _
    c.search_with.ensures.answer
