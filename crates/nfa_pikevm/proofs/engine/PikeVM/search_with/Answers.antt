-- Pattern and slots are those of the answer, for as many slots as there are.
use Rattle.nfa_paths.proofs.Common.{Some, IsAutomaton, arith}
use Rattle.nfa_paths.proofs.RestartLemmas.{answer-of}
use Rattle.nfa_search_base.proofs.AskingLemmas.{slots-pattern}
use Rattle.nfa_pikevm.proofs.EngineLemmas.{row-found}
use Rattle.nfa_pikevm.proofs.engine.PikeVM.search_with.Goals as goal

pub returns-in_err-half-clause-answer : goal.returns-in_err-half-clause-answer
returns-in_err-half-clause-answer c = grind (arith, answer-of, row-found)

pub returns-clause-answer : goal.returns-clause-answer
returns-clause-answer c = grind (arith, answer-of, row-found)

pub returns-clause-pattern : goal.returns-clause-pattern
returns-clause-pattern c =
    let valid : IsAutomaton c.args.self.now.nfa = rw (← c.self.view_is) c.group_info.ensures.valid in
    slots-pattern valid (Some c.pattern.result) (returns-clause-answer c)
