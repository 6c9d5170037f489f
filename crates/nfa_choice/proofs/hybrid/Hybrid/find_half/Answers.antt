-- The half match is in the span, and its pattern is one of the NFA's.
use Rattle.nfa_paths.proofs.Common.{arith, rules, common_steps, search_of}
use Rattle.nfa_search_base.proofs.AskingLemmas.{half-lies}
use Rattle.nfa_choice.proofs.AnswerLemmas.{half-pattern-within}
use Rattle.nfa_choice.proofs.hybrid.Hybrid.find_half.Goals as goal

pub returns-in-Ok-clause-pattern : goal.returns-in-Ok-clause-pattern
returns-in-Ok-clause-pattern c =
    let fact = half-pattern-within _ _ _ (search_of c.args.input) (search rules) c.in-Ok.half c.in-Ok.ensures.answer in
    first_of (search rules, grind (arith, common_steps))

pub returns-in-Ok-clause-inside : goal.returns-in-Ok-clause-inside
returns-in-Ok-clause-inside c = half-lies _ _ _ (search_of c.args.input) c.in-Ok.half c.in-Ok.ensures.answer
