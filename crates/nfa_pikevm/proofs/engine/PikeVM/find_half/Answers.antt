-- The pattern and the end are those of the answer.
use Rattle.nfa_paths.proofs.Common.{search_of, arith}
use Rattle.nfa_paths.proofs.RestartLemmas.{half-of, pattern-among}
use Rattle.nfa_pikevm.specs.Engines.{kind_of}
use Rattle.nfa_search_base.proofs.AskingLemmas.{half-lies}
use Rattle.nfa_pikevm.proofs.engine.PikeVM.find_half.Goals as goal

pub returns-clause-answer : goal.returns-clause-answer
returns-clause-answer c = grind (arith, half-of)

pub returns-clause-pattern : goal.returns-clause-pattern
returns-clause-pattern c =
    rw (← c.self.view_is)
    (pattern-among c.states.ensures.valid c.search.result c.search.ensures.answer)

pub returns-clause-inside : goal.returns-clause-inside
returns-clause-inside c = half-lies c.args.self.now.nfa (kind_of c.args.self.now) _ (search_of c.args.input)
    c.search.result (returns-clause-answer c)
