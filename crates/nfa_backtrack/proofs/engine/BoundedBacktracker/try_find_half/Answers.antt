-- The pattern and the end are those of the answer.
use Rattle.nfa_paths.proofs.Common.{false, IfOk-weaker, search_of, LeftmostFirst}
use Rattle.nfa_paths.proofs.RestartLemmas.{half-of}
use Rattle.nfa_search_base.proofs.AskingLemmas.{half-lies}
use Rattle.nfa_backtrack.proofs.engine.BoundedBacktracker.try_find_half.Goals as goal

pub returns-clause-answer : goal.returns-clause-answer
returns-clause-answer c =
    IfOk-weaker c.search_counted.result _ _ (λ half s. half-of s) c.search_counted.ensures.answer

pub returns-clause-inside : goal.returns-clause-inside
returns-clause-inside c = IfOk-weaker c.search_counted.result _ _
    (half-lies c.args.self.now.nfa LeftmostFirst false (search_of c.args.input)) (returns-clause-answer c)
