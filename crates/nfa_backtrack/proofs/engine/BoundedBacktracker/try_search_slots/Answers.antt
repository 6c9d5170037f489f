-- The pattern and the slots of a search, which are inside its span.
use Rattle.nfa_paths.proofs.Common.{false, search_of, LeftmostFirst}
use Rattle.nfa_paths.proofs.InsideLemmas.{slots-within}
use Rattle.nfa_paths.proofs.RestartLemmas.{answer-of}
use Rattle.nfa_search_base.proofs.AskingLemmas.{slots-none_of}
use Rattle.nfa_backtrack.proofs.engine.BoundedBacktracker.try_search_slots.Goals as goal

pub returns-clause-answer : goal.returns-clause-answer
returns-clause-answer c =
    answer-of c.pattern_of.ensures c.in_ok-half.ensures.answer (λ path are. are)

pub returns-clause-unmatched : goal.returns-clause-unmatched
returns-clause-unmatched c =
    slots-none_of c.pattern_of.result (returns-clause-answer c) c.search_counted.auto.slots

pub returns-clause-inside : goal.returns-clause-inside
returns-clause-inside c =
    slots-within c.args.self.now.nfa LeftmostFirst false (search_of c.args.input.now) _ _ (returns-clause-answer c)
