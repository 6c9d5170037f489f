-- The path that answers the search answers that of the window.
use Rattle.nfa_meta.proofs.WindowLemmas.{window-answer, window-match}
use Rattle.nfa_meta.proofs.laws.windows_answer.Goals as goal

pub returns-clause-answers : goal.returns-clause-answers
returns-clause-answers c = λ nfa x s half pattern slots free low from h.
    window-answer (record { free = free; low = low; from = from }) c.answer_is_that_of_the_cut_span.ensures.end half h
    pattern slots

pub returns-clause-matches : goal.returns-clause-matches
returns-clause-matches c = λ nfa x s half found free low from h.
    window-match (record { free = free; low = low; from = from }) c.answer_is_that_of_the_cut_span.ensures.end half h
    found
