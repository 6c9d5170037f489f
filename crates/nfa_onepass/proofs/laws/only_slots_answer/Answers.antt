-- The law from those that it calls.
use Rattle.nfa_onepass.proofs.OnlyLemmas.{only-answer}
use Rattle.nfa_onepass.proofs.laws.only_slots_answer.Goals as goal

pub returns : goal.returns
returns c nfa x m k slots valid records found only =
    only-answer c.answer_is_that_of_the_cut_span.ensures.search c.matches_are_of_paths.ensures nfa x m k slots
    valid records
    only found
