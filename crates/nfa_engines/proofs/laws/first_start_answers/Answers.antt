-- The answer is that of the first start that has one.
use Rattle.nfa_engines.proofs.StartAnswerLemmas.{answer-first, match-anywhere, match-first, answer-start}
use Rattle.nfa_engines.proofs.laws.first_start_answers.Goals as goal

pub returns : goal.returns
returns c = record { answers = answer-first; matches = match-first; boundary = match-anywhere; start = answer-start }
