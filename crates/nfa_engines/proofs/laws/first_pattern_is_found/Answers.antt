-- The pattern of an answer, and of a match, is the first that matches.
use Rattle.nfa_engines.proofs.PatternAnswerLemmas.{answer-first, match-first-pattern}
use Rattle.nfa_engines.proofs.laws.first_pattern_is_found.Goals as goal

pub returns : goal.returns
returns c = record { answers = answer-first; matches = match-first-pattern }
