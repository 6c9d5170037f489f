-- The first pattern that has an answer gives that of the search.
use Rattle.nfa_engines.proofs.PatternAnswerLemmas.{answers-pattern, pattern-answers, pattern-nothing, match-pattern, pattern-match}
use Rattle.nfa_engines.proofs.laws.first_pattern_answers.Goals as goal

pub returns : goal.returns
returns c = record {
  answers = pattern-answers;
  pattern = answers-pattern;
  matches = pattern-match;
  match_pattern = match-pattern;
  nothing = pattern-nothing;
}
