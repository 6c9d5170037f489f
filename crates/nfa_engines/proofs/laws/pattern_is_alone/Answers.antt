-- A search that is anchored to a pattern is the search of only this pattern.
use Rattle.nfa_paths.proofs.SameScanLemmas.{answer-same, match-same}
use Rattle.nfa_engines.proofs.PatternAnswerLemmas.{same-alone, same-bound}
use Rattle.nfa_engines.proofs.laws.pattern_is_alone.Goals as goal

pub returns : goal.returns
returns c = record {
  answer = λ found nfa x pattern state kind earliest slots at. (
    answer-same (same-alone nfa x pattern state at) kind earliest found slots,
    answer-same (same-bound nfa x pattern state at) kind earliest found slots,
  );
  match_of = λ nfa x pattern state kind earliest found at. (
    match-same (same-alone nfa x pattern state at) kind earliest found,
    match-same (same-bound nfa x pattern state at) kind earliest found,
  );
}
