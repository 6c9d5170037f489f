-- What is said with an `earliest` of its own holds of each search under any flag.
use Rattle.nfa_paths.proofs.SameScanLemmas.{answer-same, found-same, match-same, search-same}
use Rattle.nfa_paths.proofs.EarliestLemmas.{same-asked}
use Rattle.nfa_engines.proofs.FlagLemmas.{matches-asked, reads-no-flag, rows-asked}
use Rattle.nfa_paths.proofs.FlagSetLemmas.{set-asked}
use Rattle.nfa_engines.proofs.laws.earliest_flag_is_not_read.Goals as goal

pub returns : goal.returns
returns c = record {
  path = λ restarts. reads-no-flag _
      (λ nfa x flag kind earliest. search-same (same-asked nfa x flag) kind earliest restarts);
  answer = λ pattern. reads-no-flag _
      (λ nfa x flag kind earliest. answer-same (same-asked nfa x flag) kind earliest pattern);
  found = reads-no-flag _ (λ nfa x flag. found-same (same-asked nfa x flag));
  match_of = reads-no-flag _ (λ nfa x flag. match-same (same-asked nfa x flag));
  matches = reads-no-flag _ (λ nfa x flag kind earliest. matches-asked nfa kind earliest x flag);
  rows = reads-no-flag _ (λ nfa x flag kind earliest. rows-asked nfa kind earliest x flag);
  set = λ old. reads-no-flag _ (λ nfa x flag kind earliest. set-asked nfa x flag kind earliest old);
}
