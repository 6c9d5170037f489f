-- The requirement of `no_gap` holds for each search.
use Rattle.std.proofs.Common.{refl, None}
use Rattle.nfa_engines.proofs.MatchLemmas.{none-is_no_path, none-starts_before}
use Rattle.nfa_facts.proofs.LawLemmas.{paths-recorded}
use Rattle.nfa_facts.proofs.match_spans.laws.no_match_is_missed.Goals as goal

pub returns : goal.returns
returns c = record {
  none = λ nfa kind earliest x found valid anywhere records.
      none-is_no_path kind earliest nfa x found valid anywhere (paths-recorded nfa x records);
  nothing = λ nfa kind earliest x valid anywhere records answer. record {
    no_path = (none-is_no_path kind earliest nfa x None valid anywhere (paths-recorded nfa x records) answer).0 refl;
  };
  start = λ nfa x found valid anywhere records.
      none-starts_before nfa x found valid anywhere (paths-recorded nfa x records);
}
