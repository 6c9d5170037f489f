-- An NFA and an input have one list of matches.
use Rattle.nfa_paths.proofs.Common.{false, LeftmostFirst}
use Rattle.nfa_search_base.proofs.ListLemmas.{matches-exist, matches-unique}
use Rattle.nfa_engines.proofs.laws.one_list_of_matches.Goals as goal

pub returns : goal.returns
returns c = record {
  exists = λ nfa x kind earliest. matches-exist nfa kind earliest x;
  one = λ nfa x kind earliest. matches-unique nfa kind earliest x;
  engines = λ nfa. matches-unique nfa LeftmostFirst false;
}
