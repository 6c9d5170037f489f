-- There is one match, one found answer, and one set that a set becomes.
use Rattle.nfa_paths.proofs.EarliestLemmas.{match-unique}
use Rattle.nfa_engines.proofs.FirstSetLemmas.{first_set-unique}
use Rattle.nfa_engines.proofs.MatchLemmas.{found-unique, set-unique}
use Rattle.nfa_engines.proofs.laws.one_match.Goals as goal

pub returns : goal.returns
returns c = record {
  matches = λ nfa x kind earliest. match-unique nfa kind earliest x;
  found = found-unique;
  sets = set-unique;
  first_sets = first_set-unique;
}
