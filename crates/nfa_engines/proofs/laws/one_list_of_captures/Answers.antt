-- An NFA and an input have one list of captures, whose matches are its list of matches.
use Rattle.nfa_paths.proofs.Common.{false, map, LeftmostFirst}
use Rattle.nfa_search_base.specs.Common.{row_of, item_by}
use Rattle.nfa_search_base.proofs.CapturesLemmas.{rows-exist, rows-first_matches, rows-list, rows-unique, rows-up_to}
use Rattle.nfa_engines.proofs.laws.one_list_of_captures.Goals as goal

pub returns : goal.returns
returns c = record {
  exists = λ nfa x kind earliest. rows-exist nfa kind earliest x;
  one = λ nfa x kind earliest. rows-unique nfa kind earliest x;
  engines = λ nfa. rows-unique nfa LeftmostFirst false;
  matches = λ nfa x kind earliest. rows-list nfa kind earliest x;
  first = λ nfa x kind earliest. rows-first_matches nfa kind earliest x;
  refused = λ nfa x kind earliest rows items are all.
      rows-up_to nfa kind earliest x rows (map (item_by row_of) items) are all.come;
}
