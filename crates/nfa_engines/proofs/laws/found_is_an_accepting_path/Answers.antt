-- If a match may end anywhere, a search says whether there is an accepting path.
use Rattle.nfa_engines.proofs.MatchLemmas.{found-something, matches-something, no_pattern-nothing, not-both, not_found-nothing, pattern-matched}
use Rattle.nfa_engines.proofs.laws.found_is_an_accepting_path.Goals as goal

pub returns : goal.returns
returns c = record {
  something = found-something;
  nothing = not_found-nothing;
  pattern = pattern-matched;
  no_pattern = no_pattern-nothing;
  weaker = λ nfa x pattern. matches-something;
  not_both = λ nfa x. not-both;
}
