-- The slots of an answer give the match of its search.
use Rattle.nfa_engines.proofs.MatchLemmas.{all-match, two-match}
use Rattle.nfa_engines.proofs.laws.slots_give_the_match.Goals as goal

pub returns : goal.returns
returns c = record { all = all-match; two = two-match }
