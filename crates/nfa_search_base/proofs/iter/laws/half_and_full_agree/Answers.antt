-- Iteration over ends gives the ends of iteration over matches.
use Rattle.nfa_search_base.proofs.GreedyLemmas.{half-and-full-agree}
use Rattle.nfa_search_base.proofs.iter.laws.half_and_full_agree.Goals as goal

pub returns : goal.returns
returns c = half-and-full-agree
