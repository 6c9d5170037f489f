-- The matches of an input are in order and apart, and are at most n + 1.
use Rattle.nfa_search_base.proofs.ListLemmas.{matches-disjoint}
use Rattle.nfa_engines.proofs.IterationLemmas.{few-disjoint}
use Rattle.nfa_engines.proofs.laws.matches_are_disjoint.Goals as goal

pub returns : goal.returns
returns c = record {
  disjoint = λ nfa x kind earliest. matches-disjoint nfa kind earliest x;
  count = λ nfa x kind earliest ms first. few-disjoint x ms
      (matches-disjoint nfa kind earliest x ms first);
}
