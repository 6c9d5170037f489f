-- Over the calls of a searcher the ends of matches go up, and there are at most n + 1 of them.
use Rattle.std.proofs.Common.{arith}
use Rattle.nfa_search_base.specs.IterStates.{fresh}
use Rattle.nfa_engines.proofs.IterationLemmas.{ends-rise, few-matches, first-ends}
use Rattle.nfa_engines.proofs.laws.ends_increase.Goals as goal

pub returns : goal.returns
returns c = record {
  rise = λ x calls are. ends-rise (fresh x) calls are;
  count = λ x calls are.
      let few = few-matches (fresh x) calls are in let first = first-ends x in omega arith;
}
