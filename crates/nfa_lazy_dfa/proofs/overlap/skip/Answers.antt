-- The scan goes on from the first cell of the row.
use Rattle.nfa_paths.proofs.Common.{arith, search_of}
use Rattle.nfa_lazy_dfa.proofs.RunLemmas.{few-at}
use Rattle.nfa_lazy_dfa.proofs.overlap.skip.Goals as goal

pub overflow_mul-first : goal.overflow_mul-first
overflow_mul-first c =
    let few = few-at c.args.dfa.now c.args.cache.now (search_of c.args.input.now) c.args.from c.requires.own
    c.requires.at in
    omega arith
