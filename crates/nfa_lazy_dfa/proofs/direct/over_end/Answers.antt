-- The scan goes on from the first cell of the row that it came to.
use Rattle.nfa_paths.proofs.Common.{arith, search_of}
use Rattle.nfa_lazy_dfa.proofs.RunLemmas.{few-at, place-first}
use Rattle.nfa_lazy_dfa.proofs.direct.over_end.Goals as goal

pub overflow_mul-first : goal.overflow_mul-first
overflow_mul-first c =
    let few = few-at c.args.dfa.now c.args.cache.now (search_of c.args.input.now) c.args.place c.requires.own
    c.requires.at in
    omega arith

pub next_cell-cell-requires-clause-at : goal.next_cell-cell-requires-clause-at
next_cell-cell-requires-clause-at c =
    (place-first c.args.dfa.now c.args.cache.now (search_of c.args.input.now) c.args.place
    c.requires.at).at

pub after_plain-requires-clause-at : goal.after_plain-requires-clause-at
after_plain-requires-clause-at c =
    place-first c.args.dfa.now c.args.cache.now (search_of c.args.input.now) c.args.place c.requires.at
