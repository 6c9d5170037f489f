-- The scan is over, or at a place that may be its end.
use Rattle.nfa_paths.proofs.Common.{search_of}
use Rattle.nfa_lazy_dfa.proofs.ScanLemmas.{next-on, next-over}
use Rattle.nfa_lazy_dfa.proofs.quick.known_rest.Goals as goal

pub returns-then-over : goal.returns-then-over
returns-then-over c =
    next-over c.args.dfa.now (search_of c.args.input) c.args.cache.now c.run_on_by_byte-over.result.0
    c.run_on_by_byte-over.result.1
    c.run_on_by_byte-over.ensures.next c.if-over.true

pub found_last-requires-clause-at : goal.found_last-requires-clause-at
found_last-requires-clause-at c =
    next-on c.args.dfa.now (search_of c.args.input) c.args.cache.now c.run_on_by_byte-over.result.0
    c.run_on_by_byte-over.result.1
    c.run_on_by_byte-over.ensures.next c.if-over.false
