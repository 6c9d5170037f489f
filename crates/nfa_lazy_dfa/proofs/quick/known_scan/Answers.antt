-- The scan is over, or goes on.
use Rattle.nfa_paths.proofs.Common.{search_of}
use Rattle.nfa_lazy_dfa.proofs.ScanLemmas.{next-on, next-over}
use Rattle.nfa_lazy_dfa.proofs.quick.known_scan.Goals as goal

pub returns-then-over : goal.returns-then-over
returns-then-over c =
    next-over c.args.dfa.now (search_of c.args.input.now) c.args.cache.now c.direct-over.result.0
    c.direct-over.result.1 c.direct-over.ensures.next c.if-over.true

pub known_rest-rest-requires-clause-at : goal.known_rest-rest-requires-clause-at
known_rest-rest-requires-clause-at c =
    next-on c.args.dfa.now (search_of c.args.input.now) c.args.cache.now c.direct-over.result.0
    c.direct-over.result.1 c.direct-over.ensures.next c.if-over.false
