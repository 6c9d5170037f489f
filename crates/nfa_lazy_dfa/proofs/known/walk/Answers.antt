-- Counting changes no row.
use Rattle.nfa_paths.proofs.Common.{search_of}
use Rattle.nfa_lazy_dfa.proofs.RunLemmas.{IsFoundAt-same}
use Rattle.nfa_lazy_dfa.proofs.known.walk.Goals as goal

pub returns-clause-at : goal.returns-clause-at
returns-clause-at c =
    IsFoundAt-same c.args.dfa.now (search_of c.args.input.now) c.run-place.result c.args.cache.now
    c.count_steps.new.self
    c.count_steps.ensures.same c.run-place.ensures.at
