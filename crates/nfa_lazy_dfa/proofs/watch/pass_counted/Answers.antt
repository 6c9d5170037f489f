-- Counting changes no row.
use Rattle.nfa_paths.proofs.Common.{search_of}
use Rattle.nfa_lazy_dfa.proofs.WatchLemmas.{IsWatching-same}
use Rattle.nfa_lazy_dfa.proofs.watch.pass_counted.Goals as goal

pub returns-clause-watching : goal.returns-clause-watching
returns-clause-watching c =
    IsWatching-same c.args.dfa.now (search_of c.args.input.now) c.pass_rest-to.result c.args.cache.now
    c.count_steps.new.self c.count_steps.ensures.same c.pass_rest-to.ensures.watching
