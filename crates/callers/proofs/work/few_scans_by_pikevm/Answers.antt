-- The law, of the cache that the list leaves.
use Rattle.nfa_engines.specs.Search.{search_of}
use Rattle.callers.proofs.work.few_scans_by_pikevm.Goals as goal

pub returns : goal.returns
returns c =
    (c.iterations_are_bounded.ensures.pike c.args.engine.now (search_of c.args.input) c.args.cache.now
    c.find_all.new.cache c.find_all.ensures.searches).scans
