-- The law, of the cache that the list leaves.
use Rattle.nfa_engines.specs.Search.{search_of}
use Rattle.callers.proofs.work.few_scans_by_backtracker.Goals as goal

pub returns : goal.returns
returns c =
    (c.iterations_are_bounded.ensures.backtracker c.args.backtracker.now (search_of c.args.input) c.args.cache.now
    c.try_find_all.new.cache c.try_find_all.ensures.searches).scans
