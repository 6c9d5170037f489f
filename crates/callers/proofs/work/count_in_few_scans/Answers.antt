-- The law, of the cache that the loop leaves.
use Rattle.nfa_engines.specs.Search.{search_of}
use Rattle.callers.proofs.work.count_in_few_scans.Goals as goal

pub returns : goal.returns
returns c =
    (c.iterations_are_bounded.ensures.pike c.args.vm.now (search_of c.args.input) c.args.cache.now c.counted.new.cache
    c.counted.ensures).scans
