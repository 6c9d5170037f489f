-- The only scan of an anchored search has counted what it read.
use Rattle.nfa_paths.proofs.Common.{search_of}
use Rattle.nfa_lazy_dfa.proofs.ReadLemmas.{HasReadSpan-one}
use Rattle.nfa_lazy_dfa.proofs.search.find_on_boundary.Goals as goal

pub returns-clause-reads : goal.returns-clause-reads
returns-clause-reads c =
    HasReadSpan-one c.args.cache.now c.scan_half.new.cache c.args.dfa.now (search_of c.args.input.now)
    c.in_ok-half.ensures.reads
