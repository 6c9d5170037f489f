-- What holds at each scan of a search.
use Rattle.nfa_paths.proofs.Common.{◌≡◌, ◌+◌, ◌-◌, search_of, Restarts}
use Rattle.nfa_pikevm_scan.specs.Scans.{SameSizes}
use Rattle.nfa_pikevm.proofs.search.search.Given as goal

abbrev pub invariant-loop-half : goal.invariant-loop-half
invariant-loop-half l = record {
  restarts : Restarts l.nfa l.kind (search_of l.fn.input).earliest (search_of l.fn.input) (search_of l.input)
      l.threads.scans l.threads.reached.seen.turns;
  asks : (search_of l.input).earliest ≡ (search_of l.fn.input).earliest;
  sizes : SameSizes l.fn.threads l.threads;
}

-- the positions that are left to start at
abbrev pub decreases-loop-half : goal.decreases-loop-half
decreases-loop-half l = (search_of l.input).end + 1 - (search_of l.input).start
