-- What holds at each scan of a search.
use Rattle.nfa_paths.proofs.Common.{◌≡◌, ◌+◌, ◌-◌, length, false, search_of, LeftmostFirst, Restarts}
use Rattle.nfa_backtrack.proofs.engine.BoundedBacktracker.search_from.Given as goal

abbrev pub invariant-loop-half : goal.invariant-loop-half
invariant-loop-half l = record {
  restarts : Restarts l.self.nfa LeftmostFirst false (search_of l.input) (search_of l.search) l.scratch.scans
      l.scratch.visited.turns;
  size : length l.scratch.visited.bits ≡ length l.fn.scratch.visited.bits;
}

-- the positions that are left to start at
abbrev pub decreases-loop-half : goal.decreases-loop-half
decreases-loop-half l = (search_of l.search).end + 1 - (search_of l.search).start
