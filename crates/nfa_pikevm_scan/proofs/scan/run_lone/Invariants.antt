-- A lone state is followed from position to position.
use Rattle.nfa_pikevm_scan.proofs.Common.{KeepsThreads, ScansFirst, Threads, length, search_of, ◌+◌, ◌-◌, ◌≤◌}
use Rattle.nfa_pikevm_scan.proofs.scan.run_lone.Given as goal

abbrev pub invariant-loop-at : goal.invariant-loop-at
invariant-loop-at l = record {
  low : l.fn.last.at ≤ l.at;
  keeps : KeepsThreads l.fn.threads l.threads;
  first : (base : Threads) → ScansFirst l.nfa (search_of l.input) l.starts 0 (l.fn.last.at + 1) (length l.fn.slots)
      l.fn.last.found l.fn.slots base l.fn.threads
      → ScansFirst l.nfa (search_of l.input) l.starts 0 (l.at + 1) (length l.fn.slots) l.found l.slots base l.threads;
}

abbrev pub decreases-loop-at : goal.decreases-loop-at
decreases-loop-at l = (search_of l.input).end - l.at
