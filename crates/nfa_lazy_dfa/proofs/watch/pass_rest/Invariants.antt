-- The scan found nothing yet.
use Rattle.nfa_paths.proofs.Common.{◌≤◌, ◌-◌, search_of}
use Rattle.nfa_lazy_dfa.specs.Watches.{IsWatching}
use Rattle.nfa_lazy_dfa.proofs.watch.pass_rest.Given as goal

abbrev pub invariant-loop-w : goal.invariant-loop-w
invariant-loop-w l = record {
  watching : IsWatching l.dfa l.cache (search_of l.input) l.w;
  low : l.fn.from.at ≤ l.w.at;
}

abbrev pub decreases-loop-w : goal.decreases-loop-w
decreases-loop-w l = l.end - l.w.at
