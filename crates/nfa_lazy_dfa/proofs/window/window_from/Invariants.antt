-- The scan found nothing yet.
use Rattle.nfa_paths.proofs.Common.{◌+◌, ◌≡◌, ◌≤◌, ◌-◌, search_of}
use Rattle.nfa_lazy_dfa.specs.Rows.{IsFor, Spends, steps_of}
use Rattle.nfa_lazy_dfa.specs.Watches.{IsWatching}
use Rattle.nfa_lazy_dfa.proofs.window.window_from.Given as goal

abbrev pub invariant-loop-w : goal.invariant-loop-w
invariant-loop-w l = record {
  own : IsFor l.cache l.dfa;
  watching : IsWatching l.dfa l.cache (search_of l.input) l.w;
  low : l.fn.from.at ≤ l.w.at;
  spends : Spends l.fn.cache l.cache (l.w.at - l.fn.from.at) 0;
  counts : steps_of l.cache ≡ steps_of l.fn.cache + (l.w.at - l.fn.from.at);
}

abbrev pub decreases-loop-w : goal.decreases-loop-w
decreases-loop-w l = (search_of l.input).end - l.w.at
