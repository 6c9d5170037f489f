-- The scan is at this place and found nothing yet.
use Rattle.nfa_paths.proofs.Common.{◌≡◌, ◌≤◌, ◌-◌, ◌%◌, None, search_of}
use Rattle.nfa_lazy_dfa.specs.Places.{IsFoundAt}
use Rattle.nfa_lazy_dfa.specs.Runs.{place_at}
use Rattle.nfa_lazy_dfa.specs.Watches.{IsBegun}
use Rattle.nfa_lazy_dfa.proofs.watch.pass_marked.Given as goal

abbrev pub invariant-loop-at : goal.invariant-loop-at
invariant-loop-at l = record {
  whole : l.first % 256 ≡ 0;
  at : IsFoundAt l.dfa l.cache (search_of l.input) (place_at l.at l.first None);
  begun : IsBegun l.dfa.nfa (search_of l.input) l.start l.at;
  low : l.fn.from.at ≤ l.at;
  high : l.at ≤ (search_of l.input).end;
}

abbrev pub decreases-loop-at : goal.decreases-loop-at
decreases-loop-at l = (search_of l.input).end - l.at
