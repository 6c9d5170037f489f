-- The set has gained what the positions before this one mean.
use Rattle.nfa_pikevm_scan.proofs.Common.{[], held, length, search_of, size_of_set, ◌+◌, ◌<◌, ◌≡◌, ◌≤◌}
use Rattle.nfa_pikevm_scan.proofs.EndLemmas.{Stands}
use Rattle.nfa_pikevm_scan.proofs.OverlapLemmas.{SoFar}
use Rattle.nfa_pikevm_scan.proofs.overlap.overlap_from.Given as goal

abbrev pub invariant-loop-at : goal.invariant-loop-at
invariant-loop-at l = record {
  stands : Stands l.nfa (search_of l.input) l.at l.fn.threads l.threads;
  state : l.joining.state < length l.nfa.states;
  stop : l.joining.stop ≡ l.starts.stop;
  limit : l.joining.limit ≤ (search_of l.input).end + 1;
  so_far : SoFar l.nfa (search_of l.input) l.fn.patterns l.past_match (search_of l.input).earliest l.joining l.at
      (held l.threads []) l.patterns;
  not_full : size_of_set l.patterns < length l.patterns;
}
