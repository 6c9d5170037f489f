-- A scan that ends at the first match that is seen answers the path with the least end.
use Rattle.nfa_pikevm_scan.proofs.Common.{NoneBefore, held, is_match, length, search_of, space, ◌≡◌}
use Rattle.nfa_pikevm_scan.proofs.AllLemmas.{ScansAll}
use Rattle.nfa_pikevm_scan.proofs.EndLemmas.{Stands}
use Rattle.nfa_pikevm_scan.proofs.scan.scan_earliest.Given as goal

abbrev pub invariant-loop-at : goal.invariant-loop-at
invariant-loop-at l = record {
  stands : Stands l.nfa (search_of l.input) l.at l.fn.threads l.threads;
  scans : ScansAll l.nfa (search_of l.input) (is_match l.nfa) l.at (length l.fn.slots) l.starts.state l.at
      l.starts.limit (held l.threads l.slots);
  none : NoneBefore (space l.nfa (search_of l.input)) (is_match l.nfa) l.at;
  same : l.slots ≡ l.fn.slots;
}
