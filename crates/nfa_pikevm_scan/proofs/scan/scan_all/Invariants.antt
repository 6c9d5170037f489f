-- A scan of all matches answers the last one that is seen.
use Rattle.nfa_pikevm_scan.proofs.Common.{held, is_match, length, search_of}
use Rattle.nfa_pikevm_scan.proofs.AllLemmas.{HasLast, ScansAll}
use Rattle.nfa_pikevm_scan.proofs.EndLemmas.{Stands}
use Rattle.nfa_pikevm_scan.proofs.scan.scan_all.Given as goal

abbrev pub invariant-loop-at : goal.invariant-loop-at
invariant-loop-at l = record {
  stands : Stands l.nfa (search_of l.input) l.at l.fn.threads l.threads;
  scans : ScansAll l.nfa (search_of l.input) (is_match l.nfa) l.at (length l.fn.slots) l.starts.state l.at
      l.starts.limit (held l.threads l.slots);
  last : HasLast l.nfa (search_of l.input) l.at (length l.fn.slots) l.found l.slots l.threads.reached.seen.turns;
}
