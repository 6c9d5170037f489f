-- A scan that is leftmost first answers the first accepting path.
use Rattle.nfa_pikevm_scan.proofs.Common.{ScansFirst, length, search_of, ◌+◌, ◌-◌}
use Rattle.nfa_pikevm_scan.proofs.scan.scan_first.Given as goal

abbrev pub invariant-loop-to : goal.invariant-loop-to
invariant-loop-to l =
    ScansFirst l.nfa (search_of l.input) l.starts l.limit l.at (length l.fn.slots) l.found l.slots l.fn.threads
    l.threads

abbrev pub decreases-loop-to : goal.decreases-loop-to
decreases-loop-to l = (search_of l.input).end + 1 - l.at
