-- The count of a scan changes no set of states.
use Rattle.nfa_pikevm_scan.proofs.scan.scan.Goals as goal

pub invariant_of-threads : goal.invariant_of-threads
invariant_of-threads c =
    let threads = c.args.threads.now in
    record {
      same_capacity = threads.same_capacity;
      same_cells = threads.same_cells;
      same_width = threads.same_width;
    }
