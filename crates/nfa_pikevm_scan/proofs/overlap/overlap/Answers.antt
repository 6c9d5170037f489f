-- A set with no room gains nothing.
use Rattle.nfa_paths.proofs.Common.{arith}
use Rattle.nfa_pikevm_scan.proofs.OverlapLemmas.{full-result}
use Rattle.nfa_pikevm_scan.proofs.overlap.overlap.Goals as goal

pub returns-then-is_full-clause-result : goal.returns-then-is_full-clause-result
returns-then-is_full-clause-result c = grind (arith, full-result)

pub invariant_of-threads : goal.invariant_of-threads
invariant_of-threads c =
    let threads = c.args.threads.now in
    record {
      same_capacity = threads.same_capacity;
      same_cells = threads.same_cells;
      same_width = threads.same_width;
    }
