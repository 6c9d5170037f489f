-- The slots are those of the row, and unset after it.
use Rattle.nfa_paths.proofs.Common.{None, length, replicate, take, ◌++◌, ◌-◌, ◌≡◌}
use Rattle.nfa_pikevm_scan.proofs.slot.copy_out.Given as goal

abbrev pub invariant-loop-i : goal.invariant-loop-i
invariant-loop-i l = record { handed : l.slots ≡ take l.i l.row ++ replicate (length l.fn.slots - l.i) None }
