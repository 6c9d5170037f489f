-- The row is copied, whatever its length.
use Rattle.nfa_paths.proofs.Common.{arith}
use Rattle.nfa_pikevm_scan.proofs.RowLemmas.{copied-four, copied-two}
use Rattle.nfa_pikevm_scan.proofs.slot.copy_row.Goals as goal

pub returns-in-2 : goal.returns-in-2
returns-in-2 c = grind (arith, copied-two)

pub returns-in-4 : goal.returns-in-4
returns-in-4 c = grind (arith, copied-four)
