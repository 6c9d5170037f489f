-- The state is marked afterwards, and it is told whether it was before.
use Rattle.nfa_pikevm_scan.proofs.Common.{arith, length-map}
use Rattle.nfa_pikevm_scan.proofs.RowLemmas.{marks_of-other, marks_of-set}
use Rattle.nfa_pikevm_scan.proofs.seen.Seen.insert.Goals as goal

pub returns-clause-fresh : goal.returns-clause-fresh
returns-clause-fresh c = grind (arith, marks_of-other, length-map, marks_of-set)
