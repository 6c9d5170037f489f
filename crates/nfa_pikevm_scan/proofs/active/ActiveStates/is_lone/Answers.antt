-- There are as many items as states in use.
use Rattle.nfa_pikevm_scan.proofs.Common.{arith, length-take-le}
use Rattle.nfa_pikevm_scan.proofs.RowLemmas.{length-items_of}
use Rattle.nfa_pikevm_scan.proofs.active.ActiveStates.is_lone.Goals as goal

pub returns : goal.returns
returns c = grind (arith, length-items_of, length-take-le)
