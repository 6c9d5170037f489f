-- All slots of the row are none.
use Rattle.nfa_paths.proofs.Common.{None, [], refl, ◌∷◌}
use Rattle.nfa_pikevm_scan.proofs.RowLemmas.{copied-four, copied-two}
use Rattle.nfa_pikevm_scan.proofs.slot.unset_row.Goals as goal

pub returns-in-2 : goal.returns-in-2
returns-in-2 c =
    rw c.in-2.is (copied-two c.args.row.now (None ∷ None ∷ []) c.unset.result c.unset-in-2.result c.in-2.is
    refl c.unset.ensures c.unset-in-2.ensures)

pub returns-in-4 : goal.returns-in-4
returns-in-4 c =
    rw c.in-4.is (copied-four c.args.row.now (None ∷ None ∷ None ∷ None ∷ []) c.unset-in-4.result
    c.unset-in-4-2.result c.unset-in-4-3.result c.unset-in-4-4.result c.in-4.is refl
    c.unset-in-4.ensures c.unset-in-4-2.ensures c.unset-in-4-3.ensures c.unset-in-4-4.ensures)
