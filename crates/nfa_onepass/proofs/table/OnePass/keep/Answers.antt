-- One cell was set.
use Rattle.nfa_paths.proofs.Common.{refl}
use Rattle.nfa_onepass.proofs.TableLemmas.{IsFor-set, KeepsRows-set}
use Rattle.nfa_onepass.proofs.table.OnePass.keep.Goals as goal

pub returns-clause-own : goal.returns-clause-own
returns-clause-own c =
    IsFor-set c.args.nfa.now c.args.self.now _ c.args.row c.args.column c.args.sid c.index_mut-kept.result.now
    c.args.cell
    c.index_mut-kept.ensures.value refl refl
    (record { rows = refl; lists = refl; setup = refl }) c.requires.own c.requires.here c.requires.cell

pub returns-clause-keeps : goal.returns-clause-keeps
returns-clause-keeps c =
    KeepsRows-set c.args.self.now.rows.items c.args.row c.args.column c.index_mut-kept.result.now c.args.cell
    c.index_mut-kept.ensures.value
