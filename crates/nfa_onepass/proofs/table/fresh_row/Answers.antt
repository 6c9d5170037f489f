-- Each cell is the same.
use Rattle.nfa_paths.proofs.Common.{ap, refl}
use Rattle.nfa_onepass.specs.declared.table.Cell.{Cell}
use Rattle.nfa_onepass.proofs.TableLemmas.{replicate-is}
use Rattle.nfa_onepass.proofs.table.fresh_row.Goals as goal

pub returns : goal.returns
returns c = record {
  state = refl;
  unknown = λ k cell e.
      ap (λ (z : Cell). z.goal) (replicate-is 257 k (record { goal = 4294967295; list = 0 }) cell e);
}
