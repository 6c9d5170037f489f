-- The slots are those of the row, and unset after it.
use Rattle.nfa_paths.proofs.Common.{take-length, None, ap, arith, length, replicate, slice_set, suc, take, ◌++◌, ◌+◌, ◌-◌, ◌∙◌, ◌≡◌}
use Rattle.nfa_pikevm_scan.proofs.RowLemmas.{handed-more}
use Rattle.nfa_pikevm_scan.proofs.slot.copy_out.Goals as goal

pub loop-i-preserved : goal.loop-i-preserved
loop-i-preserved c =
    let i = c.loop-i.i in
    let n = length c.args.slots.now in
    let left : n - i ≡ suc (n - (i + 1)) = omega (arith, c.requires, c.loop-i-test.true) in
    let next : suc i ≡ i + 1 = omega arith in
    record {
      handed =
          ap (λ l. slice_set l i c.get.result) (c.loop-i.invariant.handed
          ∙ ap (λ k. take i c.args.row.now ++ replicate k None) left)
          ∙ handed-more c.args.row.now i (n - (i + 1)) c.get.result c.loop-i-test.true
          (rw (← c.get.ensures) at c.index-row-i.is)
          ∙ ap (λ k. take k c.args.row.now ++ replicate (n - (i + 1)) None) next;
    }

pub returns : goal.returns
returns c =
    let all : c.loop-i.i ≡ length c.args.row.now = omega (arith, c.loop-i.auto.i-end, c.loop-i-test.false) in
    c.loop-i.invariant.handed
    ∙ ap (λ n. take n c.args.row.now ++ replicate (length c.args.slots.now - n) None) all
    ∙ ap (λ l. l ++ replicate (length c.args.slots.now - length c.args.row.now) None) (take-length c.args.row.now)
