-- The names of one more pattern were added, and at last of all.
use Rattle.std.proofs.Common.{◌∙◌, ◌+◌, ap, arith, drop, map, string_bytes, sym}
use Rattle.log_extractor.specs.Fields.{column_names}
use Rattle.log_extractor.specs.Several.{with_columns, with_names}
use Rattle.log_extractor.proofs.SeveralLemmas.{none-after, pattern-at}
use Rattle.log_extractor.proofs.names.union_of.Goals as goal

pub loop-labelled-preserved : goal.loop-labelled-preserved
loop-labelled-preserved c = λ ps are.
    let i = c.loop-labelled.labelled-index in
    let at = pattern-at c.args.parsers.now ps are i c.labelled-item.result c.loop-labelled-test.true
    c.labelled-item.is in
    let old = map string_bytes c.loop-labelled.names.items in
    c.loop-labelled.invariant ps are ∙ ap (with_columns old) at.rest
    ∙ ap (λ ns. with_columns ns (drop (i + 1) ps)) (sym (c.in_ok-push_names.ensures
    ∙ ap (λ cs. with_names old (column_names cs)) (c.columns.ensures at.p.1 at.is.1)))

pub returns : goal.returns
returns c = λ ps are.
    sym (c.loop-labelled.invariant ps are ∙ ap (with_columns (map string_bytes c.loop-labelled.names.items))
    (none-after c.args.parsers.now ps are c.loop-labelled.labelled-index (omega (arith, c.loop-labelled-test.false))))
