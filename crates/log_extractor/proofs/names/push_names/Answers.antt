-- One more name was added, unless it was there.
use Rattle.std.proofs.lemmas.List.{take_more}
use Rattle.log_extractor.proofs.SeveralLemmas.{with-names-more}
use Rattle.log_extractor.proofs.names.push_names.Goals as goal

pub loop-column-preserved : goal.loop-column-preserved
loop-column-preserved c =
    rw (
      take_more c.args.columns.now c.loop-column.column-index c.column-item.result c.loop-column-test.true,
      ← c.column-item.is,
      with-names-more,
      ← c.loop-column.invariant,
    ) c.in_ok-push_name.ensures
