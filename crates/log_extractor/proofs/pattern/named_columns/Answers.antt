-- One more name was read.
use Rattle.nfa_paths.proofs.Common.{arith, length-take, take, take_more}
use Rattle.log_extractor.proofs.FieldLemmas.{named-more}
use Rattle.log_extractor.proofs.pattern.named_columns.Goals as goal

pub loop-group-preserved : goal.loop-group-preserved
loop-group-preserved c =
    let names = c.args.names.now in
    let i = c.loop-group.group in
    let name = c.index-names-group.result in
    rw (
      take_more names i name c.loop-group-test.true,
      ← c.index-names-group.is,
      ← named-more 0 i (take i names) name (omega (arith, length-take i names, c.loop-group-test.true)),
      ← c.loop-group.invariant,
    ) c.in_ok-push_named.ensures
