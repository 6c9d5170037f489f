-- One more pattern has its label.
use Rattle.log_extractor.proofs.SeveralLemmas.{labels-step}
use Rattle.log_extractor.proofs.command.labels_of.Goals as goal

pub loop-number-preserved : goal.loop-number-preserved
loop-number-preserved c =
    labels-step c.args.patterns.now c.loop-number.number _ c.loop-number.labels.items c.push.new.self.items
    c.in_ok-pattern_label.field-0 c.loop-number-test.true c.in_ok-push.ensures.items c.in_ok-pattern_label.ensures
    c.loop-number.invariant
