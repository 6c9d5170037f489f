-- There was none so far.
use Rattle.replacer.specs.Hits.{HasNoForeign}
use Rattle.replacer.proofs.hint.has_foreign.Given as goal

abbrev pub invariant-loop-at : goal.invariant-loop-at
invariant-loop-at l = HasNoForeign l.template l.at
