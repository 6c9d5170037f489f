-- the first state that leads outside
use Rattle.std.proofs.Common.{refl}
use Rattle.thompson_nfa.specs.Automaton.{node_of, LeadsBelow, Fail}
use Rattle.thompson_nfa.proofs.FlawLemmas.{all-take-suc, all-map-from_take, first-fails}
use Rattle.thompson_nfa.proofs.validate.first_leading_outside.Goals as goal

pub returns-then-not-leads_below : goal.returns-then-not-leads_below
returns-then-not-leads_below c =
    first-fails (LeadsBelow c.args.len) node_of _ _ _ Fail c.loop-index-test.true c.index-states-index.is
    c.loop-index.invariant (λ passes. cc (c.if-not-leads_below.ensures.1 passes))

pub loop-index-preserved : goal.loop-index-preserved
loop-index-preserved c =
    all-take-suc (λ s. LeadsBelow c.args.len (node_of s)) _ _ _ c.loop-index-test.true c.index-states-index.is
    c.loop-index.invariant (c.if-not-leads_below.ensures.0 refl)

pub returns : goal.returns
returns c = all-map-from_take (LeadsBelow c.args.len) node_of _ _ c.loop-index-test.false c.loop-index.invariant
