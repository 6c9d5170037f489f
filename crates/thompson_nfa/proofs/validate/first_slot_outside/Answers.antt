-- the first state that writes a slot outside, and that slot
use Rattle.std.proofs.Common.{◌∙◌, ap, refl}
use Rattle.thompson_nfa.specs.Automaton.{node_of, SlotBelow, Fail}
use Rattle.thompson_nfa.specs.Flaws.{slot_of}
use Rattle.thompson_nfa.proofs.FlawLemmas.{all-take-suc, all-map-from_take, image-at, first-fails}
use Rattle.thompson_nfa.proofs.validate.first_slot_outside.Goals as goal

pub returns-in-Some : goal.returns-in-Some
returns-in-Some c = (
  first-fails (SlotBelow c.args.len) node_of _ _ _ Fail c.loop-index-test.true c.index-states-index.is
      c.loop-index.invariant (λ passes. cc (c.in-Some.ensures.none.1 passes)),
  ap slot_of (image-at node_of _ _ _ Fail c.loop-index-test.true c.index-states-index.is)
      ∙ c.in-Some.ensures.slot,
)

pub loop-index-preserved : goal.loop-index-preserved
loop-index-preserved c =
    all-take-suc (λ s. SlotBelow c.args.len (node_of s)) _ _ _ c.loop-index-test.true c.index-states-index.is
    c.loop-index.invariant (c.in_default.ensures.none.0 refl)

pub returns : goal.returns
returns c = all-map-from_take (SlotBelow c.args.len) node_of _ _ c.loop-index-test.false c.loop-index.invariant
