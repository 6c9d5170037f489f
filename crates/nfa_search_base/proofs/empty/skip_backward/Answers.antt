-- A search of ends is repeated, with its end one byte less each time, until the answer counts.
use Rattle.std.proofs.Common.{rules, refl, arith}
use Rattle.nfa_search_base.proofs.SkipLemmas.{HasCome-start, HasCome-callable, HasCome-placed, HasCome-next, HasCome-last, HasCome-none, HasCome-end, lowered-start, lowered-down, lowered-none}
use Rattle.nfa_search_base.proofs.empty.skip_backward.Goals as goal

pub loop-input-init : goal.loop-input-init
loop-input-init g c = (c.requires.offset, HasCome-start (lowered-start _) refl c.requires.finder)

pub ask-requires : goal.ask-requires
ask-requires g c =
    HasCome-callable c.loop-input.invariant.1 (lowered-down _ _ _ (omega arith) (search rules)) (search rules)

pub loop-input-preserved : goal.loop-input-preserved
loop-input-preserved g c =
    let asked = rw (c.in-Ok-Some.is, c.in-Ok-Some.field-0-is) at c.ask.ensures in (
      HasCome-placed c.loop-input.invariant.1 (lowered-down _ _ _ (omega arith) (search rules)) (search rules) asked,
      HasCome-next c.loop-input.invariant.1 (lowered-down _ _ _ (omega arith) (search rules)) (search rules) asked
          (search rules),
    )

pub returns-in-Ok-None : goal.returns-in-Ok-None
returns-in-Ok-None g c =
    let asked = rw (c.in-Ok-None.is, c.in-Ok-None.field-0-is) at c.ask.ensures in
    HasCome-last c.loop-input.invariant.1 (lowered-down _ _ _ (omega arith) (search rules)) (search rules) asked tt refl

pub returns-in-Err : goal.returns-in-Err
returns-in-Err g c =
    let asked = rw (c.in-Err.is) at c.ask.ensures in
    HasCome-last c.loop-input.invariant.1 (lowered-down _ _ _ (omega arith) (search rules)) (search rules) asked tt refl

pub returns : goal.returns
returns g c = HasCome-end c.loop-input.invariant.1 (search rules) refl

pub returns-then-end-eq0 : goal.returns-then-end-eq0
returns-then-end-eq0 g c =
    HasCome-none c.loop-input.invariant.1
    (lowered-none _ _ (search rules)) (search rules) refl
