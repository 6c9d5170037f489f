-- A search is repeated, from one byte further on each time, until the answer counts.
use Rattle.std.proofs.Common.{rules, refl}
use Rattle.nfa_search_base.proofs.SkipLemmas.{HasCome-start, HasCome-callable, HasCome-placed, HasCome-next, HasCome-last, HasCome-end, start_raised-start, start_raised-up}
use Rattle.nfa_search_base.proofs.empty.skip_forward.Goals as goal

pub loop-input-init : goal.loop-input-init
loop-input-init g c = (c.requires.offset, HasCome-start (start_raised-start _) refl c.requires.finder)

pub ask-requires : goal.ask-requires
ask-requires g c =
    HasCome-callable c.loop-input.invariant.1 (start_raised-up _ _ _ (search rules)) (search rules)

pub loop-input-preserved : goal.loop-input-preserved
loop-input-preserved g c =
    let asked = rw (c.in-Ok-Some.is, c.in-Ok-Some.field-0-is) at c.ask.ensures in (
      HasCome-placed c.loop-input.invariant.1 (start_raised-up _ _ _ (search rules)) (search rules) asked,
      HasCome-next c.loop-input.invariant.1 (start_raised-up _ _ _ (search rules)) (search rules) asked (search rules),
    )

pub returns-in-Ok-None : goal.returns-in-Ok-None
returns-in-Ok-None g c =
    let asked = rw (c.in-Ok-None.is, c.in-Ok-None.field-0-is) at c.ask.ensures in
    HasCome-last c.loop-input.invariant.1 (start_raised-up _ _ _ (search rules)) (search rules) asked tt refl

pub returns-in-Err : goal.returns-in-Err
returns-in-Err g c =
    let asked = rw (c.in-Err.is) at c.ask.ensures in
    HasCome-last c.loop-input.invariant.1 (start_raised-up _ _ _ (search rules)) (search rules) asked tt refl

pub returns : goal.returns
returns g c = HasCome-end c.loop-input.invariant.1 (search rules) refl
