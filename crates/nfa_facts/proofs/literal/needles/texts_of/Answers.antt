-- One of the texts so far is there.
use Rattle.nfa_facts.specs.Needles.{texts_now}
use Rattle.nfa_facts.proofs.NeedleLemmas.{begins-any}
use Rattle.nfa_facts.proofs.literal.needles.texts_of.Goals as goal

pub returns-then-saturating_mul-gt-MAX_TEXTS : goal.returns-then-saturating_mul-gt-MAX_TEXTS
returns-then-saturating_mul-gt-MAX_TEXTS c = λ hay k fits.
    begins-any hay (texts_now c.loop-level.texts.items) c.loop-level.level-index k (c.loop-level.invariant hay k fits)

pub returns : goal.returns
returns c = λ hay k fits.
    begins-any hay (texts_now c.loop-level.texts.items) c.loop-level.level-index k (c.loop-level.invariant hay k fits)
