-- A step whose finder never errs gives captures, nothing, or a refusal.
use Rattle.nfa_search_base.specs.Common.{row_span, IsInfalliblyInside}
use Rattle.nfa_search_base.proofs.AskingLemmas.{Along-weaker}
use Rattle.nfa_search_base.proofs.StepLemmas.{filler_calls}
use Rattle.nfa_search_base.proofs.StoredLemmas.{takes-progress}
use Rattle.nfa_search_base.proofs.WithCapturesLemmas.{sure-step}
use Rattle.nfa_search_base.proofs.iter.captures_matches.CapturesIterIterator.next.Goals as goal

pub next-requires : goal.next-requires
next-requires g c = Along-weaker (λ t a p. p.0) (rw (← c.self.view_is) at c.requires)

pub returns-clause-steps : goal.returns-clause-steps
returns-clause-steps g c =
    rw c.self.view_is at (sure-step g.F.FnMut c.self.inside.tries c.next.new.self c.next.result
    (rw (← c.self.view_is) at c.requires) c.next.ensures.steps)

pub returns-clause-goes : goal.returns-clause-goes
returns-clause-goes g c =
    rw c.self.view_is at
    (takes-progress (filler_calls g.F.FnMut) (IsInfalliblyInside row_span) c.self.inside.tries _ _
    (rw (← c.self.view_is) at c.requires) c.next.ensures.steps)
