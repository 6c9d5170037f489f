-- The calls so far gave what is kept, and the next one may be made.
use Rattle.nfa_paths.proofs.Common.{Ok, map}
use Rattle.nfa_search_base.specs.Common.{items_left, with_cache, can_step, steps_iter_state, takes_steps, Yields}
use Rattle.nfa_search_base.proofs.iter.steps.Steps.all_with.Given as goal

abbrev pub invariant-loop-item : goal.invariant-loop-item
invariant-loop-item g l = record {
  ran : Yields (takes_steps g.A.FindWith.span g.A.FindWith.asks (λ q. g.A.FindWith.gives q.backend))
      (with_cache l.fn.self l.fn.cache) (map Ok l.all.items) (with_cache l.self l.cache);
  can : can_step g.A.FindWith.accepts g.A.FindWith.asks g.A.FindWith.span (with_cache l.self l.cache);
}

abbrev pub decreases-loop-item : goal.decreases-loop-item
decreases-loop-item g l = items_left l.self.done (steps_iter_state l.self)
