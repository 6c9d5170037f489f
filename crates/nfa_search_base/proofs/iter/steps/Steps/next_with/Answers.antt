-- A step by searches with a cache is a step of the iterator.
use Rattle.nfa_search_base.specs.Stored.{iter_state_of}
use Rattle.nfa_search_base.proofs.StepLemmas.{ServesAdvance-now}
use Rattle.nfa_search_base.proofs.iter.steps.Steps.next_with.Goals as goal

pub step_with-reply-requires : goal.step_with-reply-requires
step_with-reply-requires g c = ServesAdvance-now (iter_state_of c.args.self.now.searcher) c.requires
