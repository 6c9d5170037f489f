-- A finder that never errs gives no error to a step.
use Rattle.nfa_paths.proofs.Common.{found_of}
use Rattle.nfa_search_base.proofs.StepLemmas.{ServesAdvance-surely, step-no_error}
use Rattle.nfa_search_base.proofs.iter.searcher.Searcher.advance_by_ref.Goals as goal

pub try_advance_by_ref-requires : goal.try_advance_by_ref-requires
try_advance_by_ref-requires g c = ServesAdvance-surely c.requires

pub unreachable-requires : goal.unreachable-requires
unreachable-requires g c = step-no_error found_of c.requires c.try_advance_by_ref.ensures.step c.in-Err.is
