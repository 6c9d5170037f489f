-- A step by calls of the finder is a step of the iterator that keeps it.
use Rattle.nfa_paths.proofs.Common.{subst}
use Rattle.nfa_search_base.specs.Common.{stored_captures_steps, steps_whole, with_cache, WithCaptures, with_finder, Steps}
use Rattle.nfa_search_base.proofs.StepLemmas.{Along-whole, filler_calls}
use Rattle.nfa_search_base.proofs.StoredLemmas.{takes-whole, progress-whole}
use Rattle.nfa_search_base.proofs.iter.captures_matches.TryCapturesIterIterator.next.Goals as goal

pub next_with-requires : goal.next_with-requires
next_with-requires g c = Along-whole with_finder (filler_calls g.F.FnMut) (rw (← c.self.view_is) at c.requires)

pub returns-clause-steps : goal.returns-clause-steps
returns-clause-steps g c =
    let left = with_cache c.next_with.new.self c.next_with.new.cache in
    subst (λ (s : Steps (WithCaptures g.row.F.Denot)). stored_captures_steps g.F.FnMut s c.next_with.result
    (steps_whole with_finder left)) c.self.view_is
    (takes-whole with_finder (filler_calls g.F.FnMut) _ left c.next_with.result c.next_with.ensures)

pub returns-clause-goes : goal.returns-clause-goes
returns-clause-goes g c =
    rw c.self.view_is at
    (progress-whole with_finder (filler_calls g.F.FnMut) _ _ c.next_with.result c.next_with.ensures
    (rw (← c.self.view_is) at c.requires))
