-- A step by calls of the finder is a step of the iterator that keeps it.
use Rattle.nfa_paths.proofs.Common.{subst}
use Rattle.nfa_search_base.specs.Common.{stored_match_steps, only_cache, steps_whole, with_cache, Steps}
use Rattle.nfa_search_base.proofs.StepLemmas.{Along-whole, finder_calls}
use Rattle.nfa_search_base.proofs.StoredLemmas.{takes-whole, progress-whole}
use Rattle.nfa_search_base.proofs.iter.found_iter.TryFoundIterIterator.next.Goals as goal

pub next_with-requires : goal.next_with-requires
next_with-requires g c =
    let m = g.M.Spanned in
    Along-whole only_cache (finder_calls m.value m.span g.F.FnMut) (rw (← c.self.view_is) at c.requires)

pub returns-clause-steps : goal.returns-clause-steps
returns-clause-steps g c =
    let m = g.M.Spanned in
    let left = with_cache c.next_with.new.self c.next_with.new.cache in
    subst (λ (s : Steps g.row.F.Denot). stored_match_steps m.value m.span g.F.FnMut s c.next_with.result
    (steps_whole only_cache left)) c.self.view_is
    (takes-whole only_cache (finder_calls m.value m.span g.F.FnMut) _ left c.next_with.result c.next_with.ensures)

pub returns-clause-goes : goal.returns-clause-goes
returns-clause-goes g c =
    let m = g.M.Spanned in
    rw c.self.view_is at
    (progress-whole only_cache (finder_calls m.value m.span g.F.FnMut) _ _ c.next_with.result c.next_with.ensures
    (rw (← c.self.view_is) at c.requires))
