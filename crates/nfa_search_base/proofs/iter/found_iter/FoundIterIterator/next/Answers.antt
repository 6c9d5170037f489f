-- A step whose finder never errs gives a match or nothing.
use Rattle.nfa_search_base.proofs.AskingLemmas.{Along-weaker}
use Rattle.nfa_search_base.proofs.StoredLemmas.{SureCall, never-err, sure-some, sure-none}
use Rattle.nfa_search_base.proofs.iter.found_iter.FoundIterIterator.next.Goals as goal
use Rattle.nfa_search_base.proofs.iter.found_iter.FoundIterIterator.next.Goals.{in-Some-Ok, in-None}

pub next-requires : goal.next-requires
next-requires g c = Along-weaker (λ t a p. p.0) (rw (← c.self.view_is) at c.requires)

pub unreachable-requires : goal.unreachable-requires
unreachable-requires g c =
    let m = g.M.Spanned in
    let call : SureCall m.value m.span g.F.FnMut c.self.inside.tries c.next.result c.next.new.self =
    record { may = rw (← c.self.view_is) at c.requires; took = c.next.ensures.steps } in
    never-err call c.in-Some-Err.field-0-0 (cc)

pub returns-clause-goes : goal.returns-clause-goes
returns-clause-goes g c =
    let m = g.M.Spanned in
    let call : SureCall m.value m.span g.F.FnMut c.self.inside.tries c.next.result c.next.new.self =
    record { may = rw (← c.self.view_is) at c.requires; took = c.next.ensures.steps } in
    elim c.match-next.branch [
      | in-Some-Ok w ↦ rw c.self.view_is at (sure-some call w.in-Some-Ok.found _ (cc) w.result-is)
      | in-None w ↦ rw c.self.view_is at (sure-none call _ w.result-is)
    ]
