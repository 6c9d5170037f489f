-- The captures that are lent are those which the iterator holds.
use Rattle.nfa_paths.proofs.Common.{Captured, Option, Result, refl, subst, sym}
use Rattle.nfa_search_base.specs.declared.error.SearchError.{SearchError}
use Rattle.nfa_search_base.proofs.LentLemmas.{lent-fewer}
use Rattle.nfa_pikevm.specs.Iterators.{pike_captures_next}
use Rattle.nfa_pikevm.proofs.captures_iter.CapturesMatches.next_lent.Goals as goal

pub returns : goal.returns
returns c =
    let calls : Option (Result Captured SearchError) → Type 0 = λ item.
    pike_captures_next c.args.self.now item c.advance.new.self in
    let call = subst calls (sym c.held.ensures) c.advance.ensures in (
      (refl, λ _. tt, record { call = call; fewer = lent-fewer _ _ _ _ _ c.held.result call.takes.step }),
      record { lends = tt },
    )
