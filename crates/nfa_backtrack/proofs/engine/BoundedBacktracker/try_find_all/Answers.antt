-- The matches are inside the span. An item that is an error is `HaystackTooLong` or `Memory`.
use Rattle.nfa_paths.proofs.Common.{rules, false, map, None, subst, sym, found_of, search_of, LeftmostFirst}
use Rattle.nfa_search_base.specs.Common.{AreFirstMatches}
use Rattle.nfa_search_base.proofs.ListLemmas.{matches-disjoint}
use Rattle.nfa_search_base.proofs.CapturesRunLemmas.{all-inside}
use Rattle.nfa_backtrack.specs.Finding.{AnswersByLength}
use Rattle.nfa_backtrack.specs.Runs.{GivesByLength}
use Rattle.nfa_backtrack.proofs.engine.BoundedBacktracker.try_find_all.Goals as goal

pub returns-clause-inside : goal.returns-clause-inside
returns-clause-inside c =
    let nfa = c.args.self.now.nfa in
    let x = search_of c.args.input in
    let all = c.loop-item.found.items in
    let first : AreFirstMatches nfa LeftmostFirst false x (map found_of all) = search rules in
    all-inside x None all (matches-disjoint nfa LeftmostFirst false x (map found_of all) first)

pub returns-in_err-item-clause-by_length : goal.returns-in_err-item-clause-by_length
returns-in_err-item-clause-by_length c =
    let told : AnswersByLength c.args.self.now (search_of c.args.input) c.in-Some.item = search rules in
    let refused = rw c.in_err-item.was at told in
    search rules

pub returns-in_err-push-clause-by_length : goal.returns-in_err-push-clause-by_length
returns-in_err-push-clause-by_length c =
    let by_length : GivesByLength c.args.self.now (search_of c.args.input) c.into_iter-item-iterator.result =
    subst (λ s. GivesByLength c.args.self.now (search_of c.args.input) s)
    (sym c.into_iter-item-iterator.ensures.into_iter_gives) c.try_find_iter-item-items.ensures.by_length.items in
    let told : AnswersByLength c.args.self.now (search_of c.args.input) c.in-Some.item =
    by_length c.loop-item.yielded _ _ _ c.loop-item.yielded_by c.in-Some.ensures.steps in
    let fits = rw c.in_ok-item.was at told in
    search rules
