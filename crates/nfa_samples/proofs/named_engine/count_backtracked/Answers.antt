-- The items so far are the first matches, and all of them at the end. An error is a refusal.
use Rattle.std.proofs.Common.{rules, arith, ◌++◌, ◌∷◌, [], Ok, map, subst, sym}
use Rattle.std.proofs.lemmas.List.{length-map, length_push, map_push}
use Rattle.regex_search_core.specs.Found.{found_of}
use Rattle.regex_search_core.specs.Search.{search_of, whole}
use Rattle.nfa_engines.specs.BacktrackFinding.{AnswersByLength}
use Rattle.nfa_engines.specs.BacktrackIterators.{backtrack_matches_next}
use Rattle.nfa_engines.specs.BacktrackRuns.{GivesByLength, OksAreAll, OksAreFirst}
use Rattle.nfa_engines.specs.Runs.{OksAll, OksFirst}
use Rattle.nfa_samples.proofs.CountLemmas.{few-matches}
use Rattle.nfa_samples.proofs.named_engine.count_backtracked.Goals as goal

pub returns-in_err-found-clause-by_length : goal.returns-in_err-found-clause-by_length
returns-in_err-found-clause-by_length c =
    let e = c.args.engine.now in
    let x = search_of c.new.result in
    let given : GivesByLength e x c.into_iter-found-iterator.result =
    subst (λ s. GivesByLength e x s) (sym c.into_iter-found-iterator.ensures.into_iter_gives)
    c.try_find_iter-found-items.ensures.by_length.items in
    let told : AnswersByLength e (whole c.args.haystack.now) c.in-Some.found =
    subst (λ y. AnswersByLength e y c.in-Some.found) c.new.ensures
    (given c.loop-found.yielded _ _ _ c.loop-found.yielded_by c.in-Some.ensures.steps) in
    let refused = rw c.in_err-found.was at told in
    search rules

pub overflow_add-count : goal.overflow_add-count
overflow_add-count c =
    let e = c.args.engine.now in
    let x = search_of c.new.result in
    let given : OksFirst backtrack_matches_next (OksAreFirst e x) c.into_iter-found-iterator.result =
    subst (λ s. OksFirst backtrack_matches_next (OksAreFirst e x) s)
    (sym c.into_iter-found-iterator.ensures.into_iter_gives)
    c.try_find_iter-found-items.ensures.matches.first in
    let ms = c.loop-found.invariant.0 in
    let first : OksAreFirst e (whole c.args.haystack.now) ms =
    subst (λ y. OksAreFirst e y ms) c.new.ensures
    (given c.loop-found.yielded _ ms c.loop-found.yielded_by c.loop-found.invariant.1) in
    omega (arith, few-matches e.nfa c.args.haystack.now ms first, c.loop-found.invariant.2, c.type_inv.haystack)

pub loop-found-preserved : goal.loop-found-preserved
loop-found-preserved c =
    let ms = c.loop-found.invariant.0 in
    let m = c.in_ok-found.field-0 in (
      ms ++ m ∷ [],
      rw (c.loop-found.invariant.1, c.in_ok-found.was) (sym (map_push Ok ms m)),
      omega (arith, length_push ms m, c.loop-found.invariant.2),
    )

pub returns-clause-count : goal.returns-clause-count
returns-clause-count c =
    let e = c.args.engine.now in
    let x = search_of c.new.result in
    let given : OksAll backtrack_matches_next (OksAreAll e x) c.into_iter-found-iterator.result =
    subst (λ s. OksAll backtrack_matches_next (OksAreAll e x) s)
    (sym c.into_iter-found-iterator.ensures.into_iter_gives)
    c.try_find_iter-found-items.ensures.matches.all in
    let ms = c.loop-found.invariant.0 in
    record {
      all = map found_of ms;
      are_all = subst (λ y. OksAreAll e y ms) c.new.ensures
          (given c.loop-found.yielded _ _ ms c.loop-found.yielded_by c.in-None.ensures.steps
          c.loop-found.invariant.1);
      count_is = omega (arith, length-map ms found_of, c.loop-found.invariant.2);
    }
