-- The items so far are the first matches, and all of them at the end.
use Rattle.std.proofs.Common.{arith, false, List, map, subst, sym}
use Rattle.std.proofs.iter.runs.Made.{run_of_exit}
use Rattle.std.proofs.lemmas.List.{length-map}
use Rattle.regex_search_core.specs.Found.{found_of}
use Rattle.regex_search_core.specs.Search.{search_of, whole}
use Rattle.regex_search_core.specs.declared.search.Match.{Match}
use Rattle.nfa_engines.specs.Engines.{kind_of}
use Rattle.nfa_engines.specs.Lists.{AreFirstMatches, AreMatches}
use Rattle.nfa_engines.specs.PikeVMIterators.{pike_matches_next}
use Rattle.nfa_engines.specs.Runs.{MatchesGiven}
use Rattle.nfa_samples.proofs.CountLemmas.{few-matches}
use Rattle.nfa_samples.proofs.named_engine.count_piked.Goals as goal

pub overflow_add-count : goal.overflow_add-count
overflow_add-count c =
    let nfa = c.args.engine.now.nfa in
    let kind = kind_of c.args.engine.now in
    let x = search_of c.new.result in
    let ms = c.loop-found.yielded in
    let given : MatchesGiven nfa kind x pike_matches_next c.into_iter-found-iterator.result =
    subst (λ s. MatchesGiven nfa kind x pike_matches_next s)
    (sym c.into_iter-found-iterator.ensures.into_iter_gives) c.find_iter-found-items.ensures.given in
    let first = subst (λ y. AreFirstMatches nfa kind y.earliest y (map found_of ms)) c.new.ensures
    (given.first ms _ c.loop-found.yielded_by) in
    let few = few-matches nfa c.args.haystack.now ms
    (subst (λ k. AreFirstMatches nfa k false (whole c.args.haystack.now) (map found_of ms)) c.requires.kind first) in
    omega (arith, few, c.loop-found.invariant, c.type_inv.haystack)

pub returns-clause-count : goal.returns-clause-count
returns-clause-count c =
    let nfa = c.args.engine.now.nfa in
    let kind = kind_of c.args.engine.now in
    let x = search_of c.new.result in
    let ms = c.loop-found.yielded in
    let given : MatchesGiven nfa kind x pike_matches_next c.into_iter-found-iterator.result =
    subst (λ s. MatchesGiven nfa kind x pike_matches_next s)
    (sym c.into_iter-found-iterator.ensures.into_iter_gives) c.find_iter-found-items.ensures.given in
    let run = run_of_exit pike_matches_next c.into_iter-found-iterator.result ms _ c.loop-found.yielded_by _
    c.in-None.ensures.steps in
    let all = subst (λ (xs : List Match). AreMatches nfa kind x.earliest x (map found_of xs)) run.3.0
    ((given.runs run.0 run.0.seen run.1).1 run.2) in
    record {
      all = map found_of ms;
      are_all = subst (λ k. AreMatches nfa k false (whole c.args.haystack.now) (map found_of ms)) c.requires.kind
          (subst (λ y. AreMatches nfa kind y.earliest y (map found_of ms)) c.new.ensures all);
      count_is = omega (arith, length-map ms found_of, c.loop-found.invariant);
    }
