-- A known match is the answer. Otherwise it is the search's, which gives the match that is known then.
use Rattle.nfa_paths.proofs.Common.{rules, ◌≡◌, ◌∙◌, refl, ap, subst, Option, Result, IfOk, IfSome, search_of, Match}
use Rattle.nfa_search_base.specs.Common.{if_ends_at, last_start}
use Rattle.nfa_search_base.specs.declared.error.SearchError.{SearchError}
use Rattle.nfa_search_base.proofs.EngineLemmas.{asks-known, known-kept, search-made}
use Rattle.nfa_backtrack.proofs.FindLemmas.{back_finder, found-once, found-sure, found-tells, known-last}
use Rattle.nfa_backtrack.proofs.find_iter.FinderFindWith.answer.Goals as goal

pub returns-then-is_some : goal.returns-then-is_some
returns-then-is_some c =
    asks-known back_finder c.ending_at-known.result c.start.ensures c.requires c.ending_at-known.ensures.kept
    c.ending_at-known.ensures.exactly (search rules)

pub returns : goal.returns
returns c =
    let e = c.args.self.now.engine.now in
    let x = search_of c.args.input.now in
    let reply = c.find_with_start-reply.result in
    let found = c.find_with_start-reply.ensures in
    let finds = found-tells reply found.answer found.counts in
    let once = found-once reply found.counts in
    let last = last_start x c.find_with_start-reply.new.cache.scans in
    record {
      finds = finds;
      engine = refl;
      knows = known-kept back_finder e x last c.ending_at-self.result (λ m is.
          let k = c.ending_at-self.ensures.kept m is in
          let some = c.found_in.ensures.found m k.0 in
          let same = subst (λ (r : Result (Option Match) SearchError). IfOk r
          (λ o. IfSome o (λ n. c.find_with_start-reply.new.start ≡ last))) some found.last in
          (found-sure reply m some finds once, k.1 ∙ same));
      work = search-made c.ending_at-known.result
          (rw (← c.start.ensures) c.ending_at-known.ensures.exactly) (search rules) once
          (c.ending_at-self.ensures.exactly
          ∙ ap (λ o. if_ends_at c.find_with_start-reply.new.start o) c.found_in.ensures.exactly
          ∙ known-last reply c.find_with_start-reply.new.start last found.last);
    }
