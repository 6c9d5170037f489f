-- A known match is the answer. Otherwise it is the search's, which gives the match that is known then.
use Rattle.nfa_paths.proofs.Common.{rules, ◌≡◌, ◌∙◌, ◌-◌, refl, ap, subst, Option, Ok, option_map, found_of, Search, search_of, Match, IsFindAnswer, raised}
use Rattle.nfa_search_base.specs.Common.{if_ends_at, last_start}
use Rattle.nfa_search_base.proofs.EngineLemmas.{find-answered, found-by, asks-known, known-kept, search-made}
use Rattle.nfa_search_base.proofs.SkipLemmas.{match-from-scan}
use Rattle.nfa_pikevm.specs.Engines.{kind_of}
use Rattle.nfa_pikevm.proofs.FindLemmas.{finds-sure, pike_finder}
use Rattle.nfa_pikevm.proofs.find_iter.FinderFindWith.answer.Goals as goal

pub returns-then-is_some : goal.returns-then-is_some
returns-then-is_some c =
    asks-known pike_finder c.ending_at-known.result c.start.ensures c.requires c.ending_at-known.ensures.kept
    c.ending_at-known.ensures.exactly (search rules)

pub returns : goal.returns
returns c =
    let vm = c.args.self.now.engine.now in
    let x = search_of c.args.input.now in
    let e = c.find_with_start-found.ensures in
    let cache = c.find_with_start-found.new.cache in
    let start : c.start-2.result ≡ last_start x cache.scans = c.start-2.ensures ∙ ap (λ (z : Search). z.start) e.last in
    let last = match-from-scan e.answer e.searches.work in
    record {
      finds = find-answered vm.nfa (kind_of vm) x.earliest x c.find_with_start-found.result e.answer;
      engine = refl;
      knows = known-kept pike_finder vm x (last_start x cache.scans) c.ending_at-self.result (λ m is.
          let k = c.ending_at-self.ensures.kept m is in (
            finds-sure vm (raised x (cache.scans - 1)) (found_of m)
                (subst (λ (o : Option Match). IsFindAnswer vm.nfa (kind_of vm) x.earliest
                (raised x (cache.scans - 1)) (option_map found_of o)) k.0 last),
            k.1 ∙ start,
          ));
      work = search-made c.ending_at-known.result
          (rw (← c.start.ensures) c.ending_at-known.ensures.exactly) (search rules) e.searches
          (rw (← start) c.ending_at-self.ensures.exactly
          ∙ ap (λ o. if_ends_at (last_start x cache.scans) o)
          (found-by (Ok c.find_with_start-found.result) c.find_with_start-found.result refl tt));
    }
