-- The row is idle.
use Rattle.nfa_paths.proofs.Common.{◌≡◌, ◌%◌, ℕ, sym, subst, arith, None, search_of}
use Rattle.nfa_lazy_dfa.specs.Places.{IsFoundAt}
use Rattle.nfa_lazy_dfa.specs.Runs.{place_at}
use Rattle.nfa_lazy_dfa.proofs.WatchLemmas.{IsBegun-idle}
use Rattle.nfa_lazy_dfa.proofs.watch.looked_at.Goals as goal

pub returns-clause-watching : goal.returns-clause-watching
returns-clause-watching c =
    let dfa = c.args.dfa.now in
    let cache = c.args.cache.now in
    let x = search_of c.args.input.now in
    let at = c.args.from.at in
    let here = c.idle_place-here.result in
    let same : here ≡ c.args.from.first = omega arith in
    let whole : here % 256 ≡ 0 = omega (arith, c.requires.watching.whole) in
    let place : IsFoundAt dfa cache x (place_at at here None) =
    subst (λ (first : ℕ). IsFoundAt dfa cache x (place_at at first None)) (sym same) c.requires.watching.at in
    record {
      whole = whole;
      at = place;
      idle = c.idle_place-here.ensures;
      begun = IsBegun-idle dfa cache x at here place whole c.idle_place-here.ensures (dfa.apart_is c.requires.apart);
    }
