-- The row is idle, or the watch knows an older idle row.
use Rattle.nfa_paths.proofs.Common.{◌≡◌, ◌*◌, ◌/◌, ◌%◌, ℕ, sym, ◌∙◌, ap, subst, arith, option_map, half_found_of, search_of}
use Rattle.nfa_lazy_dfa.specs.Rows.{IsRowOf}
use Rattle.nfa_lazy_dfa.proofs.RunLemmas.{few-at}
use Rattle.nfa_lazy_dfa.proofs.WatchLemmas.{IsFoundAt-place, idle-begun}
use Rattle.nfa_lazy_dfa.proofs.watch.watch_at.Goals as goal

pub overflow_mul-first : goal.overflow_mul-first
overflow_mul-first c =
    let few = few-at c.args.dfa.now c.args.cache.now (search_of c.args.input.now) c.args.place c.requires.own
    c.requires.at in
    omega arith

pub returns-then-here-first-clause-watching : goal.returns-then-here-first-clause-watching
returns-then-here-first-clause-watching c =
    let dfa = c.args.dfa.now in
    let cache = c.args.cache.now in
    let x = search_of c.args.input.now in
    let p = c.args.place in
    let idle = c.idle_place-here.result in
    let same : idle ≡ p.row * 256 = c.if-here-first.true in
    let whole : idle % 256 ≡ 0 = omega arith in
    let row : p.row ≡ idle / 256 = omega arith in
    let place = IsFoundAt-place dfa cache x p c.requires.found c.requires.at in
    record {
      whole = omega arith;
      at = place;
      idle = c.idle_place-here.ensures;
      begun = idle-begun dfa cache x p.at p.row c.requires.at.at (dfa.apart_is c.requires.apart)
          (λ s is. c.idle_place-here.ensures.alone s whole (subst (λ (r : ℕ). IsRowOf cache r s) row is))
          (ap (option_map half_found_of) (sym c.requires.found) ∙ c.requires.at.found);
    }
