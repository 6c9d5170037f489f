-- The scan is at its first position, in the row of such a search.
use Rattle.nfa_paths.proofs.Common.{rules, ◌≤◌, ◌∙◌, refl, sym, arith, common_steps, search_of}
use Rattle.nfa_lazy_dfa.proofs.ScanLemmas.{IsAt-begin, IsFoundAt-begin}
use Rattle.nfa_lazy_dfa.proofs.quick.known_begin.Goals as goal

pub returns : goal.returns
returns c =
    let x = search_of c.args.input.now in
    let dfa = c.args.dfa.now in
    let cache = c.args.cache.now in
    let order : x.start ≤ x.end = first_of (search rules, grind (arith, common_steps)) in
    IsFoundAt-begin dfa cache x x.start c.in_ok-row.row c.start-at.result c.start-at.ensures refl
    (IsAt-begin dfa x cache c.in_ok-row.row c.in-Some.start c.in-Ok.seen c.may_start_later.result
    (sym c.start_state.ensures.value ∙ c.in-Some.is) order c.in_ok-row.ensures c.may_start_later.ensures.count
    c.may_start_later.ensures.begins c.args.input.now.within c.in-Ok.ensures.read c.in-Ok.ensures.like)
