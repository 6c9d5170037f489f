-- The match at the end of the span is the last one.
use Rattle.nfa_paths.proofs.Common.{◌≡◌, ◌≤◌, ◌∙◌, ℕ, ap, sym, subst, arith, option_map, slice_get, number_of, search_of, half_at}
use Rattle.nfa_lazy_dfa.specs.Configurations.{found_after, scan_half}
use Rattle.nfa_lazy_dfa.specs.Assertions.{IsRead}
use Rattle.nfa_lazy_dfa.specs.Rows.{IsAt}
use Rattle.nfa_lazy_dfa.specs.Stances.{hit_here}
use Rattle.nfa_lazy_dfa.proofs.ScanLemmas.{IsAt-end, found-or, found_at}
use Rattle.nfa_lazy_dfa.proofs.ends.found_last.Goals as goal

pub returns-clause-steps : goal.returns-clause-steps
returns-clause-steps c =
    let x = search_of c.args.input.now in
    let dfa = c.args.dfa.now in
    let cache = c.args.cache.now in
    let at = c.args.place.at in
    let row = c.args.place.row in
    let here = c.requires.at in
    let high : at ≤ x.end = here.at.high in
    let last : at ≡ x.end = omega arith in
    let hit = option_map number_of c.in_ok-hit.hit in
    let all : scan_half dfa.nfa x dfa.kind x.earliest
    ≡ found_after x.earliest (found_at dfa x at) (option_map (half_at at) hit) =
    subst (λ (n : ℕ). scan_half dfa.nfa x dfa.kind x.earliest
    ≡ found_after x.earliest (found_at dfa x n) (option_map (half_at n) hit)) (sym last)
    (IsAt-end dfa x cache row hit (subst (λ (n : ℕ). IsAt dfa cache x n row) last here.at)
    (subst (λ (n : ℕ). IsRead dfa.nfa (slice_get x.haystack n)) last c.in_ok-hit.ensures.read)
    (λ s is. c.in_ok-hit.ensures.hit s is
    ∙ ap (λ (n : ℕ). hit_here dfa.nfa dfa.kind s (slice_get x.haystack n)) last)) in
    found-or x.earliest (found_at dfa x at) (scan_half dfa.nfa x dfa.kind x.earliest) (option_map (half_at at) hit)
    c.half_at.result c.args.place.found c.or.result c.or.ensures c.half_at.ensures here.found here.first all
