-- A row leads to the next place, at which the scan is over or goes on.
use Rattle.nfa_paths.proofs.Common.{◌≡◌, ◌≤◌, ◌+◌, ◌∙◌, ℕ, inl, inr, ap, sym, subst, arith, option_map, slice_get, number_of, search_of, half_at}
use Rattle.nfa_lazy_dfa.specs.Configurations.{found_after, scan_half}
use Rattle.nfa_lazy_dfa.specs.Assertions.{IsRead}
use Rattle.nfa_lazy_dfa.specs.Places.{IsNextPlace}
use Rattle.nfa_lazy_dfa.specs.Rows.{IsAt}
use Rattle.nfa_lazy_dfa.specs.Stances.{hit_here}
use Rattle.nfa_lazy_dfa.proofs.ScanLemmas.{IsAt-end, found-or, found_at, next-on, next-over}
use Rattle.nfa_lazy_dfa.proofs.scan.scan_on.Goals as goal
use Rattle.nfa_lazy_dfa.proofs.scan.scan_on.Goals.{After-place_after-over}

-- the row leads there
next : (c : After-place_after-over) → IsNextPlace c.args.dfa.now c.next_row.new.cache (search_of c.args.input.now)
    c.place_after-over.result.0 c.place_after-over.result.1
next c =
    c.place_after-over.ensures.leads c.loop-place.cache c.loop-place.invariant.at c.in_ok-next.ensures.leads

pub returns-then-over-clause-steps : goal.returns-then-over-clause-steps
returns-then-over-clause-steps c =
    next-over c.args.dfa.now (search_of c.args.input.now) c.next_row.new.cache c.place_after-over.result.0
    c.place_after-over.result.1 (next (goal.at.returns-then-over-clause-steps c).After-place_after-over) c.if-over.true

pub returns-then-over-clause-reads : goal.returns-then-over-clause-reads
returns-then-over-clause-reads c =
    let to : ℕ = c.place_after-over.result.0.at in
    let low : c.args.place.at ≤ c.loop-place.place.at = c.loop-place.invariant.low in
    let at : to ≡ c.loop-place.place.at + 1 = c.place_after-over.ensures.at in
    record {
      to = to;
      low = omega arith;
      over = inr ((next (goal.at.returns-then-over-clause-reads c).After-place_after-over).settled c.if-over.true);
      steps = omega (arith, c.loop-place.invariant.counts, c.in_ok-next.ensures.counts);
    }

pub walk-place-requires-clause-at : goal.walk-place-requires-clause-at
walk-place-requires-clause-at c =
    next-on c.args.dfa.now (search_of c.args.input.now) c.next_row.new.cache c.place_after-over.result.0
    c.place_after-over.result.1 (next (goal.at.walk-place-requires-clause-at c).After-place_after-over) c.if-over.false

pub returns-clause-steps : goal.returns-clause-steps
returns-clause-steps c =
    let x = search_of c.args.input.now in
    let dfa = c.args.dfa.now in
    let at = c.loop-place.place.at in
    let row = c.loop-place.place.row in
    let here = c.loop-place.invariant.at in
    let high : at ≤ x.end = here.at.high in
    let last : at ≡ x.end = omega arith in
    let hit = option_map number_of c.in_ok-hit.hit in
    let all : scan_half dfa.nfa x dfa.kind x.earliest
    ≡ found_after x.earliest (found_at dfa x at) (option_map (half_at at) hit) =
    subst (λ (n : ℕ). scan_half dfa.nfa x dfa.kind x.earliest
    ≡ found_after x.earliest (found_at dfa x n) (option_map (half_at n) hit)) (sym last)
    (IsAt-end dfa x c.loop-place.cache row hit
    (subst (λ (n : ℕ). IsAt dfa c.loop-place.cache x n row) last here.at)
    (subst (λ (n : ℕ). IsRead dfa.nfa (slice_get x.haystack n)) last c.in_ok-hit.ensures.read)
    (λ s is. c.in_ok-hit.ensures.hit s is
    ∙ ap (λ (n : ℕ). hit_here dfa.nfa dfa.kind s (slice_get x.haystack n)) last)) in
    found-or x.earliest (found_at dfa x at) (scan_half dfa.nfa x dfa.kind x.earliest) (option_map (half_at at) hit)
    c.half_at.result c.loop-place.place.found c.or.result c.or.ensures c.half_at.ensures here.found here.first all

pub returns-clause-reads : goal.returns-clause-reads
returns-clause-reads c =
    let low : c.args.place.at ≤ c.loop-place.place.at = c.loop-place.invariant.low in
    record {
      to = c.loop-place.place.at;
      low = low;
      over = inl (omega arith);
      steps = omega (arith, c.loop-place.invariant.counts, c.in_ok-hit.ensures.spends.grows);
    }
