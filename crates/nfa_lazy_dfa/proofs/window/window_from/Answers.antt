-- A row leads to the next place, at which the scan is over or goes on.
use Rattle.nfa_paths.proofs.Common.{◌≡◌, ◌≤◌, ◌+◌, ◌∙◌, ℕ, ap, inr, subst, arith, search_of}
use Rattle.nfa_lazy_dfa.specs.Places.{IsNextPlace}
use Rattle.nfa_lazy_dfa.specs.Reads.{HasRead, IsOver}
use Rattle.nfa_lazy_dfa.specs.declared.scan.Place.{Place}
use Rattle.nfa_lazy_dfa.proofs.ReadLemmas.{HasRead-more}
use Rattle.nfa_lazy_dfa.proofs.ScanLemmas.{next-on, next-over}
use Rattle.nfa_lazy_dfa.proofs.window.window_from.Goals as goal
use Rattle.nfa_lazy_dfa.proofs.window.window_from.Goals.{After-place_after-over}

pub next_row-requires-clause-at : goal.next_row-requires-clause-at
next_row-requires-clause-at c = rw c.place-place.ensures c.loop-w.invariant.watching.at.at

-- the row leads there
next : (c : After-place_after-over) → IsNextPlace c.args.dfa.now c.next_row.new.cache (search_of c.args.input.now)
    c.place_after-over.result.0 c.place_after-over.result.1
next c =
    c.place_after-over.ensures.leads c.loop-w.cache (rw c.place-place.ensures c.loop-w.invariant.watching.at)
    c.in_ok-next.ensures.leads

-- it is one position further
one-more : (c : After-place_after-over) → c.place_after-over.result.0.at ≡ c.loop-w.w.at + 1
one-more c = c.place_after-over.ensures.at ∙ ap (λ (p : Place). p.at + 1) c.place-place.ensures

pub returns-then-over-clause-half : goal.returns-then-over-clause-half
returns-then-over-clause-half c =
    c.window_of.ensures.half
    ∙ next-over c.args.dfa.now (search_of c.args.input.now) c.next_row.new.cache c.place_after-over.result.0
    c.place_after-over.result.1 (next (goal.at.returns-then-over-clause-half c).After-place_after-over) c.if-over.true

pub returns-then-over-clause-reads : goal.returns-then-over-clause-reads
returns-then-over-clause-reads c =
    let to : ℕ = c.place_after-over.result.0.at in
    let low : c.args.from.at ≤ c.loop-w.w.at = c.loop-w.invariant.low in
    let path = (goal.at.returns-then-over-clause-reads c).After-place_after-over in
    let one : to ≡ c.loop-w.w.at + 1 = one-more path in
    record {
      to = to;
      low = omega arith;
      over = inr ((next path).settled c.if-over.true);
      steps = omega (arith, c.loop-w.invariant.counts, c.in_ok-next.ensures.counts);
    }

pub scan_from-requires-clause-at : goal.scan_from-requires-clause-at
scan_from-requires-clause-at c =
    next-on c.args.dfa.now (search_of c.args.input.now) c.next_row.new.cache c.place_after-over.result.0
    c.place_after-over.result.1 (next (goal.at.scan_from-requires-clause-at c).After-place_after-over) c.if-over.false

pub watch_at-there-requires-clause-at : goal.watch_at-there-requires-clause-at
watch_at-there-requires-clause-at c =
    next-on c.args.dfa.now (search_of c.args.input.now) c.next_row.new.cache c.place_after-over.result.0
    c.place_after-over.result.1 (next (goal.at.watch_at-there-requires-clause-at c).After-place_after-over)
    c.if-over.false

pub returns-then-is_some-clause-reads : goal.returns-then-is_some-clause-reads
returns-then-is_some-clause-reads c =
    let x = search_of c.args.input.now in
    let low : c.args.from.at ≤ c.loop-w.w.at = c.loop-w.invariant.low in
    let one : c.place_after-over.result.0.at ≡ c.loop-w.w.at + 1 =
    one-more (goal.at.returns-then-is_some-clause-reads c).After-place_after-over in
    HasRead-more (IsOver c.args.dfa.now x) c.args.cache.now c.next_row.new.cache c.scan_from.new.cache c.args.from.at
    c.place_after-over.result.0.at (omega arith)
    (omega (arith, c.loop-w.invariant.counts, c.in_ok-next.ensures.counts)) c.in_ok-half.ensures.reads

pub returns-clause-reads : goal.returns-clause-reads
returns-clause-reads c =
    let x = search_of c.args.input.now in
    let w = c.loop-w.w in
    let low : c.args.from.at ≤ w.at = c.loop-w.invariant.low in
    HasRead-more (IsOver c.args.dfa.now x) c.args.cache.now c.loop-w.cache c.scan_from-2.new.cache c.args.from.at
    w.at low (omega (arith, c.loop-w.invariant.counts))
    (subst (λ (p : Place). HasRead (IsOver c.args.dfa.now x) c.loop-w.cache c.scan_from-2.new.cache p.at)
    c.place.ensures c.in_ok-half-2.ensures.reads)
