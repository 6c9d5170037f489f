-- A row leads to the next one, whose patterns are added; a dead row ends the scan, as does a match if it is enough.
use Rattle.nfa_paths.proofs.Common.{rules, ◌≡◌, ◌<◌, ◌≤◌, ◌+◌, ◌-◌, ℕ, inl, inr, false, true, sym, subst, arith, map, slice_get, number_of, search_of}
use Rattle.nfa_lazy_dfa.specs.Places.{IsFoundAt, IsNextPlace}
use Rattle.nfa_lazy_dfa.specs.Reads.{IsSetOver}
use Rattle.nfa_lazy_dfa.specs.Rows.{IsRowOf, Spends}
use Rattle.nfa_lazy_dfa.specs.Stances.{hits_here, patterns_in, stance_of}
use Rattle.nfa_lazy_dfa.proofs.CacheLemmas.{row-is}
use Rattle.nfa_lazy_dfa.proofs.GainLemmas.{Gaining, Gaining-begin, Gaining-end, Gaining-last, Gaining-next, Gaining-over, Gaining-part, Gaining-skip}
use Rattle.nfa_lazy_dfa.proofs.HitLemmas.{found-over, found-same, hits-at, hits-next}
use Rattle.nfa_lazy_dfa.proofs.ReachLemmas.{here_at}
use Rattle.nfa_lazy_dfa.proofs.ReadLemmas.{IsOver-late}
use Rattle.nfa_lazy_dfa.proofs.ScanLemmas.{next-on}
use Rattle.nfa_lazy_dfa.proofs.WorkLemmas.{Spends-both}
use Rattle.nfa_lazy_dfa.proofs.overlap.overlap_from.Goals as goal
use Rattle.nfa_lazy_dfa.proofs.overlap.overlap_from.Goals.{After-add_here-met, After-place_after-over}

-- the patterns of the next row are those of the matches at the place
hits : (c : After-add_here-met) → map number_of c.index-stand.result.now.hits.items
    ≡ patterns_in c.args.dfa.now.nfa
    (here_at c.args.dfa.now.nfa (search_of c.args.input.now) false c.loop-place.place.at)
hits c =
    let x = search_of c.args.input.now in
    let place = c.loop-place.place in
    let new = c.next_row.new.cache in
    let next = c.in_ok-next.next in
    let stand = c.index-stand.result.now in
    let less : place.at < x.end = omega arith in
    let known : IsRowOf new next (stance_of stand) =
    row-is new next stand c.in_ok-next.ensures.row c.index-stand.ensures in
    hits-next c.args.dfa.now x c.requires.kind c.requires.late c.loop-place.cache new place next stand
    c.loop-place.invariant.at less c.args.input.now.within c.in_ok-next.ensures.leads known

-- the set has gained them
gained : (c : After-add_here-met) (to : ℕ) → to ≡ c.loop-place.place.at + 1
    → (c.add_here-met.result ≡ true → c.args.earliest ≡ false)
    → Gaining c.args.dfa.now.nfa (search_of c.args.input.now) c.args.earliest c.args.patterns.now to
    c.add_here-met.new.patterns
gained c to same goes_on =
    let nfa = c.args.dfa.now.nfa in
    let x = search_of c.args.input.now in
    let old = c.args.patterns.now in
    let new = c.add_here-met.new.patterns in
    let adds = rw c.deref.ensures.value at c.add_here-met.ensures in
    subst (λ (n : ℕ). Gaining nfa x c.args.earliest old n new) (sym same)
    (Gaining-next nfa x c.args.earliest old c.loop-place.place.at c.loop-place.invariant.at.at.low
    c.loop-place.patterns new c.add_here-met.result (map number_of c.index-stand.result.now.hits.items) (hits c)
    c.loop-place.invariant.gains adds goes_on)

-- the row leads there
next : (c : After-place_after-over) → IsNextPlace c.args.dfa.now c.next_row.new.cache (search_of c.args.input.now)
    c.place_after-over.result.0 c.place_after-over.result.1
next c =
    c.place_after-over.ensures.leads c.loop-place.cache c.loop-place.invariant.at c.in_ok-next.ensures.leads

pub loop-place-init : goal.loop-place-init
loop-place-init c =
    let x = search_of c.args.input.now in
    let dfa = c.args.dfa.now in
    let old = c.args.patterns.now in
    let from = c.args.from in
    let place = c.skip-place.result in
    let low : x.start ≤ from.at = omega (arith, c.requires.first) in
    record {
      own = c.skip-place.ensures.own;
      at = c.skip-place.ensures.at;
      low = c.skip-place.ensures.low;
      spends = c.skip-place.ensures.spends;
      counts = c.skip-place.ensures.counts;
      gains = Gaining-skip dfa.nfa x c.args.earliest old from.at place.at old low c.skip-place.ensures.low
          (found-same dfa x c.requires.kind c.requires.late c.args.cache.now c.skip-place.new.cache from place
          c.requires.at c.skip-place.ensures.at c.skip-place.ensures.found)
          (subst (λ (n : ℕ). Gaining dfa.nfa x c.args.earliest old n old) (sym c.requires.first)
          (Gaining-begin dfa.nfa x c.args.earliest old));
    }

pub returns-then-is_over-clause-result : goal.returns-then-is_over-clause-result
returns-then-is_over-clause-result c =
    let over = c.is_over.ensures.over c.if-is_over.true in
    Gaining-over c.args.dfa.now.nfa (search_of c.args.input.now) c.args.earliest c.args.patterns.now
    c.loop-place.place.at c.loop-place.invariant.at.at.low c.loop-place.patterns c.add_here-met.new.patterns
    (map number_of c.index-stand.result.now.hits.items)
    (hits (goal.at.returns-then-is_over-clause-result c).After-add_here-met) c.loop-place.invariant.gains
    c.add_here-met.result (rw c.deref.ensures.value at c.add_here-met.ensures) over.0 over.1

pub returns-then-over-clause-result : goal.returns-then-over-clause-result
returns-then-over-clause-result c =
    let dfa = c.args.dfa.now in
    let x = search_of c.args.input.now in
    let old = c.args.patterns.now in
    let new = c.add_here-met.new.patterns in
    let after = c.place_after-over.result.0 in
    let at = goal.at.returns-then-over-clause-result c in
    let there = next at.After-place_after-over in
    let low : x.start ≤ after.at = there.at.low in
    let high : after.at ≤ x.end = there.at.high in
    Gaining-end dfa.nfa x c.args.earliest old (x.end + 1) new (omega arith)
    (Gaining-skip dfa.nfa x c.args.earliest old after.at (x.end + 1) new low (omega arith)
    (found-over dfa x c.requires.kind c.requires.late c.next_row.new.cache after c.place_after-over.result.1 there
    c.if-over.true)
    (gained at.After-add_here-met after.at c.place_after-over.ensures.at
    (c.is_over.ensures.goes_on c.if-is_over.false)))

pub skip-place-requires-in-loop-place-clause-at : goal.skip-place-requires-in-loop-place-clause-at
skip-place-requires-in-loop-place-clause-at c =
    next-on c.args.dfa.now (search_of c.args.input.now) c.next_row.new.cache c.place_after-over.result.0
    c.place_after-over.result.1
    (next (goal.at.skip-place-requires-in-loop-place-clause-at c).After-place_after-over) c.if-over.false

pub loop-place-preserved : goal.loop-place-preserved
loop-place-preserved c =
    let x = search_of c.args.input.now in
    let dfa = c.args.dfa.now in
    let old = c.args.patterns.now in
    let at = c.loop-place.place.at in
    let new = c.next_row.new.cache in
    let after = c.place_after-over.result.0 in
    let paths = goal.at.loop-place-preserved c in
    let there : IsFoundAt dfa new x after =
    next-on dfa x new after c.place_after-over.result.1 (next paths.After-place_after-over) c.if-over.false in
    let last = c.skip-place-in-loop-place.result in
    let end = c.skip-place-in-loop-place.new.cache in
    let up : after.at ≤ last.at = c.skip-place-in-loop-place.ensures.low in
    let one : after.at ≡ at + 1 = c.place_after-over.ensures.at in
    let from : c.args.from.at ≤ at = c.loop-place.invariant.low in
    let count : ((at - c.args.from.at) + 1) + (last.at - after.at) ≡ last.at - c.args.from.at = omega arith in
    record {
      own = c.skip-place-in-loop-place.ensures.own;
      at = c.skip-place-in-loop-place.ensures.at;
      low = omega arith;
      spends = subst (λ (n : ℕ). Spends c.args.cache.now end n 0) count
          (Spends-both c.args.cache.now new end ((at - c.args.from.at) + 1) (last.at - after.at) 0 0
          (Spends-both c.args.cache.now c.loop-place.cache new (at - c.args.from.at) 1 0 0
          c.loop-place.invariant.spends c.in_ok-next.ensures.spends) c.skip-place-in-loop-place.ensures.spends);
      counts = omega (
        arith,
        c.loop-place.invariant.counts,
        c.in_ok-next.ensures.counts,
        c.skip-place-in-loop-place.ensures.counts,
      );
      gains = Gaining-skip dfa.nfa x c.args.earliest old after.at last.at c.add_here-met.new.patterns there.at.low up
          (found-same dfa x c.requires.kind c.requires.late new end after last there
          c.skip-place-in-loop-place.ensures.at c.skip-place-in-loop-place.ensures.found)
          (gained paths.After-add_here-met after.at one (c.is_over.ensures.goes_on c.if-is_over.false));
    }

pub returns-clause-result : goal.returns-clause-result
returns-clause-result c =
    let x = search_of c.args.input.now in
    let dfa = c.args.dfa.now in
    let at = c.loop-place.place.at in
    let here = c.loop-place.invariant.at.at in
    let low : x.start ≤ at = here.low in
    let past : x.end < at + 1 = omega arith in
    Gaining-last dfa.nfa x c.args.earliest c.args.patterns.now at low past c.loop-place.patterns c.add_last.new.patterns
    (hits_here dfa.nfa dfa.kind here.stance (slice_get x.haystack at))
    (hits-at dfa x c.requires.kind c.requires.late c.loop-place.cache at c.loop-place.place.row here
    c.in_ok-add_last.ensures.read) c.loop-place.invariant.gains _ (c.in_ok-add_last.ensures.adds here.stance here.is)

pub returns-in_err-next-clause-part : goal.returns-in_err-next-clause-part
returns-in_err-next-clause-part c =
    let part = Gaining-part c.args.dfa.now.nfa (search_of c.args.input.now) c.args.earliest c.args.patterns.now
    c.loop-place.place.at c.loop-place.patterns c.loop-place.invariant.gains in
    search rules

pub returns-in_err-add_last-clause-part : goal.returns-in_err-add_last-clause-part
returns-in_err-add_last-clause-part c =
    let part = Gaining-part c.args.dfa.now.nfa (search_of c.args.input.now) c.args.earliest c.args.patterns.now
    c.loop-place.place.at c.loop-place.patterns c.loop-place.invariant.gains in
    search rules

pub returns-then-is_over-clause-reads : goal.returns-then-is_over-clause-reads
returns-then-is_over-clause-reads c =
    let at = c.loop-place.place.at in
    let low : c.args.from.at ≤ at = c.loop-place.invariant.low in
    let adds = c.add_here-met.ensures in
    let set = c.add_here-met.new.patterns in
    let both = c.is_over.ensures.over c.if-is_over.true in
    let over : IsSetOver c.args.dfa.now (search_of c.args.input.now) c.args.earliest set (at + 1) = elim both.1 [
      | inl e ↦ let some = adds.some both.0 in inr (inr (e, (some.0, (adds.gained some.0).1 (inr (some.1, some.2)))))
      | inr full ↦ inr (inl full)
    ] in
    record {
      to = at + 1;
      low = omega arith;
      over = over;
      steps = omega (arith, c.loop-place.invariant.counts, c.in_ok-next.ensures.counts);
    }

pub returns-then-over-clause-reads : goal.returns-then-over-clause-reads
returns-then-over-clause-reads c =
    let to : ℕ = c.place_after-over.result.0.at in
    let low : c.args.from.at ≤ c.loop-place.place.at = c.loop-place.invariant.low in
    let one : to ≡ c.loop-place.place.at + 1 = c.place_after-over.ensures.at in
    let there = next (goal.at.returns-then-over-clause-reads c).After-place_after-over in
    record {
      to = to;
      low = omega arith;
      over = inl (IsOver-late c.args.dfa.now (search_of c.args.input.now) to c.requires.late
          (inr (there.settled c.if-over.true)));
      steps = omega (arith, c.loop-place.invariant.counts, c.in_ok-next.ensures.counts);
    }

pub returns-clause-reads : goal.returns-clause-reads
returns-clause-reads c =
    let low : c.args.from.at ≤ c.loop-place.place.at = c.loop-place.invariant.low in
    record {
      to = c.loop-place.place.at;
      low = low;
      over = inl (inl (omega arith));
      steps = omega (arith, c.loop-place.invariant.counts, c.in_ok-add_last.ensures.spends.grows);
    }
