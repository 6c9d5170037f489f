-- A position is left for the next one.
use Rattle.nfa_pikevm_scan.proofs.Common.{Active, ap, arith, refl, rules, take, ◌∙◌}
use Rattle.nfa_pikevm_scan.proofs.NextsLemmas.{ClosuresGive-cleared, MayFollow-cleared, capacity-next, cells-followed, cells-next, frames-followed, inside-followed, marks-followed, width-followed, width-next, rows-within}
use Rattle.nfa_pikevm_scan.proofs.nexts.nexts_with.Goals as goal

pub nexts_by_case-requires-clause-ready : goal.nexts_by_case-requires-clause-ready
nexts_by_case-requires-clause-ready g c =
    let p = c.deref_mut-parts.result.now in
    MayFollow-cleared c.requires.ready (search rules) p.width p.rows.items
    (rw (← c.curr.view_is, ← c.deref_mut-parts.ensures.value, c.as_slice.ensures.value) refl) c.clear.ensures refl
    (search rules)

pub invariant_of-curr : goal.invariant_of-curr
invariant_of-curr g c =
    let p = c.deref_mut-parts.result.now in
    let view = rw (← c.deref_mut-parts.ensures.value) at c.curr.view_is in
    inside-followed c.args.threads.now p view c.nexts_by_case.new.rows
    (rw (← c.deref_mut-parts.ensures.value) at c.curr.invariant)

pub invariant_of-threads : goal.invariant_of-threads
invariant_of-threads g c =
    let p = c.deref_mut-parts.result.now in
    let view = rw (← c.deref_mut-parts.ensures.value) at c.curr.view_is in
    let keeps = c.nexts_by_case.ensures.keeps in
    let rows = c.nexts_by_case.new.rows in
    record {
      same_capacity = capacity-next c.args.threads.now p view rows keeps;
      same_cells = cells-next c.args.threads.now p view rows keeps;
      same_width = width-next c.args.threads.now p view rows keeps;
    }

pub returns-clause-keeps : goal.returns-clause-keeps
returns-clause-keeps g c =
    let t = c.args.threads.now in
    let p = c.deref_mut-parts.result.now in
    let view = rw (← c.deref_mut-parts.ensures.value) at c.curr.view_is in
    let keeps = c.nexts_by_case.ensures.keeps in
    let rows = c.nexts_by_case.new.rows in
    record {
      width = width-followed t p view rows;
      sizes = cc (
        marks-followed t p view rows keeps c.clear.ensures,
        ap (λ (a : Active). a.capacity) view,
        cells-followed t p view rows,
        frames-followed t p view rows keeps c.nexts_by_case.new.frames,
      );
      scans = refl;
    }

pub returns-clause-arrive : goal.returns-clause-arrive
returns-clause-arrive g c =
    let p = c.deref_mut-parts.result.now in
    let view = rw (← c.deref_mut-parts.ensures.value) at c.curr.view_is in
    ClosuresGive-cleared p.width (take p.len c.as_slice.result.now) c.as_mut_slice.result.now c.args.threads.now
    c.clear.ensures (ap (λ (a : Active). a.width) view ∙ c.requires.ready.room.width_is)
    (rw (
      ← c.curr.view_is,
      ← c.deref_mut-parts.ensures.value,
      c.as_slice.ensures.value,
      c.as_mut_slice.ensures.value,
    ) refl)
    c.nexts_by_case.ensures.arrive

pub returns-clause-rows : goal.returns-clause-rows
returns-clause-rows g c = grind (arith, rows-within)
