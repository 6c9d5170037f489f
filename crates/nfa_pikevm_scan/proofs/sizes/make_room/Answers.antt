-- What the sets of states and the marks keep, where a part has no room and where all parts are filled again.
use Rattle.nfa_pikevm_scan.proofs.Common.{Threads, ap, refl, sym, ◌∙◌}
use Rattle.nfa_pikevm_scan.proofs.sizes.make_room.Goals as goal

pub invariant_of-threads-inside : goal.invariant_of-threads-inside
invariant_of-threads-inside c =
    let view = c.threads.view_is in
    let threads = c.args.threads.now in
    record {
      same_capacity = ap (λ (t : Threads). t.reached.next.capacity) view ∙ threads.same_capacity
          ∙ sym (ap (λ (t : Threads). t.curr.capacity) view);
      same_cells = ap (λ (t : Threads). t.reached.next.cells) view ∙ threads.same_cells
          ∙ sym (ap (λ (t : Threads). t.curr.cells) view);
      same_width = ap (λ (t : Threads). t.reached.next.width) view ∙ threads.same_width
          ∙ sym (ap (λ (t : Threads). t.curr.width) view);
    }

pub invariant_of-threads : goal.invariant_of-threads
invariant_of-threads c = c.threads.invariant

pub invariant_of-threads-in_err-reserve-2 : goal.invariant_of-threads-in_err-reserve-2
invariant_of-threads-in_err-reserve-2 c = rw c.reserve-2.ensures.items c.threads.invariant

pub invariant_of-threads-in_err-reserve_parts : goal.invariant_of-threads-in_err-reserve_parts
invariant_of-threads-in_err-reserve_parts c =
    let kept = c.reserve_parts.ensures in
    rw (kept.len, kept.kept, kept.rows, kept.width, c.deref_mut.ensures.value, c.reserve-2.ensures.items)
    c.threads.invariant

pub invariant_of-threads-in_err-reserve_parts-2 : goal.invariant_of-threads-in_err-reserve_parts-2
invariant_of-threads-in_err-reserve_parts-2 c =
    let curr = c.reserve_parts.ensures in
    let next = c.reserve_parts-2.ensures in
    rw (
      next.len,
      next.kept,
      next.rows,
      next.width,
      c.deref_mut-2.ensures.value,
      curr.len,
      curr.kept,
      curr.rows,
      curr.width,
      c.deref_mut.ensures.value,
      c.reserve-2.ensures.items,
    ) c.threads.invariant

pub invariant_of-threads-in_err-reserve-3 : goal.invariant_of-threads-in_err-reserve-3
invariant_of-threads-in_err-reserve-3 c =
    let curr = c.reserve_parts.ensures in
    let next = c.reserve_parts-2.ensures in
    rw (
      next.len,
      next.kept,
      next.rows,
      next.width,
      c.deref_mut-2.ensures.value,
      curr.len,
      curr.kept,
      curr.rows,
      curr.width,
      c.deref_mut.ensures.value,
      c.reserve-2.ensures.items,
    ) c.threads.invariant

pub invariant_of-threads-inside-2 : goal.invariant_of-threads-inside-2
invariant_of-threads-inside-2 c =
    let curr = c.refill_parts.ensures in
    let next = c.refill_parts-2.ensures in
    record {
      same_capacity = rw (next.kept, curr.kept) refl;
      same_cells = rw (next.rows, curr.rows) refl;
      same_width = rw (next.width, curr.width) refl;
    }
