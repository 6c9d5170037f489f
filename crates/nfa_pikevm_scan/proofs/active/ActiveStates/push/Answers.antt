-- The state and its row come after those that are kept.
use Rattle.nfa_pikevm_scan.proofs.Common.{Active, ap, arith, length, refl, sym, with_items_is, ◌∙◌}
use Rattle.nfa_pikevm_scan.proofs.RowLemmas.{pushed-fits, pushed-inside, pushed-len, pushed-view}
use Rattle.nfa_pikevm_scan.proofs.active.ActiveStates.push.Goals as goal

pub index_mut-requires : goal.index_mut-requires
index_mut-requires c = grind (arith, pushed-len)

pub put_row-requires : goal.put_row-requires
put_row-requires c = grind (arith, pushed-fits)

pub invariant_of-self : goal.invariant_of-self
invariant_of-self c =
    let view = rw (← c.deref_mut-parts.ensures.value) at c.self.view_is in
    let fits = rw (← c.deref_mut-parts.ensures.value) at c.self.invariant in
    let long = c.put_row.auto.rows ∙ ap length c.as_mut_slice.ensures.value in
    pushed-inside c.deref_mut-parts.result.now view fits c.requires.room c.args.sid
    (with_items_is c.deref_mut-parts.result.now.rows c.put_row.new.rows (omega (arith, long))) long

pub returns : goal.returns
returns c =
    let view = rw (← c.deref_mut-parts.ensures.value) at c.self.view_is in
    let fits = rw (← c.deref_mut-parts.ensures.value) at c.self.invariant in
    let long = c.put_row.auto.rows ∙ ap length c.as_mut_slice.ensures.value in
    let wide = c.requires.width ∙ sym (ap (λ (a : Active). a.width) view) in
    pushed-view c.deref_mut-parts.result.now view fits c.requires.room c.args.sid
    (with_items_is c.deref_mut-parts.result.now.rows c.put_row.new.rows (omega (arith, long))) long wide
    (rw (c.as_mut_slice.ensures.value, wide) at c.put_row.ensures) refl
