-- The state comes after those that are kept, with a row that holds nothing.
use Rattle.nfa_pikevm_scan.proofs.Common.{Active, None, ap, arith, length, replicate, with_items_is, ◌∙◌}
use Rattle.nfa_pikevm_scan.proofs.RowLemmas.{length-blank, pushed-fits, pushed-inside, pushed-len, pushed-view}
use Rattle.nfa_pikevm_scan.proofs.active.ActiveStates.push_blank.Goals as goal

pub index_mut-requires : goal.index_mut-requires
index_mut-requires c = grind (arith, pushed-len)

pub blank_row-requires : goal.blank_row-requires
blank_row-requires c = grind (arith, pushed-fits)

pub invariant_of-self : goal.invariant_of-self
invariant_of-self c =
    let view = rw (← c.deref_mut-parts.ensures.value) at c.self.view_is in
    let fits = rw (← c.deref_mut-parts.ensures.value) at c.self.invariant in
    let long = c.blank_row.auto.rows ∙ ap length c.as_mut_slice.ensures.value in
    pushed-inside c.deref_mut-parts.result.now view fits c.requires c.args.sid
    (with_items_is c.deref_mut-parts.result.now.rows c.blank_row.new.rows (omega (arith, long))) long

pub returns : goal.returns
returns c =
    let view = rw (← c.deref_mut-parts.ensures.value) at c.self.view_is in
    let fits = rw (← c.deref_mut-parts.ensures.value) at c.self.invariant in
    let long = c.blank_row.auto.rows ∙ ap length c.as_mut_slice.ensures.value in
    pushed-view c.deref_mut-parts.result.now view fits c.requires c.args.sid
    (with_items_is c.deref_mut-parts.result.now.rows c.blank_row.new.rows (omega (arith, long))) long (length-blank _)
    (rw c.as_mut_slice.ensures.value at c.blank_row.ensures) (ap (λ (a : Active). replicate a.width None) view)
