-- The start joins the states, or starts that are refused are passed over.
use Rattle.nfa_paths.proofs.StartLemmas.{byte_at-inside}
use Rattle.nfa_pikevm_scan.proofs.RowLemmas.{AddsStart-passes, none_of}
use Rattle.nfa_pikevm_scan.proofs.scan.add_start_or_skip.Goals as goal
use Rattle.nfa_pikevm_scan.proofs.Common.{Active, IsRefused, ap, arith, get_or, inr, length, refl, search_of, sym, ◌<◌, ◌∙◌, ◌≤◌}

pub returns-then-is_empty-2-clause-joins : goal.returns-then-is_empty-2-clause-joins
returns-then-is_empty-2-clause-joins c = grind (arith, none_of, AddsStart-passes)

pub returns-else-not-refuses-clause-joins : goal.returns-else-not-refuses-clause-joins
returns-else-not-refuses-clause-joins c =
    let fits : c.args.input.now.span.end ≤ length c.args.input.now.haystack.now = omega arith in
    let inside : c.args.at < c.args.input.now.span.end = omega (arith, c.if-at-starts.false, c.requires.stop) in
    let here : IsRefused c.args.first.now.may_begin (search_of c.args.input.now) c.args.at = record {
      byte = get_or c.args.input.now.haystack.now c.args.at 0;
      read = byte_at-inside (search_of c.args.input.now) c.args.at inside fits;
      refused = rw c.haystack.ensures at (c.refuses.ensures.refused c.if-not-refuses.false);
    } in
    record {
      ahead = omega arith;
      within = λ w. w;
      stays = λ some. refl;
      passed = λ k h l. absurd (omega arith);
      passes = λ p. refl;
      last = inr (refl, inr (c.if-at-starts.false, here));
    }

pub invariant_of-threads : goal.invariant_of-threads
invariant_of-threads c =
    let threads = c.args.threads.now in
    let pushed = c.push_blank.ensures in
    record {
      same_capacity = threads.same_capacity ∙ sym (ap (λ (a : Active). a.capacity) pushed);
      same_cells = threads.same_cells ∙ sym (ap (λ (a : Active). a.cells) pushed);
      same_width = threads.same_width ∙ sym (ap (λ (a : Active). a.width) pushed);
    }

pub invariant_of-threads-then-at-starts : goal.invariant_of-threads-then-at-starts
invariant_of-threads-then-at-starts c =
    let threads = c.args.threads.now in
    let pushed = c.push_blank-then-at-starts.ensures in
    record {
      same_capacity = threads.same_capacity ∙ sym (ap (λ (a : Active). a.capacity) pushed);
      same_cells = threads.same_cells ∙ sym (ap (λ (a : Active). a.cells) pushed);
      same_width = threads.same_width ∙ sym (ap (λ (a : Active). a.width) pushed);
    }
