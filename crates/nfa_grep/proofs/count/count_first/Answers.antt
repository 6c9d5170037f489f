-- One more line of the text is searched.
use Rattle.std.proofs.Common.{rules, ◌≡◌, ◌∙◌, ◌+◌, ◌-◌, ◌<◌, ◌≤◌, ◌++◌, ap, arith, cond, drop, length, length-drop, refl, take, take_all}
use Rattle.std.proofs.Math.Seq.{take-add}
use Rattle.program_text.specs.Lines.{IsRecord}
use Rattle.nfa_grep.specs.Counted.{Counted}
use Rattle.nfa_grep.specs.Printed.{is_selected}
use Rattle.nfa_grep.proofs.CountedLemmas.{is-more, is-none}
use Rattle.nfa_grep.proofs.count.count_first.Goals.{then-selects, else-selects}
use Rattle.nfa_grep.proofs.count.count_first.Goals as goal

pub loop-init : goal.loop-init
loop-init c = record {
  counted = λ res meant. is-none c.args.grep.now.options res c.args.limit;
  within = omega arith;
  at_most = omega arith;
  as_many = omega arith;
  end_is = ap (λ o. o.end) c.options-end.ensures;
  kept = refl;
}

pub loop-preserved : goal.loop-preserved
loop-preserved c =
    let inv = c.loop.invariant in
    let options = c.args.grep.now.options in
    let text = c.args.text.now in
    let old : Counted = c.loop.counted in
    let new : Counted = c.if-selects.counted in
    let n = c.in-Some.len in
    let line = take n (drop old.len text) in
    let rest-is : take (length text - old.len) (drop old.len text) ≡ drop old.len text =
    take_all (length text - old.len) (drop old.len text) (omega (arith, length-drop old.len text)) in
    let len-is : new.len ≡ old.len = elim c.if-selects.branch [
      | then-selects w ↦ ap (λ (x : Counted). x.len) w.counted-is
      | else-selects w ↦ ap (λ (x : Counted). x.len) w.counted-is
    ] in
    let lines-are : new.lines ≡ old.lines = elim c.if-selects.branch [
      | then-selects w ↦ ap (λ (x : Counted). x.lines) w.counted-is
      | else-selects w ↦ ap (λ (x : Counted). x.lines) w.counted-is
    ] in
    let picked : new.selected ≡ cond c.selects.result (old.selected + 1) old.selected = elim c.if-selects.branch [
      | then-selects w ↦ rw w.if-selects.true (ap (λ (x : Counted). x.selected) w.counted-is)
      | else-selects w ↦ rw w.if-selects.false (ap (λ (x : Counted). x.selected) w.counted-is)
    ] in
    let within : n ≤ length (drop old.len text) = rw rest-is at c.in-Some.ensures.within in
    let less : old.selected < c.args.limit = omega (arith, inv.at_most, c.if-counted-limit.false) in
    let whole : IsRecord options.end line = rw (rest-is, inv.end_is) at c.in-Some.ensures.whole in
    let joined : take (old.len + n) text ≡ take old.len text ++ line = take-add old.len n text in
    record {
      counted = λ res meant.
          let selected-is : c.selects.result ≡ is_selected options res line =
          rw (rest-is, inv.kept) at (c.selects.ensures.selected res (rw inv.kept meant)) in
          rw (len-is, joined) (is-more options res c.args.limit (take old.len text) line old
          (record { selected = new.selected; lines = new.lines + 1; len = old.len + n }) (inv.counted res meant) less
          whole (omega (arith, lines-are)) (rw (picked, selected-is) refl));
      within = omega (arith, len-is, within, length-drop old.len text, inv.within);
      at_most = search rules;
      as_many = omega (arith, lines-are, inv.as_many);
      end_is = inv.end_is;
      kept = c.selects.ensures.kept ∙ inv.kept;
    }
