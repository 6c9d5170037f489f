-- The step is known and writes no slot, so the walk goes on.
use Rattle.nfa_paths.proofs.Common.{◌≡◌, ◌<◌, ◌+◌, ℕ, arith, get_or, rules, search_of, subst, sym}
use Rattle.nfa_paths.specs.Exploring.{Slots}
use Rattle.nfa_paths.proofs.StartLemmas.{byte_at-inside}
use Rattle.nfa_onepass.specs.Tables.{IsWalking}
use Rattle.nfa_onepass.proofs.TableLemmas.{IsWalking-goes, has-step, step-inside}
use Rattle.nfa_onepass.proofs.table.OnePass.pass.Goals as goal

pub loop-at-preserved-then-cell-row : goal.loop-at-preserved-then-cell-row
loop-at-preserved-then-cell-row c =
    let nfa = c.args.nfa.now in
    let x = search_of c.args.input.now in
    let t = c.args.self.now in
    let row = c.loop-at.row in
    let at = c.loop-at.at in
    let cell = c.in-Some.cell in
    let inside : at < x.end = search (rules, c.loop-at-test.true) in
    let back : cell.goal ≡ row = search (rules, c.if-cell-row.true) in
    let none : cell.list ≡ 0 = search (rules, c.if-cell-ne-NO_SLOTS.false) in
    let read : get_or c.haystack-haystack.result.now at 0 < 256 = omega arith in
    let known : cell.goal < 4294967293 = search (rules, c.if-cell-ge-NOTHING.false) in
    let has = has-step nfa x t row at cell c.as_slice-rows.result.now c.haystack-haystack.result.now
    c.as_slice-rows.ensures.value c.haystack-haystack.ensures read known c.in-Some.ensures in
    let goes : (slots : Slots) → IsWalking nfa x t c.args.first c.args.from slots
    → IsWalking nfa x t cell.goal (at + 1) slots = λ slots w.
    IsWalking-goes nfa x t row (get_or x.haystack at 0) at cell slots c.requires.own
    (byte_at-inside x at inside c.args.input.now.within) has none (c.loop-at.invariant.walking slots w) in
    let stays : (slots : Slots) → IsWalking nfa x t cell.goal (at + 1) slots
    → IsWalking nfa x t cell.goal c.stay-at.result slots =
    subst (λ (r : ℕ). (slots : Slots) → IsWalking nfa x t r (at + 1) slots
    → IsWalking nfa x t r c.stay-at.result slots) (sym back) c.stay-at.ensures.walking in
    record {
      low = omega (arith, c.loop-at.invariant.low, c.stay-at.ensures.low);
      high = c.stay-at.ensures.high;
      inside = step-inside nfa t row (get_or x.haystack at 0) cell c.requires.own has c.loop-at.invariant.inside;
      walking = λ slots w. stays slots (goes slots w);
    }

pub loop-at-preserved : goal.loop-at-preserved
loop-at-preserved c =
    let nfa = c.args.nfa.now in
    let x = search_of c.args.input.now in
    let t = c.args.self.now in
    let row = c.loop-at.row in
    let at = c.loop-at.at in
    let cell = c.in-Some.cell in
    let inside : at < x.end = search (rules, c.loop-at-test.true) in
    let none : cell.list ≡ 0 = search (rules, c.if-cell-ne-NO_SLOTS.false) in
    let read : get_or c.haystack-haystack.result.now at 0 < 256 = omega arith in
    let known : cell.goal < 4294967293 = search (rules, c.if-cell-ge-NOTHING.false) in
    let has = has-step nfa x t row at cell c.as_slice-rows.result.now c.haystack-haystack.result.now
    c.as_slice-rows.ensures.value c.haystack-haystack.ensures read known c.in-Some.ensures in
    record {
      low = omega (arith, c.loop-at.invariant.low);
      high = omega (arith, inside);
      inside = step-inside nfa t row (get_or x.haystack at 0) cell c.requires.own has c.loop-at.invariant.inside;
      walking = λ slots w. IsWalking-goes nfa x t row (get_or x.haystack at 0) at cell slots c.requires.own
          (byte_at-inside x at inside c.args.input.now.within) has none (c.loop-at.invariant.walking slots w);
    }
