-- The step leads back to the row and writes no slot, so the walk stays.
use Rattle.nfa_paths.proofs.Common.{◌≡◌, ◌<◌, ◌+◌, ℕ, arith, get_or, rules, search_of, subst}
use Rattle.nfa_paths.proofs.StartLemmas.{byte_at-inside}
use Rattle.nfa_onepass.specs.Tables.{IsWalking}
use Rattle.nfa_onepass.proofs.TableLemmas.{IsWalking-goes, has-step}
use Rattle.nfa_onepass.proofs.table.OnePass.stay.Goals as goal

pub loop-at-preserved : goal.loop-at-preserved
loop-at-preserved c =
    let nfa = c.args.nfa.now in
    let x = search_of c.args.input.now in
    let t = c.args.self.now in
    let row = c.args.row in
    let at = c.loop-at.at in
    let cell = c.in-Some.cell in
    let inside : at < x.end = search (rules, c.loop-at-test.true) in
    let back : cell.goal ≡ row = search (rules, c.if-cell-row.false) in
    let none : cell.list ≡ 0 = search (rules, c.if-cell-ne-NO_SLOTS.false) in
    let read : get_or c.haystack-haystack.result.now at 0 < 256 = omega arith in
    let known : cell.goal < 4294967293 =
    omega (arith, back, c.requires.row, c.requires.own.fits, c.requires.own.few) in
    let has = has-step nfa x t row at cell c.as_slice-rows.result.now c.haystack-haystack.result.now
    c.as_slice-rows.ensures.value c.haystack-haystack.ensures read known c.in-Some.ensures in
    record {
      low = omega (arith, c.loop-at.invariant.low);
      high = omega (arith, inside);
      walking = λ slots w. subst (λ (r : ℕ). IsWalking nfa x t r (at + 1) slots) back
          (IsWalking-goes nfa x t row (get_or x.haystack at 0) at cell slots c.requires.own
          (byte_at-inside x at inside c.args.input.now.within) has none (c.loop-at.invariant.walking slots w));
    }
