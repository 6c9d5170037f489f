-- The row is that of the first pattern that matches, or none does.
use Rattle.nfa_paths.proofs.Common.{◌≡◌, ◌∙◌, ◌<◌, ap, arith, false, get_or, length, map, sym, true, is_some, string_bytes, set-get_or}
use Rattle.log_extractor.specs.Several.{row_of_first}
use Rattle.log_extractor.proofs.SeveralLemmas.{first-from, none-after}
use Rattle.log_extractor.proofs.parsers.first_row.Goals as goal

pub returns-then-is_some-clause-fields : goal.returns-then-is_some-clause-fields
returns-then-is_some-clause-fields c = λ ps are.
    let inv = c.loop-number.invariant in
    let parsers = c.loop-number.parsers in
    let n = c.loop-number.number in
    let some : is_some c.in_ok-row.row ≡ true = sym c.is_some.ensures ∙ c.if-is_some.true in
    let inside : n < length parsers = omega (arith, c.loop-number-test.true, ap length inv.kept) in
    sym (inv.looked ps are
    ∙ rw some at (first-from parsers ps (rw inv.kept are) c.args.several (map string_bytes c.args.names.now) n
    (get_or parsers n c.index-parsers-number.result) c.args.line.now c.in_ok-row.row inside
    (ap (get_or parsers n) c.index-parsers-number.is) c.in_ok-row.ensures.fields))

pub loop-number-preserved : goal.loop-number-preserved
loop-number-preserved c =
    let inv = c.loop-number.invariant in
    let parsers = c.loop-number.parsers in
    let n = c.loop-number.number in
    let it = get_or parsers n c.index-parsers-number.result in
    let at : it ≡ get_or parsers n it = ap (get_or parsers n) c.index-parsers-number.is in
    let inside : n < length parsers = omega (arith, c.loop-number-test.true, ap length inv.kept) in
    let none : is_some c.in_ok-row.row ≡ false = sym c.is_some.ensures ∙ c.if-is_some.false in
    record {
      kept = rw (c.in_ok-row.ensures.kept, set-get_or) inv.kept;
      looked = λ ps are.
          inv.looked ps are
          ∙ rw none at (first-from parsers ps (rw inv.kept are) c.args.several (map string_bytes c.args.names.now) n
          it c.args.line.now c.in_ok-row.row inside at c.in_ok-row.ensures.fields);
    }

pub returns-clause-fields : goal.returns-clause-fields
returns-clause-fields c = λ ps are.
    sym (c.loop-number.invariant.looked ps are
    ∙ ap (λ qs. row_of_first c.args.several (map string_bytes c.args.names.now) qs c.args.line.now)
    (none-after c.args.parsers.now ps are c.loop-number.number c.loop-number-test.false))
