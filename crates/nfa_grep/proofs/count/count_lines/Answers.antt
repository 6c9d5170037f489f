-- Counting goes on by lines that are passed, and by lines that are searched.
use Rattle.std.proofs.Common.{◌≡◌, ◌+◌, ◌-◌, ◌<◌, arith, refl, rules, subst, sym}
use Rattle.nfa_paths.proofs.Common.{IfSome_then}
use Rattle.program_text.specs.Lines.{PassesRecords}
use Rattle.nfa_grep.specs.Meant.{Grepping, Mean}
use Rattle.nfa_grep.proofs.CountedLemmas.{counting-end, counting-init, counting-on, counting-stop, has-passed}
use Rattle.nfa_grep.proofs.count.count_lines.Goals as goal

pub loop-init : goal.loop-init
loop-init g c = record {
  counting = λ res meant. counting-init c.args.grep.now.options res c.args.limit (g.R.Read.remaining c.args.input.now);
  at_most = omega arith;
  kept = refl;
}

pub returns-then-count-limit-clause-counted : goal.returns-then-count-limit-clause-counted
returns-then-count-limit-clause-counted g c = λ res meant.
    IfSome_then (g.R.Read.remaining c.args.input.now) (c.loop.invariant.counting res meant)
    (λ text counting. counting-stop c.args.grep.now.options res c.args.limit counting c.if-count-limit.true)

pub count_next-requires : goal.count_next-requires
count_next-requires g c = omega (arith, c.loop.invariant.at_most, c.if-count-limit.false)

pub returns-in_default-clause-counted : goal.returns-in_default-clause-counted
returns-in_default-clause-counted g c = λ res meant.
    let inv = c.loop.invariant in
    let options = c.args.grep.now.options in
    let limit = c.args.limit in
    let middle = g.R.Read.remaining c.pass_records.new.input in
    let some : 0 < limit - c.loop.count = omega (arith, inv.at_most, c.if-count-limit.false) in
    let meant-here = subst (λ (gr : Grepping). Mean gr res) (sym inv.kept) meant in
    let passes : PassesRecords options.end c.needed.result.now (g.R.Read.remaining c.loop.input) middle
    c.in_ok-passed.passed = rw (c.options.ensures, inv.kept) at c.in_ok-passed.ensures.passed in
    let needed = rw inv.kept at (c.needed.ensures res meant-here) in
    let none = rw (c.in_default.is, inv.kept) at (c.in_ok-counted.ensures.counted res meant-here) in
    IfSome_then (g.R.Read.remaining c.args.input.now) (inv.counting res meant) (λ text counting.
    let passed = has-passed options res (limit - c.loop.count) (g.R.Read.remaining c.loop.input) middle
    c.needed.result.now c.in_ok-passed.passed some needed passes in
    let zero-more : c.loop.count + 0 ≡ c.loop.count = omega arith in
    counting-end options res limit (rw zero-more at (counting-on options res limit counting middle 0 passed))
    (g.R.Read.remaining c.count_next.new.input) none.0 none.1)

pub loop-preserved : goal.loop-preserved
loop-preserved g c =
    let inv = c.loop.invariant in
    let options = c.args.grep.now.options in
    let limit = c.args.limit in
    let middle = g.R.Read.remaining c.pass_records.new.input in
    let counted = c.in-Some.counted in
    let some : 0 < limit - c.loop.count = omega (arith, inv.at_most, c.if-count-limit.false) in
    record {
      counting = λ res meant.
          let meant-here = subst (λ (gr : Grepping). Mean gr res) (sym inv.kept) meant in
          let passes : PassesRecords options.end c.needed.result.now (g.R.Read.remaining c.loop.input) middle
          c.in_ok-passed.passed = rw (c.options.ensures, inv.kept) at c.in_ok-passed.ensures.passed in
          let needed = rw inv.kept at (c.needed.ensures res meant-here) in
          let next = rw (c.in-Some.is, inv.kept) at (c.in_ok-counted.ensures.counted res meant-here) in
          IfSome_then (g.R.Read.remaining c.args.input.now) (inv.counting res meant) (λ text counting.
          let passed = has-passed options res (limit - c.loop.count) (g.R.Read.remaining c.loop.input) middle
          c.needed.result.now c.in_ok-passed.passed some needed passes in
          let zero-more : c.loop.count + 0 ≡ c.loop.count = omega arith in
          counting-on options res limit (rw zero-more at (counting-on options res limit counting middle 0 passed))
          (g.R.Read.remaining c.count_next.new.input) counted.selected next);
      at_most = omega (arith, inv.at_most, rw c.in-Some.is at c.in_ok-counted.ensures.at_most);
      kept = search rules;
    }
