-- None of the lines is printed.
use Rattle.std.proofs.Common.{◌≡◌, ◌<◌, arith, ap, length}
use Rattle.nfa_grep.specs.Going.{kept_texts, printed_later}
use Rattle.nfa_grep.proofs.GroupedLemmas.{passes-all, passes-none}
use Rattle.nfa_grep.proofs.groups.Groups.pass_all.Goals as goal

pub returns-then-count-eq0-clause-printed : goal.returns-then-count-eq0-clause-printed
returns-then-count-eq0-clause-printed c = λ lines same none later.
    let empty : length lines ≡ 0 = omega (arith, same) in
    ap (printed_later c.args.self.now) (passes-none lines later empty)

pub returns-clause-printed : goal.returns-clause-printed
returns-clause-printed c = λ lines same none later.
    let old = c.args.self.now in
    let some : 0 < length lines = omega (arith, same) in
    passes-all old.context old.used old.gap old.left (kept_texts old) lines later c.requires.none_left
    c.requires.in_order.within c.requires.none_before none some
