-- The line is printed because of one before it, or it is not printed.
use Rattle.nfa_paths.proofs.Common.{◌≡◌, ◌∙◌, ◌-◌, ◌<◌, ◌++◌, [], ◌∷◌, refl, ap, arith, false, sym, true, All-cons, All-nil, on_ok_weaker}
use Rattle.nfa_grep.specs.Going.{kept_items, kept_texts}
use Rattle.nfa_grep.specs.Printed.{Item, grouped, item_of, shown}
use Rattle.nfa_grep.proofs.GroupedLemmas.{goes-on, passes-all}
use Rattle.nfa_grep.proofs.groups.Groups.pass.Goals as goal

pub returns-then-self-gt0-clause-printed : goal.returns-then-self-gt0-clause-printed
returns-then-self-gt0-clause-printed c =
    let old = c.args.self.now in
    let some : 0 < old.left = omega arith in
    on_ok_weaker c.append_near.result (λ appended. λ res meant later.
    let line = c.args.line.now in
    let place = c.args.place in
    let options = c.args.grep.now.options in
    let text = shown options res place.name.now place.number place.offset false line in
    let rest = grouped old.context old.used old.gap (old.left - 1) (kept_items (kept_texts old) ++ later) in
    let out-is : c.append_near.new.out.items ≡ text =
    appended res meant ∙ ap (λ l. l ++ text) c.clear.ensures.items in
    goes-on old.context old.used old.gap old.left (kept_texts old) text later
    c.requires.in_order.printing some ∙ ap (λ l. l ++ rest) (sym out-is))
    c.append_near.ensures.shown

pub returns-then-self-eq0-clause-printed : goal.returns-then-self-eq0-clause-printed
returns-then-self-eq0-clause-printed c = λ res meant later.
    let old = c.args.self.now in
    let item = item_of c.args.grep.now.options res c.args.place.name.now c.args.place.number
    c.args.place.offset false c.args.line.now in
    let none : old.left ≡ 0 = omega arith in
    let zero-is : old.context.before ≡ 0 = omega arith in
    let rest = grouped old.context old.used true old.left (kept_items (kept_texts old) ++ later) in
    let one = All-cons (λ (it : Item). it.selected ≡ false) item [] refl
    (All-nil (λ (it : Item). it.selected ≡ false)) in
    passes-all old.context old.used old.gap old.left (kept_texts old) (item ∷ []) later none c.requires.in_order.within
    zero-is one (omega arith) ∙ ap (λ l. l ++ rest) (sym c.clear.ensures.items)
