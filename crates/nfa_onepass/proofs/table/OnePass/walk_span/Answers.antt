-- The walk begins with no slot set, and ends with the step to a Match.
use Rattle.nfa_paths.proofs.Common.{rules, ◌≡◌, ◌∙◌, ℕ, Err, ap, arith, common_steps, false, length, refl, search_of, number_of}
use Rattle.nfa_onepass.specs.Ways.{write_each}
use Rattle.nfa_onepass.specs.Lists.{list_at}
use Rattle.nfa_onepass.specs.declared.table.Setup.{Setup}
use Rattle.nfa_onepass.specs.declared.way.NoWay.TheVariants.{Nothing}
use Rattle.nfa_onepass.proofs.TableLemmas.{IsWalking-begin, IsWalking-end, IsWalking-whole}
use Rattle.nfa_onepass.proofs.WayLemmas.{IsNowhere-end}
use Rattle.nfa_onepass.proofs.table.OnePass.walk_span.Goals as goal

pub walk-requires-clause-walking : goal.walk-requires-clause-walking
walk-requires-clause-walking c =
    let begins = c.in-Some.ensures.row in
    IsWalking-begin c.args.nfa.now (search_of c.args.input.now) c.first_row.new.self c.in-Some.first begins.0
    (length c.args.slots.now) c.unset.new.slots begins.1 begins.2 c.unset.ensures

pub returns-in-Some-pattern_of-clause-only : goal.returns-in-Some-pattern_of-clause-only
returns-in-Some-pattern_of-clause-only c =
    let w = c.in_ok-row.ensures.walking in
    IsWalking-end c.args.nfa.now (search_of c.args.input.now) c.walk.new.self c.cell.new.self c.in_ok-row.row
    (number_of c.in-Some-pattern_of.pattern) c.in_ok-cell.cell c.walk.new.slots c.write_list.new.slots w
    (c.in_ok-cell.ensures.step w.state w.here) c.in-Some-pattern_of.ensures
    (c.if-not-write_list.ensures refl
    ∙ ap (λ (n : ℕ). write_each (list_at c.cell.new.self.lists.items.items c.in_ok-cell.cell.list) n c.walk.new.slots)
    c.end.ensures.value)

pub returns-in-Some-pattern_of-clause-whole : goal.returns-in-Some-pattern_of-clause-whole
returns-in-Some-pattern_of-clause-whole c plain whole =
    let w = c.in_ok-row.ensures.walking in
    IsWalking-whole c.args.nfa.now (search_of c.args.input.now) c.walk.new.self c.cell.new.self c.in_ok-row.row
    (number_of c.in-Some-pattern_of.pattern) c.in_ok-cell.cell c.walk.new.slots c.write_list.new.slots w
    (c.in_ok-cell.ensures.step w.state w.here) c.in-Some-pattern_of.ensures
    (c.if-not-write_list.ensures refl
    ∙ ap (λ (n : ℕ). write_each (list_at c.cell.new.self.lists.items.items c.in_ok-cell.cell.list) n c.walk.new.slots)
    c.end.ensures.value) (c.requires.own.ends plain)
    (ap (λ (s : Setup). s.looks) (c.walk.ensures.setup ∙ c.first_row.ensures.setup) ∙ plain) whole

-- no step leads to a Match at the end of the span
pub returns-in_err-cell-clause-nothing : goal.returns-in_err-cell-clause-nothing
returns-in_err-cell-clause-nothing c plain err =
    let w = c.in_ok-row.ensures.walking in
    let walked : c.walk.new.self.setup.looks ≡ false =
    ap (λ (s : Setup). s.looks) (c.walk.ensures.setup ∙ c.first_row.ensures.setup) ∙ plain in
    let why : c.in_err-cell.field-0.0 ≡ Nothing = first_of (search (rules, err), grind (arith, common_steps, err)) in
    IsNowhere-end c.args.nfa.now (search_of c.args.input.now) (length c.walk.new.slots) w.first w.state
    c.walk.new.slots w.begins w.on (w.reached walked) (c.in_err-cell.ensures.nothing w.state w.here (ap Err why))
