-- The step was sure, and its list was written.
use Rattle.nfa_paths.proofs.Common.{rules, ◌≡◌, ◌<◌, ap, common_steps, refl, subst, arith, ℕ, Err, Option}
use Rattle.nfa_onepass.specs.declared.way.NoWay.TheVariants.{Nothing}
use Rattle.nfa_onepass.specs.Ways.{IsDead, IsSure}
use Rattle.nfa_onepass.specs.Lists.{list_at}
use Rattle.nfa_onepass.specs.Tables.{looks_over}
use Rattle.nfa_onepass.proofs.TableLemmas.{byte_of-low}
use Rattle.nfa_onepass.proofs.table.OnePass.step_over.Goals as goal

pub returns-clause-takes : goal.returns-clause-takes
returns-clause-takes c s here =
    let step = c.in_ok-cell.ensures.step s here in
    let low : c.args.byte < 256 = omega (arith, c.ranges.byte.fits) in
    let slots = list_at c.cell.new.self.lists.items.items c.in_ok-cell.cell.list in
    record {
      to = step.goal;
      written = slots;
      is = step.leads low;
      sure = subst (λ (o : Option ℕ). IsSure c.args.nfa.now (looks_over c.cell.new.self.setup.looks o) s o step.goal
          slots) (byte_of-low c.args.byte low) step.sure;
      shut = λ plain. step.shut plain low;
      writes = c.if-not-write_list.ensures refl;
    }

pub returns-in_err-cell-clause-nothing : goal.returns-in_err-cell-clause-nothing
returns-in_err-cell-clause-nothing c s here err =
    let low : c.args.byte < 256 = omega (arith, c.ranges.byte.fits) in
    let why : c.in_err-cell.field-0.0 ≡ Nothing = first_of (search (rules, err), grind (arith, common_steps, err)) in
    subst (λ (o : Option ℕ). IsDead c.args.nfa.now (looks_over c.args.self.now.setup.looks o) s o)
    (byte_of-low c.args.byte low) (c.in_err-cell.ensures.nothing s here (ap Err why))
