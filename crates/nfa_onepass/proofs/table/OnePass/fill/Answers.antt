-- The cell that is kept changes no list, so its step stays sure.
use Rattle.nfa_onepass.specs.declared.lists.Lists.{Lists}
use Rattle.nfa_onepass.specs.declared.table.Setup.{Setup}
use Rattle.nfa_onepass.specs.Lists.{Keeps}
use Rattle.nfa_onepass.specs.Tables.{IsStep}
use Rattle.nfa_paths.proofs.Common.{◌≡◌, ◌∙◌, ℕ, subst, sym}
use Rattle.nfa_paths.proofs.MemberLemmas.{same_some}
use Rattle.nfa_onepass.proofs.TableLemmas.{IsStep-keeps, Keeps-refl}
use Rattle.nfa_onepass.proofs.table.OnePass.fill.Goals as goal

pub returns-clause-step : goal.returns-clause-step
returns-clause-step c s here =
    let old = c.cell_to.new.self in
    let new = c.keep-2.new.self in
    let same : c.in-Some.sid ≡ s = same_some c.in-Some.sid s (sym c.in-Some.ensures ∙ here) in
    subst (λ (k : ℕ). IsStep c.args.nfa.now new.rows.items new.lists.items.items new.setup.looks k c.args.column
    c.in-Some-cell_to.cell) same
    (subst (λ (z : Setup). IsStep c.args.nfa.now new.rows.items new.lists.items.items z.looks c.in-Some.sid
    c.args.column c.in-Some-cell_to.cell) (sym c.keep-2.ensures.setup)
    (IsStep-keeps c.args.nfa.now old.rows.items new.rows.items old.lists.items.items new.lists.items.items
    old.setup.looks c.in-Some.sid c.args.column c.in-Some-cell_to.cell c.keep-2.ensures.keeps
    (subst (λ (l : Lists). Keeps old.lists.items.items l.items.items) (sym c.keep-2.ensures.lists)
    (Keeps-refl old.lists.items.items)) c.in-Some-cell_to.ensures.step))
