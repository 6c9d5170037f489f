-- The step leads to the row of the state that the way reached.
use Rattle.nfa_paths.proofs.Common.{◌∙◌, arith, ap, rules, sym, subst}
use Rattle.nfa_onepass.specs.Tables.{IsStep, looks_over}
use Rattle.nfa_onepass.specs.declared.lists.Lists.{Lists}
use Rattle.nfa_onepass.specs.declared.table.Cell.{Cell}
use Rattle.nfa_onepass.specs.declared.table.Setup.{Setup}
use Rattle.nfa_onepass.proofs.TableLemmas.{byte_of-low}
use Rattle.nfa_onepass.proofs.table.OnePass.cell_to.Goals as goal

pub returns-clause-step : goal.returns-clause-step
returns-clause-step c =
    let nfa = c.args.nfa.now in
    let old = c.args.self.now in
    let column = c.args.column in
    let rows = c.row_of.new.self.rows.items in
    let reached = c.args.reached in
    let cell : Cell = record { goal = c.in_ok-next.next; list = reached.list } in
    let step : IsStep nfa rows old.lists.items.items old.setup.looks c.args.sid column cell = record {
      goal = reached.goal;
      inside = c.requires.reached.inside;
      sure = c.requires.reached.sure;
      shut = λ plain low. c.requires.reached.shut
          (ap (looks_over old.setup.looks) (byte_of-low column low) ∙ plain) column (byte_of-low column low);
      leads = λ low. search (rules, c.in_ok-next.ensures, c.in_ok-to.ensures);
      ends = λ high. absurd (omega (arith, high, c.requires.column, c.if-column-eq-END.false));
    } in
    subst (λ (s : Setup). IsStep nfa rows c.row_of.new.self.lists.items.items s.looks c.args.sid column cell)
    (sym c.row_of.ensures.setup)
    (subst (λ (l : Lists). IsStep nfa rows l.items.items old.setup.looks c.args.sid column cell)
    (sym c.row_of.ensures.lists) step)
