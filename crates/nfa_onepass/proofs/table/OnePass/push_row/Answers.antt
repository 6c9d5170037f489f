-- The row was added, or nothing changed.
use Rattle.nfa_paths.proofs.Common.{ap, inl, inr, refl, sym, subst, ◌∙◌, List}
use Rattle.nfa_onepass.specs.Tables.{KeepsRows, state_at}
use Rattle.nfa_onepass.specs.declared.table.Row.{Row}
use Rattle.nfa_onepass.proofs.TableLemmas.{IsFor-lists, IsFor-push, Keeps-refl, KeepsRows-push}
use Rattle.nfa_onepass.proofs.table.OnePass.push_row.Goals as goal

pub returns-clause-own : goal.returns-clause-own
returns-clause-own c =
    elim c.push.ensures [
      | inl same ↦ IsFor-lists c.args.nfa.now c.args.self.now _ same (Keeps-refl c.args.self.now.lists.items.items)
          (record { rows = refl; lists = refl; setup = refl }) c.requires.own
      | inr added ↦ IsFor-push c.args.nfa.now c.args.self.now _ c.fresh_row.result c.args.sid added refl
          (record { rows = refl; lists = refl; setup = refl }) c.requires.room c.requires.own
          c.fresh_row.ensures c.requires.state
    ]

pub returns-clause-keeps : goal.returns-clause-keeps
returns-clause-keeps c =
    elim c.push.ensures [
      | inl same ↦ λ row s e. ap (λ (xs : List Row). state_at xs row) same ∙ e
      | inr added ↦ subst (KeepsRows c.args.self.now.rows.items) (sym added)
          (KeepsRows-push c.args.self.now.rows.items c.fresh_row.result)
    ]
