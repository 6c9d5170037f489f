-- A cell that is known leads on; any other one is filled.
use Rattle.std.proofs.Common.{◌<◌, ◌*◌, ◌+◌, refl, sym, subst, arith, vec_len}
use Rattle.nfa_lazy_dfa.specs.Rows.{LeadsTo}
use Rattle.nfa_lazy_dfa.proofs.CacheLemmas.{IsFor-same, cell-read, cells-within, known-leads}
use Rattle.nfa_lazy_dfa.proofs.cache.Cache.next.Goals as goal

pub index-cell-requires : goal.index-cell-requires
index-cell-requires c =
    let self = c.args.self.now in
    let small : c.args.byte < 256 = omega arith in
    let within : c.args.row * 256 + c.args.byte < vec_len self.cells =
    cells-within self c.args.dfa.now c.requires.own c.args.row c.args.byte c.requires.row small in
    omega (arith, c.place_of.ensures)

pub returns-then-cell-clause-own : goal.returns-then-cell-clause-own
returns-then-cell-clause-own c = IsFor-same c.args.dfa.now c.args.self.now _ refl refl refl refl refl c.requires.own

pub returns-then-cell-clause-leads : goal.returns-then-cell-clause-leads
returns-then-cell-clause-leads c =
    let self = c.args.self.now in
    let row = c.args.row in
    let cell = c.index-cell.result.now in
    let small : c.args.byte < 256 = omega arith in
    let read = cell-read self c.args.dfa.now c.requires.own row c.args.byte cell c.place_of.result c.requires.row small
    c.place_of.ensures c.index-cell.ensures in
    let leads : LeadsTo c.args.dfa.now self self row c.args.byte c.row_of.result =
    subst (LeadsTo c.args.dfa.now self self row c.args.byte) (sym c.row_of.ensures)
    (known-leads self c.args.dfa.now c.requires.own row c.args.byte cell c.requires.row small read c.if-cell.true) in
    record { from = leads.from; was = leads.was; to = leads.to; is = leads.is; next = leads.next }

pub fill-requires-clause-own : goal.fill-requires-clause-own
fill-requires-clause-own c = IsFor-same c.args.dfa.now c.args.self.now _ refl refl refl refl refl c.requires.own

pub returns-clause-leads : goal.returns-clause-leads
returns-clause-leads c =
    let leads = c.in_ok-target.ensures.leads in
    record { from = leads.from; was = leads.was; to = leads.to; is = leads.is; next = leads.next }
