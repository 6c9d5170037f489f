-- The cell of the byte leads to the row that the byte leads to.
use Rattle.std.proofs.Common.{◌≡◌, ◌<◌, ℕ, set, ap, sym, ◌∙◌, subst, arith, is_some, slice_get}
use Rattle.nfa_lazy_dfa.specs.Rows.{AreRows, IsFor, Leads, stances_of}
use Rattle.nfa_lazy_dfa.specs.Stances.{Stance, stance_of}
use Rattle.nfa_lazy_dfa.proofs.RowLemmas.{AreRows-write, some-same}
use Rattle.nfa_lazy_dfa.proofs.CacheLemmas.{cells-within, few-rows, row-inside, row-is}
use Rattle.nfa_lazy_dfa.proofs.cache.Cache.write.Goals as goal

pub cell_to-cell-requires : goal.cell_to-cell-requires
cell_to-cell-requires c =
    let self = c.args.self.now in
    few-rows self c.args.dfa.now c.requires.own c.args.target
    (row-inside self c.args.target c.requires.leads.to c.requires.leads.is)

pub index_mut-requires : goal.index_mut-requires
index_mut-requires c =
    let self = c.args.self.now in
    let small : c.args.byte < 256 = omega arith in
    let within = cells-within self c.args.dfa.now c.requires.own c.args.row c.args.byte
    (row-inside self c.args.row c.requires.leads.from c.requires.leads.was) small in
    omega (arith, c.place_of.ensures)

pub returns-clause-own : goal.returns-clause-own
unfolding IsFor
returns-clause-own c =
    let self = c.args.self.now in
    let dfa = c.args.dfa.now in
    let leads = c.requires.leads in
    let stances = stances_of self.stands.items in
    let cell = c.cell_to-cell.result in
    let target = row-inside self c.args.target leads.to leads.is in
    let same : stance_of c.index.result.now ≡ leads.to =
    some-same (slice_get stances c.args.target) (stance_of c.index.result.now) leads.to
    (row-is self c.args.target c.index.result.now target c.index.ensures) leads.is in
    let small : c.args.byte < 256 = omega arith in
    let made : Leads dfa.nfa dfa.kind stances leads.from c.args.byte cell = record {
      whole = c.cell_to-cell.ensures.whole;
      target = leads.to;
      is = ap (slice_get stances) c.cell_to-cell.ensures.row ∙ leads.is;
      next = leads.next;
      plain = λ low. ap (λ (s : Stance). s.hit) (sym same) ∙ c.cell_to-cell.ensures.plain low;
      idle = λ low high. ap (λ (s : Stance). s.states) (sym same) ∙ c.cell_to-cell.ensures.idle low high;
      matched = λ low high.
          ap (λ (s : Stance). is_some s.hit) (sym same) ∙ c.cell_to-cell.ensures.matched low high;
      dead = λ low high. ap (λ (s : Stance). s.states) (sym same) ∙ c.cell_to-cell.ensures.dead low;
      dead_plain = λ low high. ap (λ (s : Stance). s.hit) (sym same) ∙ c.cell_to-cell.ensures.dead_plain low high;
      dead_matched = λ low high.
          ap (λ (s : Stance). is_some s.hit) (sym same) ∙ c.cell_to-cell.ensures.dead_matched low;
    } in
    record {
      rows = subst (λ (place : ℕ). AreRows dfa.nfa dfa.kind stances (set self.cells.items place cell) self.ends.items)
          (sym c.place_of.ensures)
          (AreRows-write dfa.nfa dfa.kind stances self.cells.items self.ends.items c.requires.own.rows c.args.row
          c.args.byte cell leads.from leads.was small made);
      firsts = c.requires.own.firsts;
      taken = c.requires.own.taken;
      fits = c.requires.own.fits;
    }
