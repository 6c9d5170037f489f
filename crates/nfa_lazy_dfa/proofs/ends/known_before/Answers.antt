-- A known cell says what matches before its byte, and that the byte may be read.
use Rattle.nfa_paths.proofs.Common.{◌<◌, ◌*◌, ◌+◌, ◌∙◌, Some, ap, sym, subst, arith, slice_get}
use Rattle.nfa_lazy_dfa.specs.Rows.{LeadsTo, stances_of}
use Rattle.nfa_lazy_dfa.specs.Stances.{Stance, hit_here, stance_of}
use Rattle.nfa_lazy_dfa.proofs.CacheLemmas.{cell-read, cells-within, known-leads, row-inside, row-is}
use Rattle.nfa_lazy_dfa.proofs.RowLemmas.{some-same}
use Rattle.nfa_lazy_dfa.proofs.ends.known_before.Goals as goal
use Rattle.nfa_lazy_dfa.proofs.ends.known_before.Goals.{After-row_of}

pub index-cell-requires : goal.index-cell-requires
index-cell-requires c =
    let cache = c.args.cache.now in
    let small : c.args.byte < 256 = omega arith in
    cells-within cache c.args.dfa.now c.requires.own c.args.row c.args.byte c.requires.row small

-- where the byte leads
leads : (c : After-row_of) → LeadsTo c.args.dfa.now c.args.cache.now c.args.cache.now c.args.row c.args.byte
    c.row_of.result
leads c =
    let cache = c.args.cache.now in
    let dfa = c.args.dfa.now in
    let cell = c.index-cell.result.now in
    let small : c.args.byte < 256 = omega arith in
    let read = cell-read cache dfa c.requires.own c.args.row c.args.byte cell (c.args.row * 256 + c.args.byte)
    c.requires.row small (omega arith) c.index-cell.ensures in
    subst (LeadsTo dfa cache cache c.args.row c.args.byte) (sym c.row_of.ensures)
    (known-leads cache dfa c.requires.own c.args.row c.args.byte cell c.requires.row small read c.if-cell.false)

pub index-requires : goal.index-requires
index-requires c =
    let l = leads (goal.at.index-requires c).After-row_of in row-inside c.args.cache.now c.row_of.result l.to l.is

pub returns-clause-hit : goal.returns-clause-hit
returns-clause-hit c = λ s is.
    let cache = c.args.cache.now in
    let dfa = c.args.dfa.now in
    let l = leads (goal.at.returns-clause-hit c).After-row_of in
    let stand = c.index.result.now in
    let at = row-is cache c.row_of.result stand (row-inside cache c.row_of.result l.to l.is) c.index.ensures in
    let same = some-same (slice_get (stances_of cache.stands.items) c.row_of.result) (stance_of stand) l.to at l.is in
    let from = some-same (slice_get (stances_of cache.stands.items) c.args.row) l.from s l.was is in
    ap (λ (t : Stance). t.hit) same ∙ l.next.hit
    ∙ ap (λ (t : Stance). hit_here dfa.nfa dfa.kind t (Some c.args.byte)) from

pub returns-clause-read : goal.returns-clause-read
returns-clause-read c = (leads (goal.at.returns-clause-read c).After-row_of).next.read
