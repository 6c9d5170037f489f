-- The cell is in the table, and a known one leads on.
use Rattle.std.proofs.Common.{◌<◌, ◌+◌, ℕ, List, get_or, subst, arith, vec_len}
use Rattle.nfa_lazy_dfa.specs.Rows.{Leads, stances_of}
use Rattle.nfa_lazy_dfa.proofs.CacheLemmas.{cell-within, leads-read}
use Rattle.nfa_lazy_dfa.proofs.known.read_cell.Goals as goal

pub index-requires : goal.index-requires
index-requires c =
    let cache = c.args.cache.now in
    let first = c.args.first in
    let here = c.requires.at in
    let byte = get_or c.haystack-haystack.result.now c.args.at 0 in
    let small : byte < 256 = omega arith in
    let within : first + byte < vec_len cache.cells =
    cell-within cache c.args.dfa.now c.requires.own first byte here.stance here.is c.requires.whole small in
    omega arith

pub returns : goal.returns
returns c = λ known s is.
    let dfa = c.args.dfa.now in
    let cache = c.args.cache.now in
    let at = c.args.at in
    let byte = get_or c.haystack-haystack.result.now at 0 in
    let small : byte < 256 = omega arith in
    let cell = c.index.result.now in
    subst (λ (h : List ℕ). Leads dfa.nfa dfa.kind (stances_of cache.stands.items) s (get_or h at 0) cell)
    c.haystack-haystack.ensures
    (leads-read cache dfa c.requires.own c.args.first byte cell s is c.requires.whole small c.index.ensures
    (λ e. absurd (omega arith)))
