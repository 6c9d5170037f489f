-- The scan passes rows without a match, and then rows with one.
use Rattle.nfa_paths.proofs.Common.{◌≡◌, ◌%◌, ◌<◌, ◌∙◌, get_or, sym, arith, search_of}
use Rattle.nfa_lazy_dfa.specs.Rows.{Leads, stances_of}
use Rattle.nfa_lazy_dfa.proofs.RunLemmas.{few-at, over-match, place-first}
use Rattle.nfa_lazy_dfa.proofs.direct.direct.Goals as goal

pub overflow_mul-start : goal.overflow_mul-start
overflow_mul-start c =
    let few = few-at c.args.dfa.now c.args.cache.now (search_of c.args.input.now) c.args.from c.requires.own
    c.requires.at in
    omega arith

pub pass-at-requires-clause-at : goal.pass-at-requires-clause-at
pass-at-requires-clause-at c =
    place-first c.args.dfa.now c.args.cache.now (search_of c.args.input.now) c.args.from c.requires.at

pub pass_matches-to-requires-clause-late : goal.pass_matches-to-requires-clause-late
pass_matches-to-requires-clause-late c =
    sym c.get_earliest.ensures ∙ c.goes_over.ensures.late c.if-goes_over.true

pub pass_matches-to-requires-clause-whole : goal.pass_matches-to-requires-clause-whole
pass_matches-to-requires-clause-whole c =
    let here = c.pass-at.ensures.at.at in
    let cell = c.next_cell-cell.result in
    let matched = c.goes_over.ensures.matched c.if-goes_over.true in
    let high : cell < 0x8000_0000 = matched.1 in
    let leads = c.next_cell-cell.ensures.leads (omega arith) here.stance here.is in
    let whole : cell % 256 ≡ 0 = leads.whole in
    omega arith

pub pass_matches-to-requires-clause-at : goal.pass_matches-to-requires-clause-at
pass_matches-to-requires-clause-at c =
    let x = search_of c.args.input.now in
    let dfa = c.args.dfa.now in
    let cache = c.args.cache.now in
    let at = c.pass-at.result.0 in
    let here = c.pass-at.ensures.at.at in
    let cell = c.next_cell-cell.result in
    let matched = c.goes_over.ensures.matched c.if-goes_over.true in
    let high : cell < 0x8000_0000 = matched.1 in
    let leads : Leads dfa.nfa dfa.kind (stances_of cache.stands.items) here.stance (get_or x.haystack at 0) cell =
    c.next_cell-cell.ensures.leads (omega arith) here.stance here.is in
    over-match dfa x cache at c.pass-at.result.1 cell here leads (c.next_cell-cell.ensures.inside (omega arith))
    c.args.input.now.within matched.0 matched.1
    (sym c.get_earliest.ensures ∙ c.goes_over.ensures.late c.if-goes_over.true)
