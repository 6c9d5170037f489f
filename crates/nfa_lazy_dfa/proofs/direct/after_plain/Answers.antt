-- A cell that ends the scan leads to the place at which it is over.
use Rattle.nfa_paths.proofs.Common.{◌≡◌, ◌+◌, ◌<◌, ◌≤◌, ◌⊎◌, ◌∙◌, ℕ, inl, inr, true, get_or, sym, subst, arith, search_of}
use Rattle.nfa_lazy_dfa.specs.Places.{IsNextPlace}
use Rattle.nfa_lazy_dfa.specs.Rows.{Leads, row_of, stances_of}
use Rattle.nfa_lazy_dfa.specs.Runs.{place_at}
use Rattle.nfa_lazy_dfa.proofs.CacheLemmas.{row-inside}
use Rattle.nfa_lazy_dfa.proofs.DirectLemmas.{found-by, next-ended, next-here}
use Rattle.nfa_lazy_dfa.specs.declared.scan.Place.{Place}
use Rattle.nfa_lazy_dfa.proofs.direct.after_plain.Goals as goal

pub found_over-found-requires : goal.found_over-found-requires
found_over-found-requires c =
    let here = c.requires.at.at in
    let leads = c.requires.cell.leads (c.ends_scan.ensures.known c.if-ends_scan.true) here.stance here.is in
    row-inside c.args.cache.now (row_of c.args.ahead.cell) leads.target leads.is

pub overflow_add-next : goal.overflow_add-next
overflow_add-next c =
    let x = search_of c.args.input.now in
    let inside : c.args.ahead.at < x.end = c.requires.cell.inside (c.ends_scan.ensures.known c.if-ends_scan.true) in
    omega arith

pub returns-then-ends_scan-clause-next : goal.returns-then-ends_scan-clause-next
returns-then-ends_scan-clause-next c =
    let x = search_of c.args.input.now in
    let dfa = c.args.dfa.now in
    let cache = c.args.cache.now in
    let a = c.args.ahead in
    let here = c.requires.at in
    let known = c.ends_scan.ensures.known c.if-ends_scan.true in
    let leads :
    Leads dfa.nfa dfa.kind (stances_of cache.stands.items) here.at.stance (get_or x.haystack a.at 0) a.cell =
    c.requires.cell.leads known here.at.stance here.at.is in
    let inside = c.requires.cell.inside known in
    let within = c.args.input.now.within in
    let over : (0x8000_0000 ≤ a.cell) ⊎ ((x.earliest ≡ true) × ((0x4000_0000 ≤ a.cell) × (a.cell < 0x8000_0000))) =
    elim (c.ends_scan.ensures.over c.if-ends_scan.true) [
      | inl dead ↦ inl dead
      | inr first ↦ inr (sym c.get_earliest.ensures ∙ first.0, first.1)
    ] in
    let made = c.found_over-found in
    let found = found-by dfa x cache a.at a.first a.cell here.at leads inside within known c.args.found made.result
    here.found here.first made.ensures.plain made.ensures.matched in
    subst (λ (r : ℕ).
    let p : Place = record { at = a.at + 1; row = r; found = made.result } in IsNextPlace dfa cache x p true)
    (sym c.row_of-row.ensures)
    (next-ended dfa x cache a.at a.first a.cell here.at leads inside within known over made.result found)

pub returns-clause-next : goal.returns-clause-next
returns-clause-next c =
    next-here c.args.dfa.now (search_of c.args.input.now) c.args.cache.now
    (place_at c.args.ahead.at c.args.ahead.first c.args.found) c.requires.at
