-- A cell that leads to a dead row ends the scan.
use Rattle.nfa_paths.proofs.Common.{cases_lt, ◌≡◌, ◌+◌, ◌/◌, ◌<◌, ◌%◌, ◌∙◌, ℕ, inl, inr, true, get_or, sym, subst, arith, option_map, half_found_of, search_of}
use Rattle.nfa_lazy_dfa.specs.Places.{IsNextPlace}
use Rattle.nfa_lazy_dfa.specs.Rows.{Leads, row_of, stances_of}
use Rattle.nfa_lazy_dfa.specs.Runs.{place_at}
use Rattle.nfa_lazy_dfa.proofs.CacheLemmas.{row-inside}
use Rattle.nfa_lazy_dfa.proofs.DirectLemmas.{found-hit, found-plain, next-ended, next-here}
use Rattle.nfa_lazy_dfa.proofs.RunLemmas.{found-matched}
use Rattle.nfa_lazy_dfa.proofs.ScanLemmas.{found_at}
use Rattle.nfa_lazy_dfa.specs.declared.scan.Place.{Place}
use Rattle.nfa_lazy_dfa.proofs.direct.after_match.Goals as goal

pub last_found-found-requires-clause-row : goal.last_found-found-requires-clause-row
last_found-found-requires-clause-row c =
    let here = c.requires.at.at in row-inside c.args.cache.now (c.args.ahead.first / 256) here.stance here.is

pub last_found-found-requires-clause-next : goal.last_found-found-requires-clause-next
last_found-found-requires-clause-next c =
    let here = c.requires.at.at in
    let dead = c.is_dead.ensures c.if-is_dead.true in
    let leads = c.requires.cell.leads dead.1 here.stance here.is in
    row-inside c.args.cache.now (row_of c.args.ahead.cell) leads.target leads.is

pub overflow_add-next : goal.overflow_add-next
overflow_add-next c =
    let x = search_of c.args.input.now in
    let dead = c.is_dead.ensures c.if-is_dead.true in
    let inside : c.args.ahead.at < x.end = c.requires.cell.inside dead.1 in
    omega arith

pub returns-then-is_dead-clause-next : goal.returns-then-is_dead-clause-next
returns-then-is_dead-clause-next c =
    let x = search_of c.args.input.now in
    let dfa = c.args.dfa.now in
    let cache = c.args.cache.now in
    let a = c.args.ahead in
    let here = c.requires.at in
    let dead = c.is_dead.ensures c.if-is_dead.true in
    let leads :
    Leads dfa.nfa dfa.kind (stances_of cache.stands.items) here.at.stance (get_or x.haystack a.at 0) a.cell =
    c.requires.cell.leads dead.1 here.at.stance here.at.is in
    let inside = c.requires.cell.inside dead.1 in
    let within = c.args.input.now.within in
    let made = c.last_found-found in
    let found : option_map half_found_of made.result ≡ found_at dfa x (a.at + 1) =
    elim (cases_lt (a.cell % 0x8000_0000) 0x4000_0000) [
      | inl low ↦
          made.ensures.plain low here.at.stance here.at.is ∙ here.found here.at.stance here.at.is
          ∙ sym (found-plain dfa x cache a.at a.first a.cell here.at leads inside within dead.1 low)
      | inr high ↦
          found-hit dfa x cache a.at a.first a.cell here.at leads inside within dead.1 high
          (λ early. let late = c.requires.late in absurd (cc (early, late))) made.result (made.ensures.matched high)
    ] in
    subst (λ (r : ℕ).
    let p : Place = record { at = a.at + 1; row = r; found = made.result } in IsNextPlace dfa cache x p true)
    (sym c.row_of-row.ensures)
    (next-ended dfa x cache a.at a.first a.cell here.at leads inside within dead.1 (inl dead.0) made.result found)

pub hit_at-found-requires : goal.hit_at-found-requires
hit_at-found-requires c =
    let here = c.requires.at.at in row-inside c.args.cache.now (c.args.ahead.first / 256) here.stance here.is

pub returns-clause-next : goal.returns-clause-next
returns-clause-next c =
    let x = search_of c.args.input.now in
    let dfa = c.args.dfa.now in
    let cache = c.args.cache.now in
    let a = c.args.ahead in
    let here = c.requires.at in
    let half = c.hit_at-found.result in
    next-here dfa x cache (place_at a.at a.first half)
    (found-matched dfa x cache a.at a.first here c.requires.late here.at.stance here.at.is half
    (c.hit_at-found.ensures here.at.stance here.at.is))
