-- A dead row ends the scan, as does the first match if it is enough.
use Rattle.nfa_paths.proofs.Common.{◌≡◌, ◌≤◌, ◌<◌, ◌/◌, ◌*◌, ◌∙◌, ◌+◌, ◌-◌, ℕ, inl, inr, true, get_or, ap, sym, subst, arith, is_some, option_map, vec_len, half_found_of, search_of}
use Rattle.nfa_lazy_dfa.specs.Configurations.{IsSettled, scanned}
use Rattle.nfa_lazy_dfa.proofs.SettledLemmas.{settled-found}
use Rattle.nfa_lazy_dfa.specs.Rows.{IsAt, IsRowOf, LeadsTo}
use Rattle.nfa_lazy_dfa.specs.Rows as rows
use Rattle.nfa_lazy_dfa.specs.Stances.{stance_of}
use Rattle.nfa_lazy_dfa.proofs.CacheLemmas.{row-inside, row-is}
use Rattle.nfa_lazy_dfa.proofs.RunLemmas.{few-at, place-first}
use Rattle.nfa_lazy_dfa.proofs.ScanLemmas.{IsAt-is_dead, IsFoundAt-next, found_at, some-map}
use Rattle.nfa_lazy_dfa.proofs.scan.settled.Goals as goal
use Rattle.nfa_lazy_dfa.proofs.scan.settled.Goals.{After-or-found, Joined-then-is_dead, then-is_dead-via-then-is_dead, then-is_dead-via-else-is_dead+then-is_some, then-earliest, else-earliest}

pub overflow_mul-first : goal.overflow_mul-first
overflow_mul-first c =
    let few = few-at c.args.dfa.now c.args.cache.now (search_of c.args.input.now) c.args.place c.requires.own
    c.requires.at in
    omega arith

pub cell_at-cell-requires-clause-at : goal.cell_at-cell-requires-clause-at
cell_at-cell-requires-clause-at c =
    place-first c.args.dfa.now c.args.cache.now (search_of c.args.input.now) c.args.place c.requires.at

pub index-stand-requires : goal.index-stand-requires
index-stand-requires c =
    let cache = c.args.cache.now in
    let known : c.cell_at-cell.result < 0xFFFF_FFFF = omega arith in
    let leads = c.cell_at-cell.ensures.leads known in
    subst (λ (r : ℕ). r < vec_len cache.stands) (sym c.row_of.ensures)
    (row-inside cache (rows.row_of c.cell_at-cell.result) leads.to leads.is)

-- the row of the next position is one of the cache
known : (c : After-or-found) → IsRowOf c.args.cache.now c.row_of.result (stance_of c.index-stand.result.now)
known c =
    let cache = c.args.cache.now in
    let next = c.row_of.result in
    let less : c.cell_at-cell.result < 0xFFFF_FFFF = omega arith in
    let leads = c.cell_at-cell.ensures.leads less in
    row-is cache next c.index-stand.result.now
    (row-inside cache next leads.to (subst (λ (r : ℕ). IsRowOf cache r leads.to) (sym c.row_of.ensures) leads.is))
    c.index-stand.ensures

-- the scan is there, with what it found
next : (c : After-or-found) → IsAt c.args.dfa.now c.args.cache.now (search_of c.args.input.now) (c.args.place.at + 1)
    c.row_of.result
    × (option_map half_found_of c.or-found.result
    ≡ found_at c.args.dfa.now (search_of c.args.input.now) (c.args.place.at + 1))
next c =
    let x = search_of c.args.input.now in
    let dfa = c.args.dfa.now in
    let cache = c.args.cache.now in
    let place = c.args.place in
    let byte = get_or x.haystack place.at 0 in
    let less : c.cell_at-cell.result < 0xFFFF_FFFF = omega arith in
    let back : place.row * 256 / 256 ≡ place.row = omega arith in
    let leads : LeadsTo dfa cache cache place.row byte c.row_of.result =
    subst (λ (r : ℕ). LeadsTo dfa cache cache r byte c.row_of.result) back
    (subst (λ (r : ℕ). LeadsTo dfa cache cache (place.row * 256 / 256) byte r) (sym c.row_of.ensures)
    (c.cell_at-cell.ensures.leads less)) in
    IsFoundAt-next dfa x cache cache place c.row_of.result c.requires.at c.requires.inside c.args.input.now.within
    leads (stance_of c.index-stand.result.now) (known c) c.half_at.result c.or-found.result c.half_at.ensures
    c.or-found.ensures

-- no later position changes that
settles : (c : Joined-then-is_dead)
    → IsRowOf c.args.cache.now c.row_of.result (stance_of c.index-stand.result.now)
    → IsAt c.args.dfa.now c.args.cache.now (search_of c.args.input.now) (c.args.place.at + 1) c.row_of.result
    × (option_map half_found_of c.or-found.result
    ≡ found_at c.args.dfa.now (search_of c.args.input.now) (c.args.place.at + 1))
    → (let x = search_of c.args.input.now in
    IsSettled x.earliest (scanned c.args.dfa.now.nfa x c.args.dfa.now.kind x.earliest (c.args.place.at + 1 - x.start)))
settles c is there =
    let x = search_of c.args.input.now in
    elim c.then-is_dead.branch [
      | then-is_dead-via-then-is_dead w ↦
          inl (IsAt-is_dead c.args.dfa.now x c.args.cache.now (c.args.place.at + 1) c.row_of.result there.0
          (stance_of c.index-stand.result.now) is (c.is_dead.ensures w.if-is_dead.true))
      | then-is_dead-via-else-is_dead+then-is_some w ↦
          elim w.if-earliest.branch [
            | then-earliest u ↦
                let earliest : x.earliest ≡ true = sym c.get_earliest-earliest.ensures ∙ u.if-earliest.true in
                let some : is_some c.or-found.result ≡ true = cc (u.value-is, u.is_some.ensures, w.if-is_some.true) in
                inr (earliest, ap is_some (sym there.1) ∙ some-map c.or-found.result some)
            | else-earliest u ↦ absurd (cc (u.value-is, w.if-is_some.true))
          ]
    ]

pub returns-then-is_dead-clause-steps : goal.returns-then-is_dead-clause-steps
returns-then-is_dead-clause-steps c =
    let dfa = c.args.dfa.now in
    let x = search_of c.args.input.now in
    let path = goal.at.returns-then-is_dead-clause-steps c in
    let there = next path.After-or-found in
    let low : x.start ≤ c.args.place.at + 1 = there.0.low in
    let high : c.args.place.at + 1 ≤ x.end = there.0.high in
    there.1
    ∙ settled-found dfa.nfa x dfa.kind x.earliest (c.args.place.at + 1 - x.start) (omega arith)
    (settles path.Joined-then-is_dead (known path.After-or-found) there)

pub returns-then-is_dead-clause-over : goal.returns-then-is_dead-clause-over
returns-then-is_dead-clause-over c =
    let path = goal.at.returns-then-is_dead-clause-over c in
    inr (settles path.Joined-then-is_dead (known path.After-or-found) (next path.After-or-found))
