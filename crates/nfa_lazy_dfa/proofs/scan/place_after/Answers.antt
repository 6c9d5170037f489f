-- The byte leads on to the row. If the row is dead, or its match is the first one and enough, the scan is over.
use Rattle.nfa_paths.proofs.Common.{◌+◌, ◌∙◌, inl, inr, ap, sym, is_some, search_of}
use Rattle.nfa_lazy_dfa.specs.Rows.{IsRowOf}
use Rattle.nfa_lazy_dfa.specs.Stances.{stance_of}
use Rattle.nfa_lazy_dfa.proofs.CacheLemmas.{row-is}
use Rattle.nfa_lazy_dfa.proofs.ScanLemmas.{IsAt-is_dead, IsFoundAt-next, none-map, some-map}
use Rattle.nfa_lazy_dfa.proofs.scan.place_after.Goals as goal

pub returns-clause-leads : goal.returns-clause-leads
returns-clause-leads c = λ old here leads.
    let x = search_of c.args.input.now in
    let dfa = c.args.dfa.now in
    let new = c.args.cache.now in
    let place = c.args.place in
    let next = c.args.next in
    let t = stance_of c.index-stand.result.now in
    let known : IsRowOf new next t = row-is new next c.index-stand.result.now c.requires.row c.index-stand.ensures in
    let found = c.or-found.result in
    let both = IsFoundAt-next dfa x old new place next here c.requires.inside c.args.input.now.within leads t known
    c.half_at.result found c.half_at.ensures c.or-found.ensures in
    let ends = c.ends_scan-over.ensures in
    record {
      at = both.0;
      found = both.1;
      first = λ on earliest. none-map found (ends.goes_on on (c.get_earliest.ensures ∙ earliest));
      settled = λ over.
          elim (ends.over over) [
            | inl dead ↦ inl (IsAt-is_dead dfa x new (place.at + 1) next both.0 t known dead)
            | inr first ↦
                inr (sym c.get_earliest.ensures ∙ first.0, ap is_some (sym both.1) ∙ some-map found first.1)
          ];
    }
