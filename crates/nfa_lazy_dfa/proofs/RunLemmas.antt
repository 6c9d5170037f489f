-- A scan over cells that are known.
use Rattle.nfa_paths.proofs.Common.{◌≡◌, ℕ, ◌+◌, ◌*◌, ◌/◌, ◌%◌, ◌<◌, ◌≤◌, ◌-◌, Bool, true, false, List, get_or, length, refl, ap, sym, ◌∙◌, subst, arith, Option, None, Some, is_some, option_map, slice_get, HalfFound, half_found_of, HalfMatch, Search, half_at}
use Rattle.nfa_lazy_dfa.specs.Configurations.{found_after}
use Rattle.nfa_lazy_dfa.specs.Places.{IsFoundAt, IsMatchedAt}
use Rattle.nfa_lazy_dfa.specs.Runs.{place_at}
use Rattle.nfa_lazy_dfa.specs.Rows.{IsAt, IsFor, IsRowOf, Leads, LeadsTo, row_of, stances_of}
use Rattle.nfa_lazy_dfa.proofs.CacheLemmas.{few-rows, row-inside}
use Rattle.nfa_lazy_dfa.proofs.RowLemmas.{some-same}
use Rattle.nfa_lazy_dfa.proofs.ScanLemmas.{IsAt-next, found_at}
use Rattle.nfa_lazy_dfa.specs.Stances.{Stance}
use Rattle.nfa_lazy_dfa.specs.Watches.{IsIdlePlace}
use Rattle.nfa_lazy_dfa.specs.declared.cache.Cache.{Cache}
use Rattle.nfa_lazy_dfa.specs.declared.dfa.DFA.{DFA}
use Rattle.nfa_lazy_dfa.specs.declared.follow.Stand.{Stand}
use Rattle.nfa_lazy_dfa.specs.declared.scan.Place.{Place}
use Rattle.nfa_lazy_dfa.proofs.LastScanLemmas.{half-some}

pub found-none : (earliest : Bool) (found : Option HalfFound) → found_after earliest found None ≡ found
found-none true None = refl
found-none true (Some h) = refl
found-none false found = refl

-- the scan is still there, if only the counts of the cache changed
pub IsFoundAt-same : (dfa : DFA) (x : Search) (p : Place) (old new : Cache) → new.stands.items ≡ old.stands.items
    → IsFoundAt dfa old x p → IsFoundAt dfa new x p
IsFoundAt-same dfa x p old new same here = record {
  at = record {
    stance = here.at.stance;
    is = ap (λ (s : List Stand). slice_get (stances_of s) p.row) same ∙ here.at.is;
    low = here.at.low;
    high = here.at.high;
    stands = here.at.stands;
  };
  found = here.found;
  first = here.first;
}

-- where a cell that is known leads
pub leads-on : (dfa : DFA) (x : Search) (cache : Cache) (at row byte cell : ℕ) (here : IsAt dfa cache x at row)
    → Leads dfa.nfa dfa.kind (stances_of cache.stands.items) here.stance byte cell
    → LeadsTo dfa cache cache row byte (row_of cell)
leads-on dfa x cache at row byte cell here leads = record {
  from = here.stance;
  was = here.is;
  to = leads.target;
  is = leads.is;
  next = leads.next;
}

small-mod : (cell : ℕ) → cell < 0x2000_0000 → cell % 0x2000_0000 ≡ cell
small-mod cell low = omega arith

-- a cell without a mark is the place of its row
pub unmarked : (dfa : DFA) (x : Search) (cache : Cache) (at cell : ℕ) (found : Option HalfMatch) → cell < 0x2000_0000
    → IsFoundAt dfa cache x (place_at at (cell % 0x2000_0000) found) → IsFoundAt dfa cache x (place_at at cell found)
unmarked dfa x cache at cell found low here =
    subst (λ (first : ℕ). IsFoundAt dfa cache x (place_at at first found)) (small-mod cell low) here

-- the row that a cell with the mark leads to is idle
pub leads-idle : (dfa : DFA) (cache : Cache) (s : Stance) (byte cell : ℕ)
    → Leads dfa.nfa dfa.kind (stances_of cache.stands.items) s byte cell → 0x2000_0000 ≤ cell → cell < 0x4000_0000
    → IsIdlePlace dfa cache (cell % 0x2000_0000)
leads-idle dfa cache s byte cell leads low high = record {
  alone = λ t whole is.
      ap (λ (u : Stance). u.states)
      (some-same (slice_get (stances_of cache.stands.items) (row_of cell)) t leads.target is leads.is)
      ∙ leads.idle low high;
}

-- over a byte, to a row that no match leads to
pub over-plain : (dfa : DFA) (x : Search) (cache : Cache) (p : Place) (here : IsFoundAt dfa cache x p) (cell : ℕ)
    → Leads dfa.nfa dfa.kind (stances_of cache.stands.items) here.at.stance (get_or x.haystack p.at 0) cell
    → p.at < x.end → x.end ≤ length x.haystack → cell < 0x4000_0000
    → IsFoundAt dfa cache x (place_at (p.at + 1) (cell % 0x2000_0000) p.found)
over-plain dfa x cache p here cell leads inside within low =
    let both = IsAt-next dfa x cache cache p.at p.row (row_of cell) inside within here.at
    (leads-on dfa x cache p.at p.row (get_or x.haystack p.at 0) cell here.at leads) leads.target leads.is in
    record {
      at = both.0;
      found = here.found ∙ sym (both.1
          ∙ ap (λ (o : Option ℕ). found_after x.earliest (found_at dfa x p.at) (option_map (half_at p.at) o))
          (leads.plain low)
          ∙ found-none x.earliest (found_at dfa x p.at));
      first = here.first;
    }

found-first : (earliest : Bool) → earliest ≡ false → (found hit : Option HalfFound) → is_some hit ≡ true
    → found_after earliest found hit ≡ hit
found-first true late found hit some = cc
found-first false late found None some = cc
found-first false late found (Some h) some = refl

-- over a byte, to a row that a match leads to, and that is not dead
pub over-match : (dfa : DFA) (x : Search) (cache : Cache) (at first cell : ℕ)
    (here : IsAt dfa cache x at (first / 256))
    → Leads dfa.nfa dfa.kind (stances_of cache.stands.items) here.stance (get_or x.haystack at 0) cell → at < x.end
    → x.end ≤ length x.haystack → 0x4000_0000 ≤ cell → cell < 0x8000_0000
    → x.earliest ≡ false → IsMatchedAt dfa cache x (at + 1) (cell % 0x2000_0000)
over-match dfa x cache at first cell here leads inside within low high late =
    let both = IsAt-next dfa x cache cache at (first / 256) (row_of cell) inside within here
    (leads-on dfa x cache at (first / 256) (get_or x.haystack at 0) cell here leads) leads.target leads.is in
    let back : at ≡ at + 1 - 1 = omega arith in
    let hit = leads.target.hit in
    let some : is_some (option_map (half_at at) hit) ≡ true = half-some at hit (leads.matched low high) in
    record {
      at = both.0;
      found = λ s there.
          let same : s ≡ leads.target =
          some-same (slice_get (stances_of cache.stands.items) (row_of cell)) s leads.target there leads.is in
          ap (λ (t : Stance). option_map (half_at (at + 1 - 1)) t.hit) same
          ∙ ap (λ (n : ℕ). option_map (half_at n) hit) (sym back)
          ∙ sym (both.1 ∙ found-first x.earliest late (found_at dfa x at) (option_map (half_at at) hit) some);
    }

-- the place of a scan whose last match is its row's
pub found-matched : (dfa : DFA) (x : Search) (cache : Cache) (at first : ℕ) → IsMatchedAt dfa cache x at first
    → x.earliest ≡ false → (t : Stance) → IsRowOf cache (first / 256) t → (half : Option HalfMatch)
    → option_map half_found_of half ≡ option_map (half_at (at - 1)) t.hit
    → IsFoundAt dfa cache x (place_at at first half)
found-matched dfa x cache at first here late t is half half_is = record {
  at = here.at;
  found = half_is ∙ here.found t is;
  first = λ early. cc;
}

-- the place at the first cell of a row
pub place-first : (dfa : DFA) (cache : Cache) (x : Search) (p : Place) → IsFoundAt dfa cache x p
    → IsFoundAt dfa cache x (place_at p.at (p.row * 256) p.found)
place-first dfa cache x p here =
    let same : p.row ≡ p.row * 256 / 256 = omega arith in
    subst (λ (r : ℕ).
    let q : Place = record { at = p.at; row = r; found = p.found } in IsFoundAt dfa cache x q) same here

-- it is one of few rows
pub few-at : (dfa : DFA) (cache : Cache) (x : Search) (p : Place) → IsFor cache dfa → IsFoundAt dfa cache x p
    → p.row < 0x20_0000
few-at dfa cache x p own here = few-rows cache dfa own p.row (row-inside cache p.row here.at.stance here.at.is)
