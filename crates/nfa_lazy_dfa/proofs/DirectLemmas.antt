-- A scan over a known cell that ends it.
use Rattle.nfa_paths.proofs.Common.{cases_lt, ◌≡◌, ℕ, ◌+◌, ◌/◌, ◌%◌, ◌<◌, ◌≤◌, ◌⊎◌, inl, inr, Bool, true, false, get_or, length, refl, ap, sym, ◌∙◌, arith, Option, None, Some, is_some, option_map, HalfFound, half_found_of, HalfMatch, Search, half_at}
use Rattle.nfa_lazy_dfa.specs.Configurations.{found_after}
use Rattle.nfa_lazy_dfa.specs.Places.{IsFoundAt, IsNextPlace}
use Rattle.nfa_lazy_dfa.specs.Rows.{IsAt, IsRowOf, Leads, row_of, stances_of}
use Rattle.nfa_lazy_dfa.specs.Stances.{Stance}
use Rattle.nfa_lazy_dfa.proofs.RunLemmas.{found-none, leads-on}
use Rattle.nfa_lazy_dfa.proofs.ScanLemmas.{IsAt-is_dead, IsAt-next, found_at}
use Rattle.nfa_lazy_dfa.specs.declared.cache.Cache.{Cache}
use Rattle.nfa_lazy_dfa.specs.declared.dfa.DFA.{DFA}
use Rattle.nfa_lazy_dfa.specs.declared.scan.Place.{Place}
use Rattle.nfa_lazy_dfa.proofs.LastScanLemmas.{half-some}

-- the first match, or one that later matches replace
after-hit : (earliest : Bool) (before hit : Option HalfFound) → is_some hit ≡ true
    → (earliest ≡ true → before ≡ None) → found_after earliest before hit ≡ hit
after-hit true None None some none = refl
after-hit true None (Some h) some none = refl
after-hit true (Some f) hit some none = let no = none refl in absurd (cc no)
after-hit false before None some none = absurd (cc some)
after-hit false before (Some h) some none = refl

after-some : (earliest : Bool) (before hit : Option HalfFound) → is_some hit ≡ true
    → is_some (found_after earliest before hit) ≡ true
after-some true None None some = some
after-some true None (Some h) some = refl
after-some true (Some f) None some = refl
after-some true (Some f) (Some h) some = refl
after-some false before None some = absurd (cc some)
after-some false before (Some h) some = refl

module _ (dfa : DFA) (x : Search) (cache : Cache) (at first cell : ℕ) (here : IsAt dfa cache x at (first / 256))
    (leads : Leads dfa.nfa dfa.kind (stances_of cache.stands.items) here.stance (get_or x.haystack at 0) cell)
    (inside : at < x.end) (within : x.end ≤ length x.haystack) (known : cell < 0xFFFF_FFFF) where
  -- the cell says whether there is a match
  pub cell-plain : cell % 0x8000_0000 < 0x4000_0000 → leads.target.hit ≡ None
  cell-plain low =
      elim (cases_lt cell 0x4000_0000) [
        | inl less ↦ leads.plain less
        | inr more ↦ leads.dead_plain (omega arith) (omega arith)
      ]

  pub cell-matched : 0x4000_0000 ≤ cell % 0x8000_0000 → is_some leads.target.hit ≡ true
  cell-matched high =
      elim (cases_lt cell 0x8000_0000) [
        | inl less ↦ leads.matched (omega arith) less
        | inr more ↦ leads.dead_matched (omega arith) known
      ]

  -- where the scan is after the byte
  there : IsAt dfa cache x (at + 1) (row_of cell)
      × (found_at dfa x (at + 1)
      ≡ found_after x.earliest (found_at dfa x at) (option_map (half_at at) leads.target.hit))
  there =
      IsAt-next dfa x cache cache at (first / 256) (row_of cell) inside within here
      (leads-on dfa x cache at (first / 256) (get_or x.haystack at 0) cell here leads) leads.target leads.is

  -- without a match it has found what it had found
  pub found-plain : cell % 0x8000_0000 < 0x4000_0000 → found_at dfa x (at + 1) ≡ found_at dfa x at
  found-plain low =
      there.1
      ∙ ap (λ (o : Option ℕ). found_after x.earliest (found_at dfa x at) (option_map (half_at at) o)) (cell-plain low)
      ∙ found-none x.earliest (found_at dfa x at)

  -- with a match it has found that
  pub found-hit : 0x4000_0000 ≤ cell % 0x8000_0000 → (x.earliest ≡ true → found_at dfa x at ≡ None)
      → (found : Option HalfMatch)
      → ((s : Stance) → IsRowOf cache (row_of cell) s
      → option_map half_found_of found ≡ option_map (half_at at) s.hit)
      → option_map half_found_of found ≡ found_at dfa x (at + 1)
  found-hit high none found is =
      is leads.target leads.is
      ∙ sym (there.1 ∙ after-hit x.earliest (found_at dfa x at) (option_map (half_at at) leads.target.hit)
      (half-some at leads.target.hit (cell-matched high)) none)

  -- what it has found, by the cell
  pub found-by : (before found : Option HalfMatch) → option_map half_found_of before ≡ found_at dfa x at
      → (x.earliest ≡ true → option_map half_found_of before ≡ None)
      → (cell % 0x8000_0000 < 0x4000_0000 → found ≡ before)
      → (0x4000_0000 ≤ cell % 0x8000_0000 → (s : Stance) → IsRowOf cache (row_of cell) s
      → option_map half_found_of found ≡ option_map (half_at at) s.hit)
      → option_map half_found_of found ≡ found_at dfa x (at + 1)
  found-by before found was none plain matched =
      elim (cases_lt (cell % 0x8000_0000) 0x4000_0000) [
        | inl low ↦ ap (option_map half_found_of) (plain low) ∙ was ∙ sym (found-plain low)
        | inr high ↦ found-hit high (λ e. sym was ∙ none e) found (matched high)
      ]

  -- the scan is over there, if the row is dead or the match is enough
  pub next-ended : (0x8000_0000 ≤ cell)
      ⊎ ((x.earliest ≡ true) × ((0x4000_0000 ≤ cell) × (cell < 0x8000_0000)))
      → (found : Option HalfMatch) → option_map half_found_of found ≡ found_at dfa x (at + 1)
      → (let p : Place = record { at = at + 1; row = row_of cell; found = found } in IsNextPlace dfa cache x p true)
  next-ended over found is = record {
    at = there.0;
    found = is;
    first = λ on. absurd (cc on);
    settled = λ t.
        elim over [
          | inl dead ↦
              inl (IsAt-is_dead dfa x cache (at + 1) (row_of cell) there.0 leads.target leads.is
              (leads.dead dead known))
          | inr first ↦
              inr (
                first.0,
                ap is_some there.1
                    ∙ after-some x.earliest (found_at dfa x at) (option_map (half_at at) leads.target.hit)
                    (half-some at leads.target.hit (leads.matched first.1.0 first.1.1)),
              )
        ];
  }

-- a scan that is not over
pub next-here : (dfa : DFA) (x : Search) (cache : Cache) (p : Place) → IsFoundAt dfa cache x p
    → IsNextPlace dfa cache x p false
next-here dfa x cache p here = record {
  at = here.at;
  found = here.found;
  first = λ on. here.first;
  settled = λ over. absurd (cc over);
}
