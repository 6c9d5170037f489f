-- Where a scan is, and what it found so far.
use Rattle.std.specs.Prelude.{◌≡◌, ℕ, ◌-◌, ◌/◌, ◌<◌, Bool, false, true, [], ◌∷◌, None, option_map, slice_index}
use Rattle.nfa_paths.specs.Common.{half_found_of, Search, half_at}
use Rattle.nfa_lazy_dfa.specs.Configurations.{IsSettled, scanned}
use Rattle.nfa_lazy_dfa.specs.Rows.{IsAt, IsRowOf, Leads, stances_of}
use Rattle.nfa_lazy_dfa.specs.Stances.{Stance}
use Rattle.nfa_lazy_dfa.specs.declared.cache.Cache.{Cache}
use Rattle.nfa_lazy_dfa.specs.declared.dfa.DFA.{DFA}
use Rattle.nfa_lazy_dfa.specs.declared.scan.First.{First}
use Rattle.nfa_lazy_dfa.specs.declared.scan.Place.{Place}

-- the scan is at the place's position, in its row, with what it found; with `earliest` it found nothing yet
pub record IsFoundAt (dfa : DFA) (c : Cache) (x : Search) (p : Place) : Type 0 where
  pub at : IsAt dfa c x p.at p.row
  pub found : option_map half_found_of p.found ≡ (scanned dfa.nfa x dfa.kind x.earliest (p.at - x.start)).found
  pub first : x.earliest ≡ true → option_map half_found_of p.found ≡ None

-- a scan is at its first position and found nothing, in a row that has only the state that it starts in
pub record IsFirstAt (dfa : DFA) (c : Cache) (x : Search) (f : First) : Type 0 where
  pub begins : f.place.at ≡ x.start
  pub found : f.place.found ≡ None
  pub at : IsFoundAt dfa c x f.place
  pub alone : (s : Stance) → IsRowOf c f.place.row s → s.states ≡ f.start ∷ []

-- A byte led the scan to the place. The scan is over if no later position changes what it found. Otherwise it goes on,
-- and with `earliest` it found nothing yet.
pub record IsNextPlace (dfa : DFA) (c : Cache) (x : Search) (p : Place) (over : Bool) : Type 0 where
  pub at : IsAt dfa c x p.at p.row
  pub found : option_map half_found_of p.found ≡ (scanned dfa.nfa x dfa.kind x.earliest (p.at - x.start)).found
  pub first : over ≡ false → x.earliest ≡ true → option_map half_found_of p.found ≡ None
  pub settled : over ≡ true → IsSettled x.earliest (scanned dfa.nfa x dfa.kind x.earliest (p.at - x.start))

-- the scan is at a position, in the row whose cells begin at `first`, and the last match that it found is the row's
pub record IsMatchedAt (dfa : DFA) (c : Cache) (x : Search) (to first : ℕ) : Type 0 where
  pub at : IsAt dfa c x to (first / 256)
  pub found : (s : Stance) → IsRowOf c (first / 256) s
      → option_map (half_at (to - 1)) s.hit ≡ (scanned dfa.nfa x dfa.kind x.earliest (to - x.start)).found

-- the cell, if it is known, is that of the byte at the position in the row whose cells begin at `first`; the position
-- is in the span
pub record IsCellAt (dfa : DFA) (c : Cache) (x : Search) (at first cell : ℕ) : Type 0 where
  pub inside : cell < 0xFFFF_FFFF → at < x.end
  pub leads : cell < 0xFFFF_FFFF → (s : Stance) → IsRowOf c (first / 256) s
      → Leads dfa.nfa dfa.kind (stances_of c.stands.items) s (slice_index x.haystack at) cell
