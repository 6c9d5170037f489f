-- What a cache's rows are, by their numbers.
use Rattle.nfa_paths.proofs.Common.{◌≡◌, ℕ, ◌+◌, ◌*◌, ◌/◌, ◌%◌, ◌<◌, ◌≤◌, ◌≢◌, inl, inr, All, length, map, get_or, ap, sym, ◌∙◌, subst, arith, vec_len, sum_by, get_or_default_zero, length-map, get_or-le-sum_by, get_or_from_slice_get, slice_get_cases, slice_get_within}
use Rattle.nfa_lazy_dfa.specs.Rows.{IsFor, IsRowOf, Leads, LeadsTo, row_memory_of, row_of, stances_of}
use Rattle.nfa_lazy_dfa.specs.Stances.{Stance, stance_of}
use Rattle.nfa_lazy_dfa.proofs.RowLemmas.{row-within, stance-at}
use Rattle.nfa_lazy_dfa.specs.declared.cache.Cache.{Cache}
use Rattle.nfa_lazy_dfa.specs.declared.dfa.DFA.{DFA}
use Rattle.nfa_lazy_dfa.specs.declared.follow.Stand.{Stand}

module _ (c : Cache) where
  pub row-is : (row : ℕ) (s : Stand) → row < vec_len c.stands → s ≡ get_or c.stands.items row s
      → IsRowOf c row (stance_of s)
  row-is row s less is =
      let k : row < length c.stands.items = omega (arith, c.stands.ok.0) in stance-at c.stands.items row s k is

  pub row-inside : (row : ℕ) (s : Stance) → IsRowOf c row s → row < vec_len c.stands
  row-inside row s is =
      let k : row < length c.stands.items = row-within c.stands.items row s is in omega (arith, c.stands.ok.0)

  module _ (dfa : DFA) (rows : IsFor c dfa) where
    pub cells-within : (row byte : ℕ) → row < vec_len c.stands → byte < 256 → row * 256 + byte < vec_len c.cells
    unfolding IsFor
    cells-within row byte less small =
        let same : length c.cells.items ≡ length (map stance_of c.stands.items) * 256 = rows.rows.cells_count in
        let all : length (map stance_of c.stands.items) ≡ length c.stands.items = length-map c.stands.items stance_of in
        omega (arith, c.stands.ok.0, c.cells.ok.0)

    pub ends-within : (row : ℕ) → row < vec_len c.stands → row < vec_len c.ends
    unfolding IsFor
    ends-within row less =
        let same : length c.ends.items ≡ length (map stance_of c.stands.items) = rows.rows.ends_count in
        let all : length (map stance_of c.stands.items) ≡ length c.stands.items = length-map c.stands.items stance_of in
        omega (arith, c.stands.ok.0, c.ends.ok.0)

    pub few-rows : (row : ℕ) → row < vec_len c.stands → row < 0x20_0000
    unfolding IsFor
    few-rows row less =
        let few : length (map stance_of c.stands.items) ≤ 0x20_0000 = rows.rows.few in
        let all : length (map stance_of c.stands.items) ≡ length c.stands.items = length-map c.stands.items stance_of in
        omega (arith, c.stands.ok.0)

    pub below-at : (row : ℕ) (s : Stand) → row < vec_len c.stands → s ≡ get_or c.stands.items row s
        → All (λ q. q < length dfa.nfa.states) s.states.items
    unfolding IsFor
    below-at row s less is =
        let at = row-is row s less is in
        let k : row < length (map stance_of c.stands.items) =
        omega (arith, c.stands.ok.0, length-map c.stands.items stance_of) in
        subst (λ (t : Stance). All (λ q. q < length dfa.nfa.states) t.states)
        (get_or_from_slice_get (stances_of c.stands.items) row (stance_of s) (stance_of s) at)
        (rows.rows.below row (stance_of s) k)

    -- a row takes no more than all rows may
    pub row-fits : (row : ℕ) (s : Stance) → IsRowOf c row s → row_memory_of s ≤ dfa.capacity
    unfolding IsFor
    row-fits row s is =
        let stances = stances_of c.stands.items in
        let less : row < length stances = slice_get_within stances row s is in
        let at : get_or stances row s ≡ s = get_or_from_slice_get stances row s s is in
        let part : row_memory_of (get_or stances row s) ≤ sum_by row_memory_of stances =
        get_or-le-sum_by row_memory_of stances row s less in
        let same : row_memory_of (get_or stances row s) ≡ row_memory_of s = ap row_memory_of at in
        omega (arith, rows.taken, rows.fits)

    -- a cell that is known leads on, from the place of a row's first cell
    pub leads-at : (row byte cell : ℕ) (s : Stance) → IsRowOf c row s → byte < 256
        → cell ≡ get_or c.cells.items (row * 256 + byte) 0 → cell ≢ 0xFFFF_FFFF
        → Leads dfa.nfa dfa.kind (stances_of c.stands.items) s byte cell
    unfolding IsFor
    leads-at row byte cell s was small is known =
        subst (Leads dfa.nfa dfa.kind (stances_of c.stands.items) s byte) (sym is)
        (rows.rows.cells_are row byte s was small (λ e. known (is ∙ e)))

    -- the cell that is read at a place is that of the byte
    pub cell-read : (row byte cell place : ℕ) → row < vec_len c.stands → byte < 256 → place ≡ row * 256 + byte
        → cell ≡ get_or c.cells.items place cell → cell ≡ get_or c.cells.items (row * 256 + byte) 0
    cell-read row byte cell place less small same read =
        let within : row * 256 + byte < vec_len c.cells = cells-within row byte less small in
        let inside : place < length c.cells.items = omega (arith, c.cells.ok.0) in
        read ∙ get_or_default_zero c.cells.items place cell inside ∙ ap (λ (k : ℕ). get_or c.cells.items k 0) same

    -- the same for a cell of the row that begins at `first`; it is in the table

    pub cell-within : (first byte : ℕ) (s : Stance) → IsRowOf c (first / 256) s → first % 256 ≡ 0 → byte < 256
        → first + byte < vec_len c.cells
    cell-within first byte s is whole small =
        let within : first / 256 * 256 + byte < vec_len c.cells =
        cells-within (first / 256) byte (row-inside (first / 256) s is) small in
        omega arith

    pub leads-read : (first byte cell : ℕ) (s : Stance) → IsRowOf c (first / 256) s → first % 256 ≡ 0 → byte < 256
        → cell ≡ get_or c.cells.items (first + byte) cell → cell ≢ 0xFFFF_FFFF
        → Leads dfa.nfa dfa.kind (stances_of c.stands.items) s byte cell
    leads-read first byte cell s is whole small read known =
        let row = first / 256 in
        let place : first + byte ≡ row * 256 + byte = omega arith in
        leads-at row byte cell s is small
        (cell-read row byte cell (first + byte) (row-inside row s is) small place read) known

    pub known-leads : (row byte cell : ℕ) → row < vec_len c.stands → byte < 256
        → cell ≡ get_or c.cells.items (row * 256 + byte) 0 → cell ≢ 0xFFFF_FFFF
        → LeadsTo dfa c c row byte (row_of cell)
    known-leads row byte cell less small is known =
        let k : row < length (map stance_of c.stands.items) =
        omega (arith, c.stands.ok.0, length-map c.stands.items stance_of) in
        elim (slice_get_cases (stances_of c.stands.items) row).1 [
          | inl found ↦
              let s = found.0 in
              let was : IsRowOf c row s = found.2 in
              let leads = leads-at row byte cell s was small is known in
              record { from = s; was = was; to = leads.target; is = leads.is; next = leads.next }
          | inr past ↦ absurd (let p : length (map stance_of c.stands.items) ≤ row = past.0 in omega arith)
        ]

-- the cache is still the DFA's, if only its counts changed
pub IsFor-same : (dfa : DFA) (old new : Cache) → new.stands ≡ old.stands → new.cells ≡ old.cells → new.ends ≡ old.ends
    → new.taken ≡ old.taken → new.firsts ≡ old.firsts → IsFor old dfa → IsFor new dfa
unfolding IsFor
IsFor-same dfa old new stands cells ends taken firsts own = record {
  rows = rw (stands, cells, ends) own.rows;
  firsts = rw (stands, firsts) own.firsts;
  taken = rw (taken, stands) own.taken;
  fits = rw taken own.fits;
}
