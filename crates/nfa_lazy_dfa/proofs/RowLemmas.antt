-- The rows of a cache, as rows are added and cells are written.
use Rattle.nfa_paths.proofs.Common.{ℕ_discrete, get_or-append, ◌≡◌, ℕ, zero, suc, ◌+◌, ◌*◌, ◌<◌, ◌≢◌, ◌⊎◌, inl, inr, List, [], ◌∷◌, ◌++◌, length, get_or, set, refl, ap, sym, ◌∙◌, subst, arith, All, get_or-set_same, get_or-set_other, length-set, length-append, Option, None, Some, option_map, slice_get, get_or-append-add, get_or-replicate, length-replicate, map-append, length-map, All-append, slice_get_within, slice_get-get_or, slice_get-map, number_of, PatternID, MatchKind, Automaton}
use Rattle.nfa_lazy_dfa.specs.Rows.{AreRows, Leads, row_of, unknown, stances_of}
use Rattle.nfa_lazy_dfa.specs.Stances.{Stance, hit_here, stance_of}
use Rattle.nfa_lazy_dfa.specs.declared.follow.Stand.{Stand}

-- an element of a longer list

pub get-left : {X : Type 0} (xs ys : List X) (k : ℕ) (x : X) → slice_get xs k ≡ Some x
    → slice_get (xs ++ ys) k ≡ Some x
get-left [] ys k x e = let past : k < 0 = slice_get_within [] k x e in absurd (omega arith)
get-left (a ∷ xs) ys zero x e = e
get-left (a ∷ xs) ys (suc k) x e = get-left xs ys k x e

pub get-last : {X : Type 0} (xs : List X) (y : X) → slice_get (xs ++ y ∷ []) (length xs) ≡ Some y
get-last [] y = refl
get-last (a ∷ xs) y = get-last xs y

get-cases : {X : Type 0} (xs : List X) (y : X) (k : ℕ) (x : X) → slice_get (xs ++ y ∷ []) k ≡ Some x
    → (slice_get xs k ≡ Some x) ⊎ (k ≡ length xs)
get-cases [] y zero x e = inr refl
get-cases [] y (suc k) x e = let past : k < 0 = slice_get_within [] k x e in absurd (omega arith)
get-cases (a ∷ xs) y zero x e = inl e
get-cases (a ∷ xs) y (suc k) x e =
    elim (get-cases xs y k x e) [ inl h ↦ inl h | inr h ↦ inr (ap suc h) ]

-- an element after a write
get-set-same : {X : Type 0} (xs : List X) (k : ℕ) (y x : X) → slice_get (set xs k y) k ≡ Some x → y ≡ x
get-set-same [] k y x e = let past : k < 0 = slice_get_within [] k x e in absurd (omega arith)
get-set-same (a ∷ xs) zero y x e = cc
get-set-same (a ∷ xs) (suc k) y x e = get-set-same xs k y x e

get-set-other : {X : Type 0} (xs : List X) (k j : ℕ) (y : X) → j ≢ k → slice_get (set xs k y) j ≡ slice_get xs j
get-set-other [] k j y ne = refl
get-set-other (a ∷ xs) zero zero y ne = absurd (ne refl)
get-set-other (a ∷ xs) zero (suc j) y ne = refl
get-set-other (a ∷ xs) (suc k) zero y ne = refl
get-set-other (a ∷ xs) (suc k) (suc j) y ne = get-set-other xs k j y (λ e. ne (ap suc e))

pub some-same : {X : Type 0} (o : Option X) (x y : X) → o ≡ Some x → o ≡ Some y → x ≡ y
some-same o x y e f = cc

unknown-length : length unknown ≡ 256
unknown-length = let cell : ℕ = 0xFFFF_FFFF in length-replicate 256 cell

unknown-at : (byte : ℕ) → byte < 256 → get_or unknown byte 0 ≡ 0xFFFF_FFFF
unknown-at byte less = let cell : ℕ = 0xFFFF_FFFF in get_or-replicate 256 byte cell 0 less

-- the cells of a new row are unknown
new-unknown : (cells : List ℕ) (row byte : ℕ) → row * 256 ≡ length cells → byte < 256
    → get_or (cells ++ unknown) (row * 256 + byte) 0 ≡ 0xFFFF_FFFF
new-unknown cells row byte here less =
    ap (λ (n : ℕ). get_or (cells ++ unknown) (n + byte) 0) here ∙ get_or-append-add cells unknown byte 0
    ∙ unknown-at byte less

pub stances-more : (stands : List Stand) (s : Stand)
    → stances_of (stands ++ s ∷ []) ≡ stances_of stands ++ stance_of s ∷ []
stances-more stands s = map-append stance_of stands (s ∷ [])

-- the row is one of the cache's
pub stance-at : (stands : List Stand) (k : ℕ) (s : Stand) → k < length stands → s ≡ get_or stands k s
    → slice_get (stances_of stands) k ≡ Some (stance_of s)
stance-at stands k s less is =
    slice_get-map stance_of stands k ∙ ap (option_map stance_of) (slice_get-get_or stands k s less ∙ ap Some (sym is))

pub row-within : (stands : List Stand) (k : ℕ) (s : Stance) → slice_get (stances_of stands) k ≡ Some s
    → k < length stands
row-within stands k s is =
    let less : k < length (stances_of stands) = slice_get_within (stances_of stands) k s is in
    omega (arith, length-map stands stance_of)

module _ (nfa : Automaton) (kind : MatchKind) where
  Leads-more : (stances : List Stance) (t s : Stance) (byte cell : ℕ) → Leads nfa kind stances s byte cell
      → Leads nfa kind (stances ++ t ∷ []) s byte cell
  Leads-more stances t s byte cell h = record {
    whole = h.whole;
    target = h.target;
    is = get-left stances (t ∷ []) (row_of cell) h.target h.is;
    next = h.next;
    plain = h.plain;
    idle = h.idle;
    matched = h.matched;
    dead = h.dead;
    dead_plain = h.dead_plain;
    dead_matched = h.dead_matched;
  }

  pub AreRows-none : AreRows nfa kind [] [] []
  AreRows-none = record {
    cells_count = refl;
    ends_count = refl;
    few = omega arith;
    below = λ k d less. absurd (omega arith);
    cells_are = λ row byte s is less known.
        let past : row < 0 = slice_get_within [] row s is in absurd (omega arith);
    ends_are = λ row s hit is end. let past : row < 0 = slice_get_within [] row s is in absurd (omega arith);
  }

  module _ (stances : List Stance) (cells : List ℕ) (ends : List (Option (Option PatternID)))
      (rows : AreRows nfa kind stances cells ends) where
    pub AreRows-add : (t : Stance) → All (λ q. q < length nfa.states) t.states → length stances < 0x20_0000
        → AreRows nfa kind (stances ++ t ∷ []) (cells ++ unknown) (ends ++ None ∷ [])
    AreRows-add t below few = record {
      cells_count = count;
      ends_count = simp length-append (ap (λ (n : ℕ). n + 1) rows.ends_count);
      few = simp length-append (omega arith);
      below = All-append (λ (s : Stance). All (λ q. q < length nfa.states) s.states) stances (t ∷ []) rows.below
          (λ k d less. let first : k ≡ 0 = omega arith in rw first below);
      cells_are = λ row byte s is less known.
          elim (get-cases stances t row s is) [
            | inl was ↦
                let inside : row * 256 + byte < length cells =
                let k : row < length stances = slice_get_within stances row s was in omega (arith, rows.cells_count) in
                let same = get_or-append cells unknown 0 (row * 256 + byte) inside in
                subst (λ (c : ℕ). Leads nfa kind (stances ++ t ∷ []) s byte c) (sym same)
                (Leads-more stances t s byte (get_or cells (row * 256 + byte) 0)
                (rows.cells_are row byte s was less (λ e. known (same ∙ e))))
            | inr now ↦
                let here : row * 256 ≡ length cells = ap (λ (k : ℕ). k * 256) now ∙ sym rows.cells_count in
                absurd (known (new-unknown cells row byte here less))
          ];
      ends_are = λ row s hit is end.
          elim (get-cases stances t row s is) [
            | inl was ↦
                elim (get-cases ends None row (Some hit) end) [
                  | inl old ↦ rows.ends_are row s hit was old
                  | inr new ↦
                      let k : row < length stances = slice_get_within stances row s was in
                      absurd (omega (arith, rows.ends_count))
                ]
            | inr now ↦
                let here : row ≡ length ends = now ∙ sym rows.ends_count in
                absurd (never hit (sym (get-last ends None)
                ∙ ap (λ (k : ℕ). slice_get (ends ++ None ∷ []) k) (sym here) ∙ end))
          ];
    }
      where
        count : length (cells ++ unknown) ≡ length (stances ++ t ∷ []) * 256
        count =
            let wide = unknown-length in
            omega (arith, rows.cells_count, length-append cells unknown, length-append stances (t ∷ []))

        never : (hit : Option PatternID) → Some None ≡ Some (Some hit) → ⊥
        never hit e = cc

    pub AreRows-write : (row byte cell : ℕ) (s : Stance) → slice_get stances row ≡ Some s → byte < 256
        → Leads nfa kind stances s byte cell → AreRows nfa kind stances (set cells (row * 256 + byte) cell) ends
    AreRows-write row byte cell s is less leads =
        let inside : row * 256 + byte < length cells =
        let k : row < length stances = slice_get_within stances row s is in omega (arith, rows.cells_count) in
        record {
          cells_count = simp length-set rows.cells_count;
          ends_count = rows.ends_count;
          few = rows.few;
          below = rows.below;
          cells_are = λ r b t at small known.
              elim (ℕ_discrete (r * 256 + b) (row * 256 + byte)) [
                | yes e ↦
                    let same_row : r ≡ row = omega arith in
                    let same_byte : b ≡ byte = omega arith in
                    let wrote : get_or (set cells (row * 256 + byte) cell) (r * 256 + b) 0 ≡ cell =
                    ap (λ (k : ℕ). get_or (set cells (row * 256 + byte) cell) k 0) e
                    ∙ get_or-set_same cells (row * 256 + byte) cell 0 inside in
                    let same : s ≡ t = some-same (slice_get stances row) s t is
                    (ap (slice_get stances) (sym same_row) ∙ at) in
                    subst (λ (c : ℕ). Leads nfa kind stances t b c) (sym wrote)
                    (subst (λ (k : ℕ). Leads nfa kind stances t k cell) (sym same_byte)
                    (subst (λ (u : Stance). Leads nfa kind stances u byte cell) same leads))
                | no n ↦
                    let kept : get_or (set cells (row * 256 + byte) cell) (r * 256 + b) 0
                    ≡ get_or cells (r * 256 + b) 0 =
                    get_or-set_other cells (row * 256 + byte) (r * 256 + b) cell 0 n in
                    subst (λ (c : ℕ). Leads nfa kind stances t b c) (sym kept)
                    (rows.cells_are r b t at small (λ un. known (kept ∙ un)))
              ];
          ends_are = rows.ends_are;
        }

    pub AreRows-end : (row : ℕ) (hit : Option PatternID) → ((s : Stance) → slice_get stances row ≡ Some s
        → option_map number_of hit ≡ hit_here nfa kind s None)
        → AreRows nfa kind stances cells (set ends row (Some hit))
    AreRows-end row hit is = record {
      cells_count = rows.cells_count;
      ends_count = simp length-set rows.ends_count;
      few = rows.few;
      below = rows.below;
      cells_are = rows.cells_are;
      ends_are = λ r s h at end.
          elim (ℕ_discrete r row) [
            | yes e ↦
                let wrote : Some hit ≡ Some h = get-set-same ends row (Some hit) (Some h)
                (ap (slice_get (set ends row (Some hit))) (sym e) ∙ end) in
                ap (option_map number_of) (unsome hit h wrote) ∙ is s (ap (slice_get stances) (sym e) ∙ at)
            | no n ↦ rows.ends_are r s h at (sym (get-set-other ends row r (Some hit) n) ∙ end)
          ];
    }
      where
        unsome : (a b : Option PatternID) → Some a ≡ Some b → b ≡ a
        unsome a b e = cc
