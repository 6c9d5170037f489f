-- The loop of a scan over the rows of a cache.
use Rattle.nfa_paths.proofs.Common.{◌≡◌, ℕ, zero, suc, ◌+◌, ◌-◌, ◌<◌, ◌≤◌, inl, Bool, true, false, [], ◌∷◌, length, get_or, refl, ap, sym, ◌∙◌, subst, arith, Option, None, Some, is_some, if◌then◌else◌, option_map, slice_get, option_or, option_map_or, lt-ltb, HalfFound, half_found_of, HalfMatch, Search, byte_at, pairs_from, start_count, start_state, starts, byte_before, half_at}
use Rattle.nfa_paths.proofs.StartLemmas.{byte_at-inside}
use Rattle.nfa_lazy_dfa.specs.Closures.{pattern_by_kind}
use Rattle.nfa_lazy_dfa.specs.Configurations.{Configuration, IsDead, begin, closure_at, found_after, position_count, scanned, scan_half, start_here}
use Rattle.nfa_lazy_dfa.proofs.ScanHalfLemmas.{length-starts}
use Rattle.nfa_lazy_dfa.proofs.SettledLemmas.{settled-found}
use Rattle.nfa_lazy_dfa.proofs.SettledLemmas.{scanned-next}
use Rattle.nfa_lazy_dfa.specs.Places.{IsFoundAt, IsNextPlace}
use Rattle.nfa_lazy_dfa.specs.declared.scan.Place.{Place}
use Rattle.nfa_lazy_dfa.specs.Rows.{IsAt, IsRowOf, LeadsTo, stances_of}
use Rattle.nfa_lazy_dfa.specs.Assertions.{IsRead, SameLooks, sees}
use Rattle.nfa_lazy_dfa.proofs.AssertionLemmas.{same-at}
use Rattle.nfa_lazy_dfa.specs.Stances.{Covers, IsNext, StandsFor, Stance, first_stance, hit_here}
use Rattle.nfa_lazy_dfa.proofs.StanceLemmas.{stands-dead, stands-here, stands-next}
use Rattle.nfa_lazy_dfa.proofs.RowLemmas.{some-same}
use Rattle.nfa_lazy_dfa.specs.declared.cache.Cache.{Cache}
use Rattle.nfa_lazy_dfa.specs.declared.dfa.DFA.{DFA}

-- the later match, or the earlier one if it is enough
pub found-later : (earliest : Bool) (found hit : Option HalfFound) → (earliest ≡ true → found ≡ None)
    → option_or hit found ≡ found_after earliest found hit
found-later true found None none = rw (none refl) refl
found-later true found (Some h) none = rw (none refl) refl
found-later false found hit none = refl

map-or : (a b : Option HalfMatch)
    → option_map half_found_of (option_or a b) ≡ option_or (option_map half_found_of a) (option_map half_found_of b)
map-or None b = refl
map-or (Some h) b = refl

-- what a scan found after one position more
pub found-or : (earliest : Bool) (before after hit : Option HalfFound) (a b r : Option HalfMatch) → r ≡ option_or a b
    → option_map half_found_of a ≡ hit → option_map half_found_of b ≡ before
    → (earliest ≡ true → option_map half_found_of b ≡ None) → after ≡ found_after earliest before hit
    → option_map half_found_of r ≡ after
found-or earliest before after hit a b r is a_is b_is none after_is =
    ap (option_map half_found_of) is ∙ map-or a b
    ∙ ap (λ (o : Option HalfFound). option_or o (option_map half_found_of b)) a_is
    ∙ ap (option_or hit) b_is
    ∙ found-later earliest before hit (λ e. sym b_is ∙ none e) ∙ sym after_is

pub some-map : (o : Option HalfMatch) → is_some o ≡ true → is_some (option_map half_found_of o) ≡ true
some-map None e = e
some-map (Some h) e = refl

pub none-map : (o : Option HalfMatch) → is_some o ≡ false → option_map half_found_of o ≡ None
none-map None e = refl
none-map (Some h) e = cc

-- the byte that is read is of the haystack
pub byte-there : (x : Search) (at byte : ℕ) → at < x.end → byte_at x at ≡ Some byte
    → slice_get x.haystack at ≡ Some byte
byte-there x at byte less is =
    sym (ap (λ (b : Bool). if b then slice_get x.haystack at else None) (lt-ltb at x.end less)) ∙ is

module _ (dfa : DFA) (x : Search) where
  abbrev pub found_at : ℕ → Option HalfFound
  found_at at = (scanned dfa.nfa x dfa.kind x.earliest (at - x.start)).found

  -- at the first position
  pub IsAt-begin : (c : Cache) (row start : ℕ) (before : Option ℕ) (more : Bool)
      → start_state dfa.nfa x.anchored ≡ Some start → x.start ≤ x.end
      → IsRowOf c row (first_stance start before more)
      → start_count dfa.nfa x ≡ (if more then ((x.end - x.start) + 1) else 1)
      → (more ≡ true → start_state dfa.nfa x.anchored ≡ Some dfa.nfa.anchored)
      → x.end ≤ length x.haystack
      → IsRead dfa.nfa (byte_before x.haystack x.start)
      → ((after : Option ℕ) → IsRead dfa.nfa after
      → SameLooks dfa.nfa (sees before after) (sees (byte_before x.haystack x.start) after))
      → IsAt dfa c x x.start row
  IsAt-begin c row start before more known order is count begins within read like =
      let none : x.start - x.start ≡ 0 = omega arith in
      let some : is_some (start_state dfa.nfa x.anchored) ≡ true = ap is_some known in
      let all : length (starts dfa.nfa x) ≡ (if more then ((x.end - x.start) + 1) else 1) =
      length-starts dfa.nfa x some ∙ count in
      let s : Stance = first_stance start before more in
      let stands : StandsFor dfa.nfa x x.start s (begin dfa.nfa x) = record {
        states = subst (Covers dfa.nfa (start ∷ [])) (sym (list more (length (starts dfa.nfa x)) all start known))
            (record { same = λ holding. refl; none = λ e. absurd (never start e) });
        held = λ q i. absurd i;
        sees = λ after. same-at dfa.nfa x.haystack x.start (omega arith) before read after
            (like (slice_get x.haystack x.start) after);
        starts = less more (length (starts dfa.nfa x)) (x.end - x.start) all;
        begins = begins;
        some = some;
      } in
      record {
        stance = s;
        is = is;
        low = omega arith;
        high = order;
        stands = subst (λ (n : ℕ). StandsFor dfa.nfa x x.start s (scanned dfa.nfa x dfa.kind x.earliest n)) (sym none)
            stands;
      }
    where
      never : (start : ℕ) → start ∷ [] ≡ [] → ⊥
      never start e = cc

      less : (more : Bool) (n d : ℕ) → n ≡ (if more then (d + 1) else 1) → n - 1 ≡ (if more then d else 0)
      less true n d e = omega arith
      less false n d e = omega arith

      list : (more : Bool) (n : ℕ) → n ≡ (if more then ((x.end - x.start) + 1) else 1) → (start : ℕ)
          → start_state dfa.nfa x.anchored ≡ Some start → start_here dfa.nfa x n ≡ start ∷ []
      list more zero e start known = absurd (absent more e)
        where
          absent : (more : Bool) → 0 ≡ (if more then ((x.end - x.start) + 1) else 1) → ⊥
          absent true e = absurd (omega arith)
          absent false e = absurd (omega arith)
      list more (suc n) e start known = rw known refl

  module _ (at byte : ℕ) (inside : at < x.end) (is : byte_at x at ≡ Some byte) where
    stance-next : (s t : Stance) → x.start ≤ at
        → StandsFor dfa.nfa x at s (scanned dfa.nfa x dfa.kind x.earliest (at - x.start))
        → IsNext dfa.nfa dfa.kind s byte t
        → StandsFor dfa.nfa x (at + 1) t (scanned dfa.nfa x dfa.kind x.earliest (at + 1 - x.start))
        × (found_at (at + 1) ≡ found_after x.earliest (found_at at) (option_map (half_at at) t.hit))
    stance-next s t low stands next =
        let c = scanned dfa.nfa x dfa.kind x.earliest (at - x.start) in
        let there = byte-there x at byte inside is in
        let more = scanned-next dfa.nfa x dfa.kind x.earliest at low in
        let hit : pattern_by_kind dfa.nfa dfa.kind (closure_at dfa.nfa x at c) ≡ t.hit =
        ap (pattern_by_kind dfa.nfa dfa.kind) (stands-here dfa.nfa x dfa.kind at s c stands
        (subst (IsRead dfa.nfa) (sym there) next.read))
        ∙ ap (hit_here dfa.nfa dfa.kind s) there ∙ sym next.hit in (
          subst (StandsFor dfa.nfa x (at + 1) t) (sym more)
              (stands-next dfa.nfa x dfa.kind x.earliest at byte s t c stands inside is there next),
          ap (λ (d : Configuration). d.found) more
              ∙ ap (λ (o : Option ℕ). found_after x.earliest (found_at at) (option_map (half_at at) o)) hit,
        )

  -- over a byte, to a row of which the hit is known
  pub IsAt-next : (old new : Cache) (at row target : ℕ) → at < x.end → x.end ≤ length x.haystack
      → IsAt dfa old x at row → LeadsTo dfa old new row (get_or x.haystack at 0) target
      → (t : Stance) → IsRowOf new target t
      → IsAt dfa new x (at + 1) target
      × (found_at (at + 1) ≡ found_after x.earliest (found_at at) (option_map (half_at at) t.hit))
  IsAt-next old new at row target inside within here leads t known =
      let byte = get_or x.haystack at 0 in
      let from : leads.from ≡ here.stance =
      some-same (slice_get (stances_of old.stands.items) row) leads.from here.stance leads.was here.is in
      let to : leads.to ≡ t = some-same (slice_get (stances_of new.stands.items) target) leads.to t leads.is known in
      let next : IsNext dfa.nfa dfa.kind here.stance byte t =
      subst (λ (s : Stance). IsNext dfa.nfa dfa.kind s byte t) from
      (subst (IsNext dfa.nfa dfa.kind leads.from byte) to leads.next) in
      let read = byte_at-inside x at inside within in
      let both = stance-next at byte inside read here.stance t here.low here.stands next in
      let low : x.start ≤ at = here.low in
      (record { stance = t; is = known; low = omega arith; high = omega arith; stands = both.0 }, both.1)

  -- over a byte, with what is found
  pub IsFoundAt-next : (old new : Cache) (p : Place) (target : ℕ) → IsFoundAt dfa old x p → p.at < x.end
      → x.end ≤ length x.haystack → LeadsTo dfa old new p.row (get_or x.haystack p.at 0) target
      → (t : Stance) → IsRowOf new target t
      → (half found : Option HalfMatch) → option_map half_found_of half ≡ option_map (half_at p.at) t.hit
      → found ≡ option_or half p.found
      → IsAt dfa new x (p.at + 1) target × (option_map half_found_of found ≡ found_at (p.at + 1))
  IsFoundAt-next old new p target here inside within leads t known half found half_is is_found =
      let both = IsAt-next old new p.at p.row target inside within here.at leads t known in (
        both.0,
        found-or x.earliest (found_at p.at) (found_at (p.at + 1)) (option_map (half_at p.at) t.hit) half p.found found
            is_found half_is here.found here.first both.1,
      )

  -- at the last position
  pub IsAt-end : (c : Cache) (row : ℕ) (hit : Option ℕ) → IsAt dfa c x x.end row
      → IsRead dfa.nfa (slice_get x.haystack x.end)
      → ((s : Stance) → IsRowOf c row s → hit ≡ hit_here dfa.nfa dfa.kind s (slice_get x.haystack x.end))
      → scan_half dfa.nfa x dfa.kind x.earliest
      ≡ found_after x.earliest (found_at x.end) (option_map (half_at x.end) hit)
  IsAt-end c row hit here read is =
      let low : x.start ≤ x.end = here.low in
      let d = scanned dfa.nfa x dfa.kind x.earliest (x.end - x.start) in
      let all : position_count x ≡ x.end + 1 - x.start = refl in
      let now : pattern_by_kind dfa.nfa dfa.kind (closure_at dfa.nfa x x.end d) ≡ hit =
      ap (pattern_by_kind dfa.nfa dfa.kind) (stands-here dfa.nfa x dfa.kind x.end here.stance d here.stands read)
      ∙ sym (is here.stance here.is) in
      ap (λ (e : Configuration). e.found) (scanned-next dfa.nfa x dfa.kind x.earliest x.end low)
      ∙ ap (λ (o : Option ℕ). found_after x.earliest (found_at x.end) (option_map (half_at x.end) o)) now

  -- a dead row stands for a configuration that is dead
  pub IsAt-is_dead : (c : Cache) (at row : ℕ) → IsAt dfa c x at row → (t : Stance) → IsRowOf c row t → t.states ≡ []
      → IsDead (scanned dfa.nfa x dfa.kind x.earliest (at - x.start))
  IsAt-is_dead c at row here t is none =
      let same : t ≡ here.stance = some-same (slice_get (stances_of c.stands.items) row) t here.stance is here.is in
      stands-dead dfa.nfa x dfa.kind at here.stance
      (scanned dfa.nfa x dfa.kind x.earliest (at - x.start)) here.stands
      (ap (λ (s : Stance). s.states) (sym same) ∙ none)

  module _ (c : Cache) (p : Place) (over : Bool) (next : IsNextPlace dfa c x p over) where
    -- a scan that is not over goes on
    pub next-on : over ≡ false → IsFoundAt dfa c x p
    next-on on = record { at = next.at; found = next.found; first = next.first on }

    -- what a scan that is over found
    pub next-over : over ≡ true → option_map half_found_of p.found ≡ scan_half dfa.nfa x dfa.kind x.earliest
    next-over is =
        let low : x.start ≤ p.at = next.at.low in
        let high : p.at ≤ x.end = next.at.high in
        next.found
        ∙ settled-found dfa.nfa x dfa.kind x.earliest (p.at - x.start) (omega arith) (next.settled is)

  -- where no match may start
  pub no-starts : length (starts dfa.nfa x) ≡ 0 → None ≡ scan_half dfa.nfa x dfa.kind x.earliest
  no-starts none =
      settled-found dfa.nfa x dfa.kind x.earliest 0 (omega arith) (inl (record { states = refl; starts = none }))

  pub no-state : start_state dfa.nfa x.anchored ≡ None → length (starts dfa.nfa x) ≡ 0
  no-state e =
      ap (λ (o : Option ℕ). length (option_map_or (λ state. pairs_from state x.start (start_count dfa.nfa x)) o [])) e

  pub no-span : is_some (start_state dfa.nfa x.anchored) ≡ true → start_count dfa.nfa x ≡ 0
      → length (starts dfa.nfa x) ≡ 0
  no-span some none = length-starts dfa.nfa x some ∙ none

-- with nothing found
pub IsFoundAt-begin : (dfa : DFA) (c : Cache) (x : Search) (at row start : ℕ) → start ≡ at → at ≡ x.start
    → IsAt dfa c x at row
    → (let p : Place = record { at = start; row = row; found = None } in IsFoundAt dfa c x p)
IsFoundAt-begin dfa c x at row start same first here =
    let none : start - x.start ≡ 0 = omega arith in
    record {
      at = subst (λ (n : ℕ). IsAt dfa c x n row) (sym same) here;
      found = ap (λ (n : ℕ). (scanned dfa.nfa x dfa.kind x.earliest n).found) (sym none);
      first = λ e. refl;
    }
