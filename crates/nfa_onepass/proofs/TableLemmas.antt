-- A table that grows keeps its steps, and a walk that takes one goes on.
use Rattle.std.specs.Global.{Vec}
use Rattle.nfa_paths.proofs.Common.{◌≡◌, ◌∙◌, ℕ, zero, suc, ◌+◌, ◌*◌, ◌<◌, ◌≤◌, ◌⊎◌, inl, inr, List, [], ◌∷◌, ◌++◌, replicate, slice_get, slice_set, slice_index_or, get_or, get_or_from_slice_get, none-some, refl, sym, ap, subst, arith, length, length-append, length-set, Bool, false, cases_Bool, slice_get_within, Option, None, Some, option_map, Automaton, Search, Slots, byte_at, start_state, length-replicate}
use Rattle.nfa_paths.proofs.MemberLemmas.{same_some}
use Rattle.nfa_onepass.specs.Ways.{HasOnlyEnds, IsDead, IsNowhere, IsOnWay, IsOnly, IsSure, IsWhole, write_each}
use Rattle.nfa_onepass.specs.Lists.{HasEmptyList, Keeps, list_at}
use Rattle.nfa_onepass.specs.Tables.{IsCell, IsFor, IsFresh, IsStep, IsWalking, KeepsRows, Takes, byte_of, limit_of, looks_over, memory_of, state_at}
use Rattle.nfa_onepass.specs.declared.table.Cell.{Cell}
use Rattle.nfa_onepass.specs.declared.table.OnePass.{OnePass}
use Rattle.nfa_onepass.specs.declared.table.Row.{Row}
use Rattle.nfa_onepass.specs.declared.table.Setup.{Setup}
use Rattle.nfa_onepass.proofs.WayLemmas.{Covers, Covers-all, Covers-none, IsOnWay-first, IsOnWay-step, IsOnly-end, IsNowhere-dead, IsReachedFrom-first, IsReachedFrom-step, IsWhole-end, length-write_each}

pub Keeps-refl : (lists : List (Vec ℕ)) → Keeps lists lists
Keeps-refl lists = record { longer = omega arith; same = λ i inside. refl }

pub Keeps-trans : (a b c : List (Vec ℕ)) → Keeps a b → Keeps b c → Keeps a c
Keeps-trans a b c h k = record {
  longer = let x = h.longer in let y = k.longer in omega arith;
  same = λ i inside. k.same i (let x = h.longer in omega arith) ∙ h.same i inside;
}

-- the first list stays empty
pub HasEmptyList-keeps : (old new : List (Vec ℕ)) → Keeps old new → HasEmptyList old → HasEmptyList new
HasEmptyList-keeps old new k h = record {
  some = let x = k.longer in let y = h.some in omega arith;
  empty = k.same 0 h.some ∙ h.empty;
}

-- a step stays sure
pub IsStep-keeps : (nfa : Automaton) (rows more : List Row) (lists new : List (Vec ℕ)) (looks : Bool) (s column : ℕ)
    (cell : Cell) → KeepsRows rows more → Keeps lists new → IsStep nfa rows lists looks s column cell
    → IsStep nfa more new looks s column cell
IsStep-keeps nfa rows more lists new looks s column cell kept k h = record {
  goal = h.goal;
  inside = let x = k.longer in let y = h.inside in omega arith;
  sure = subst (IsSure nfa (looks_over looks (byte_of column)) s (byte_of column) h.goal)
      (sym (k.same cell.list h.inside)) h.sure;
  shut = h.shut;
  leads = λ low. kept cell.goal h.goal (h.leads low);
  ends = h.ends;
}

-- a byte of the span is one of the haystack
byte-inside : (x : Search) (at b : ℕ) → byte_at x at ≡ Some b → at < length x.haystack
byte-inside x at b e = grind (arith, slice_get_within)

-- before the end of the haystack, steps of a table cover what states lead to
covers-for : (nfa : Automaton) (x : Search) (t : OnePass) (at : ℕ) → IsFor nfa t → at < length x.haystack
    → Covers nfa x t.setup.looks at
covers-for nfa x t at own low =
    elim (cases_Bool t.setup.looks) [
      | inl may ↦ subst (λ (b : Bool). Covers nfa x b at) (sym may) (Covers-all nfa x at)
      | inr plain ↦ subst (λ (b : Bool). Covers nfa x b at) (sym plain) (Covers-none nfa x (own.ends plain) at low)
    ]

-- a walk that takes a step over the byte at its position is at the next one
pub IsWalking-takes : (nfa : Automaton) (x : Search) (old new : OnePass) (row b at : ℕ) (slots after : Slots) (next : ℕ)
    → IsFor nfa new → new.setup ≡ old.setup → (h : IsWalking nfa x old row at slots) → byte_at x at ≡ Some b
    → Takes nfa new h.state b at slots after next → IsWalking nfa x new next (at + 1) after
IsWalking-takes nfa x old new row b at slots after next own same h e t =
    let looks = new.setup.looks in
    let covers = covers-for nfa x new at own (byte-inside x at b e) in
    let made = IsOnWay-step nfa x looks (length slots) h.first h.state at b t.to t.written slots covers h.on e t.sure in
    let long : length slots ≡ length after = sym (ap length t.writes ∙ length-write_each t.written at slots) in
    record {
      first = h.first;
      begins = h.begins;
      state = t.to;
      here = t.is;
      on = subst (λ (z : Slots). IsOnWay nfa x (length after) h.first (t.to, at + 1) z) (sym t.writes)
          (subst (λ (n : ℕ). IsOnWay nfa x n h.first (t.to, at + 1) (write_each t.written at slots)) long made);
      reached = λ plain. IsReachedFrom-step nfa x (length slots) h.first h.state at b t.to t.written slots
          (subst (λ (z : Bool). Covers nfa x z at) plain covers) h.on
          (h.reached (ap (λ (s : Setup). s.looks) (sym same) ∙ plain)) e
          (subst (λ (z : Bool). IsSure nfa z h.state (Some b) t.to t.written) plain t.sure) (t.shut plain);
    }

-- if no way leads on from where the walk is, nothing matches
pub IsNowhere-walking : (nfa : Automaton) (x : Search) (t : OnePass) (row b at : ℕ) (slots : Slots) → IsFor nfa t
    → t.setup.looks ≡ false → (h : IsWalking nfa x t row at slots) → byte_at x at ≡ Some b
    → IsDead nfa t.setup.looks h.state (Some b) → IsNowhere nfa x
IsNowhere-walking nfa x t row b at slots own plain h e dead =
    IsNowhere-dead nfa x (length slots) h.first h.state at b slots
    (subst (λ (z : Bool). Covers nfa x z at) plain (covers-for nfa x t at own (byte-inside x at b e))) h.begins h.on
    (h.reached plain) e (subst (λ (z : Bool). IsDead nfa z h.state (Some b)) plain dead)

-- the column of a byte
pub byte_of-low : (column : ℕ) → column < 256 → byte_of column ≡ Some column
byte_of-low = grind arith

-- a row that has a state is one of them
pub row-inside : (rows : List Row) (row s : ℕ) → state_at rows row ≡ Some s → row < length rows
row-inside [] row s e = elim (none-some s e) [ ]
row-inside (x ∷ rows) zero s e = omega arith
row-inside (x ∷ rows) (suc row) s e = let h = row-inside rows row s e in omega arith

-- it is there
row-there : (rows : List Row) (row s : ℕ) → state_at rows row ≡ Some s
    → (r : Row) × (slice_get rows row ≡ Some r) × (r.state ≡ s)
row-there [] row s e = elim (none-some s e) [ ]
row-there (x ∷ rows) zero s e = (x, refl, same_some x.state s e)
row-there (x ∷ rows) (suc row) s e = row-there rows row s e

-- and each of them is there
row-is : (rows : List Row) (row : ℕ) → row < length rows → (r : Row) × (slice_get rows row ≡ Some r)
row-is [] row low = absurd (omega (arith, low))
row-is (x ∷ rows) zero low = (x, refl)
row-is (x ∷ rows) (suc row) low = row-is rows row (omega (arith, low))

-- the row's cell of the byte is this one, and its step is sure
pub record HasStep (nfa : Automaton) (t : OnePass) (row b : ℕ) (cell : Cell) : Type 0 where
  pub kept : (r : Row) → slice_get t.rows.items row ≡ Some r → slice_get r.cells b ≡ Some cell
  pub known : cell.goal < 4294967293
  pub low : b < 256

-- a cell that is read of rows and of a haystack which are those of the table and of the search
pub has-step : (nfa : Automaton) (x : Search) (t : OnePass) (row at : ℕ) (cell : Cell) (rows : List Row)
    (haystack : List ℕ) → rows ≡ t.rows.items → haystack ≡ x.haystack → get_or haystack at 0 < 256
    → cell.goal < 4294967293
    → ((r : Row) → slice_get rows row ≡ Some r → slice_get r.cells (get_or haystack at 0) ≡ Some cell)
    → HasStep nfa t row (get_or x.haystack at 0) cell
has-step nfa x t row at cell rows haystack same read low known kept =
    subst (λ (h : List ℕ). HasStep nfa t row (get_or h at 0) cell) read (record {
      kept = λ r is. kept r (ap (λ (rs : List Row). slice_get rs row) same ∙ is);
      known = known;
      low = low;
    })

-- the step of such a cell
step-of : (nfa : Automaton) (t : OnePass) (row b : ℕ) (cell : Cell) (r : Row) → IsFor nfa t → HasStep nfa t row b cell
    → slice_get t.rows.items row ≡ Some r → IsStep nfa t.rows.items t.lists.items.items t.setup.looks r.state b cell
step-of nfa t row b cell r own has is = (own.cells row b r cell is (has.kept r is)).step has.known

-- such a step leads to a row
pub step-inside : (nfa : Automaton) (t : OnePass) (row b : ℕ) (cell : Cell) → IsFor nfa t → HasStep nfa t row b cell
    → row < length t.rows.items → cell.goal < length t.rows.items
step-inside nfa t row b cell own has inside =
    let found = row-is t.rows.items row inside in
    let step = step-of nfa t row b cell found.0 own has found.1 in
    row-inside t.rows.items cell.goal step.goal (step.leads has.low)

-- and a walk that takes it, where it writes no slot, is at that row
pub IsWalking-goes : (nfa : Automaton) (x : Search) (t : OnePass) (row b at : ℕ) (cell : Cell) (slots : Slots)
    → IsFor nfa t → byte_at x at ≡ Some b → HasStep nfa t row b cell → cell.list ≡ 0
    → IsWalking nfa x t row at slots → IsWalking nfa x t cell.goal (at + 1) slots
IsWalking-goes nfa x t row b at cell slots own is has none w =
    let there = row-there t.rows.items row w.state w.here in
    let step = subst (λ (s : ℕ). IsStep nfa t.rows.items t.lists.items.items t.setup.looks s b cell) there.2
    (step-of nfa t row b cell there.0 own has there.1) in
    let empty : list_at t.lists.items.items cell.list ≡ [] =
    ap (list_at t.lists.items.items) none ∙ own.first.empty in
    IsWalking-takes nfa x t t row b at slots slots cell.goal own refl w is (record {
      to = step.goal;
      written = [];
      is = step.leads has.low;
      sure = subst (IsSure nfa t.setup.looks w.state (Some b) step.goal) empty
          (subst (λ (o : Option ℕ). IsSure nfa (looks_over t.setup.looks o) w.state o step.goal
          (list_at t.lists.items.items cell.list)) (byte_of-low b has.low) step.sure);
      shut = λ plain. step.shut plain has.low;
      writes = refl;
    })

-- A walk begins with no slot set.
pub IsWalking-begin : (nfa : Automaton) (x : Search) (t : OnePass) (row s count : ℕ) (slots : Slots)
    → start_state nfa x.anchored ≡ Some s → state_at t.rows.items row ≡ Some s → slots ≡ replicate count None
    → IsWalking nfa x t row x.start slots
IsWalking-begin nfa x t row s count slots begins is unset =
    let long : count ≡ length slots = sym (ap length unset ∙ replicate-long count) in
    record {
      first = s;
      begins = begins;
      state = s;
      here = is;
      on = subst (λ (z : Slots). IsOnWay nfa x (length slots) s (s, x.start) z) (sym unset)
          (subst (λ (n : ℕ). IsOnWay nfa x n s (s, x.start) (replicate count None)) long
          (IsOnWay-first nfa x count s));
      reached = λ plain. IsReachedFrom-first nfa x s;
    }
  where
    replicate-long : (n : ℕ) → length (replicate {A = Option ℕ} n None) ≡ n
    replicate-long = grind (arith, length-replicate)

-- A walk at the end of the span, and the step to a Match there, give the slots and the pattern.
module _ (nfa : Automaton) (x : Search) (t u : OnePass) (row p : ℕ) (cell : Cell) (slots after : Slots)
    (h : IsWalking nfa x t row x.end slots)
    (step : IsStep nfa u.rows.items u.lists.items.items u.setup.looks h.state 256 cell) (is : p ≡ cell.goal)
    (writes : after ≡ write_each (list_at u.lists.items.items cell.list) x.end slots) where
  pub IsWalking-end : IsOnly nfa x p after
  IsWalking-end =
      let k : step.goal ≡ p = sym (step.ends (omega arith)) ∙ sym is in
      subst (λ (z : Slots). IsOnly nfa x p z) (sym writes)
      (subst (λ (n : ℕ). IsOnly nfa x n (write_each (list_at u.lists.items.items cell.list) x.end slots)) k
      (IsOnly-end nfa x (length slots) h.first h.state step.goal (list_at u.lists.items.items cell.list) slots refl
      h.begins h.on step.sure))

  -- and that of the whole span, if its steps passed no assertion
  pub IsWalking-whole : HasOnlyEnds nfa → t.setup.looks ≡ false → x.end ≡ length x.haystack → IsWhole nfa x p after
  IsWalking-whole ends plain whole =
      IsWhole-end nfa x (length slots) h.first h.state step.goal p (list_at u.lists.items.items cell.list) slots after
      ends whole h.begins h.on (h.reached plain) step.sure IsWalking-end

-- what a list holds after one of its elements was set
set-cases : {A : Type 0} (xs : List A) (i j : ℕ) (y z : A) → slice_get (slice_set xs i y) j ≡ Some z
    → ((i ≡ j) × (z ≡ y) × ((x : A) × (slice_get xs j ≡ Some x))) ⊎ (slice_get xs j ≡ Some z)
set-cases [] i j y z e = inr e
set-cases (x ∷ xs) zero zero y z e = inl (refl, sym (same_some y z e), (x, refl))
set-cases (x ∷ xs) zero (suc j) y z e = inr e
set-cases (x ∷ xs) (suc i) zero y z e = inr e
set-cases (x ∷ xs) (suc i) (suc j) y z e =
    elim (set-cases xs i j y z e) [ inl h ↦ inl (ap suc h.0, h.1, h.2) | inr h ↦ inr h ]

-- and after one was added
push-cases : {A : Type 0} (xs : List A) (j : ℕ) (y z : A) → slice_get (xs ++ y ∷ []) j ≡ Some z
    → (z ≡ y) ⊎ (slice_get xs j ≡ Some z)
push-cases [] zero y z e = inl (sym (same_some y z e))
push-cases [] (suc j) y z e = inr e
push-cases (x ∷ xs) zero y z e = inr e
push-cases (x ∷ xs) (suc j) y z e = push-cases xs j y z e

-- each element of a list of one element is that element
pub replicate-is : {A : Type 0} (n k : ℕ) (y z : A) → slice_get (replicate n y) k ≡ Some z → z ≡ y
replicate-is zero k y z e = elim (none-some z e) [ ]
replicate-is (suc n) zero y z e = sym (same_some y z e)
replicate-is (suc n) (suc k) y z e = replicate-is n k y z e

-- a row that is set keeps its state
state-set : (rows : List Row) (i j : ℕ) (kept r : Row) → kept ≡ slice_index_or rows i kept → r.state ≡ kept.state
    → state_at (slice_set rows i r) j ≡ state_at rows j
state-set [] i j kept r is same = refl
state-set (x ∷ rows) zero zero kept r is same = ap (λ (s : ℕ). Some s) (same ∙ ap (λ (z : Row). z.state) is)
state-set (x ∷ rows) zero (suc j) kept r is same = refl
state-set (x ∷ rows) (suc i) zero kept r is same = refl
state-set (x ∷ rows) (suc i) (suc j) kept r is same = state-set rows i j kept r is same

-- rows that are there keep their states when one is added
pub KeepsRows-push : (rows : List Row) (r : Row) → KeepsRows rows (rows ++ r ∷ [])
KeepsRows-push [] r j s e = elim (none-some s e) [ ]
KeepsRows-push (x ∷ rows) r zero s e = e
KeepsRows-push (x ∷ rows) r (suc j) s e = KeepsRows-push rows r j s e

-- a table with a cell set is one of the NFA if the cell is a step or none
pub KeepsRows-set : (rows : List Row) (i column : ℕ) (kept : Row) (cell : Cell) → kept ≡ slice_index_or rows i kept
    → KeepsRows rows (slice_set rows i (record { state = kept.state; cells = slice_set kept.cells column cell }))
KeepsRows-set rows i column kept cell is j s e =
    state-set rows i j kept (record { state = kept.state; cells = slice_set kept.cells column cell }) is refl ∙ e

-- both tables have the same limits, and are made for the same
pub record SameLimits (t u : OnePass) : Type 0 where
  pub rows : u.most_rows ≡ t.most_rows
  pub lists : u.lists.most ≡ t.lists.most
  pub setup : u.setup ≡ t.setup

-- so a table has room if the other one has
room-same : (t u : OnePass) → SameLimits t u → 2060 * t.most_rows + t.lists.most ≤ t.setup.limit
    → 2060 * u.most_rows + u.lists.most ≤ u.setup.limit
room-same t u same room =
    omega (arith, same.rows, same.lists, ap (λ (s : Setup). s.limit) same.setup, room)

-- so what is a step of the one is a step of the other, if rows and lists were added
step-same : (nfa : Automaton) (t u : OnePass) (s column : ℕ) (cell : Cell) → SameLimits t u
    → KeepsRows t.rows.items u.rows.items → Keeps t.lists.items.items u.lists.items.items
    → IsStep nfa t.rows.items t.lists.items.items t.setup.looks s column cell
    → IsStep nfa u.rows.items u.lists.items.items u.setup.looks s column cell
step-same nfa t u s column cell same more old step =
    subst (λ (z : Setup). IsStep nfa u.rows.items u.lists.items.items z.looks s column cell) (sym same.setup)
    (IsStep-keeps nfa t.rows.items u.rows.items t.lists.items.items u.lists.items.items t.setup.looks s column cell
    more old step)

-- and what a cell says in the one, it says in the other
cell-same : (nfa : Automaton) (t u : OnePass) (s column : ℕ) (cell : Cell) → SameLimits t u
    → KeepsRows t.rows.items u.rows.items → Keeps t.lists.items.items u.lists.items.items
    → IsCell nfa t.rows.items t.lists.items.items t.setup.looks s column cell
    → IsCell nfa u.rows.items u.lists.items.items u.setup.looks s column cell
cell-same nfa t u s column cell same more old it = record {
  step = λ low. step-same nfa t u s column cell same more old (it.step low);
  dead = λ is. subst (λ (z : Setup). IsDead nfa (looks_over z.looks (byte_of column)) s (byte_of column))
      (sym same.setup) (it.dead is);
}

-- and the assertions of the NFA are those that the one says
ends-same : (nfa : Automaton) (t u : OnePass) → SameLimits t u → (t.setup.looks ≡ false → HasOnlyEnds nfa)
    → u.setup.looks ≡ false → HasOnlyEnds nfa
ends-same nfa t u same ends plain = ends (ap (λ (s : Setup). s.looks) (sym same.setup) ∙ plain)

pub IsFor-set : (nfa : Automaton) (t u : OnePass) (i column s : ℕ) (kept : Row) (cell : Cell)
    → kept ≡ slice_index_or t.rows.items i kept
    → u.rows.items
    ≡ slice_set t.rows.items i (record { state = kept.state; cells = slice_set kept.cells column cell })
    → u.lists.items.items ≡ t.lists.items.items → SameLimits t u → IsFor nfa t → state_at t.rows.items i ≡ Some s
    → IsCell nfa t.rows.items t.lists.items.items t.setup.looks s column cell
    → IsFor nfa u
IsFor-set nfa t u i column s kept cell is rows lists same h here it =
    let new : Row = record { state = kept.state; cells = slice_set kept.cells column cell } in
    let more : KeepsRows t.rows.items u.rows.items =
    subst (KeepsRows t.rows.items) (sym rows) (KeepsRows-set t.rows.items i column kept cell is) in
    let old : Keeps t.lists.items.items u.lists.items.items =
    subst (Keeps t.lists.items.items) (sym lists) (Keeps-refl t.lists.items.items) in
    let carry = λ (z k : ℕ) (c : Cell). cell-same nfa t u z k c same more old in
    record {
      states = λ row z e. h.states row z (sym (state-set t.rows.items i row kept new is refl)
          ∙ ap (λ (xs : List Row). state_at xs row) (sym rows) ∙ e);
      cells = λ row k r c e f.
          elim (set-cases t.rows.items i row new r (ap (λ (xs : List Row). slice_get xs row) (sym rows) ∙ e)) [
            | inl m ↦
                let x_is : kept ≡ m.2.0 = is ∙ ap (λ (n : ℕ). slice_index_or t.rows.items n kept) m.0
                ∙ get_or_from_slice_get t.rows.items row m.2.0 kept m.2.1 in
                let there : slice_get t.rows.items row ≡ Some kept = m.2.1 ∙ ap (λ (z : Row). Some z) (sym x_is) in
                let states_are : kept.state ≡ r.state = ap (λ (z : Row). z.state) (sym m.1) in
                subst (λ (z : ℕ). IsCell nfa u.rows.items u.lists.items.items u.setup.looks z k c) states_are
                (elim (set-cases kept.cells column k cell c
                (ap (λ (z : Row). slice_get z.cells k) (sym m.1) ∙ f)) [
                  | inl n ↦
                      let s_is : s ≡ kept.state = same_some s kept.state (sym here
                      ∙ ap (λ (q : ℕ). state_at t.rows.items q) m.0
                      ∙ ap (λ (o : Option Row). option_map (λ (z : Row). z.state) o) there) in
                      carry kept.state k c
                      (subst (λ (z : ℕ). IsCell nfa t.rows.items t.lists.items.items t.setup.looks z k c) s_is
                      (subst (λ (q : ℕ). IsCell nfa t.rows.items t.lists.items.items t.setup.looks s q c) n.0
                      (subst (λ (z : Cell). IsCell nfa t.rows.items t.lists.items.items t.setup.looks s column z)
                      (sym n.1) it)))
                  | inr n ↦ carry kept.state k c (h.cells row k kept c there n)
                ])
            | inr there ↦ carry r.state k c (h.cells row k r c there f)
          ];
      first = subst HasEmptyList (sym lists) h.first;
      fits = omega (arith, h.fits, same.rows, ap length rows, length-set t.rows.items i new);
      few = omega (arith, h.few, same.rows);
      room = room-same t u same h.room;
      ends = ends-same nfa t u same h.ends;
    }

-- a table takes no more bytes than it may
pub IsFor-within : (nfa : Automaton) (t : OnePass) → IsFor nfa t → memory_of t ≤ limit_of t
IsFor-within nfa t h = omega (arith, h.fits, h.room, t.lists.counted.within)

-- a table with a row added that has no step is one of the NFA
pub IsFor-push : (nfa : Automaton) (t u : OnePass) (r : Row) (s : ℕ) → u.rows.items ≡ t.rows.items ++ r ∷ []
    → u.lists.items.items ≡ t.lists.items.items → SameLimits t u → length t.rows.items < t.most_rows → IsFor nfa t
    → IsFresh r s → s < length nfa.states → IsFor nfa u
IsFor-push nfa t u r s rows lists limits more_fit h fresh inside =
    let more : KeepsRows t.rows.items u.rows.items =
    subst (KeepsRows t.rows.items) (sym rows) (KeepsRows-push t.rows.items r) in
    let old : Keeps t.lists.items.items u.lists.items.items =
    subst (Keeps t.lists.items.items) (sym lists) (Keeps-refl t.lists.items.items) in
    record {
      states = λ row z e.
          let w = row-there u.rows.items row z e in
          elim (push-cases t.rows.items row r w.0
          (ap (λ (xs : List Row). slice_get xs row) (sym rows) ∙ w.1)) [
            | inl same ↦
                let z_is : s ≡ z = sym fresh.state ∙ ap (λ (q : Row). q.state) (sym same) ∙ w.2 in
                subst (λ (n : ℕ). n < length nfa.states) z_is inside
            | inr there ↦ h.states row z
                (ap (λ (o : Option Row). option_map (λ (q : Row). q.state) o) there ∙ ap (λ (n : ℕ). Some n) w.2)
          ];
      cells = λ row k q c e f.
          elim (push-cases t.rows.items row r q (ap (λ (xs : List Row). slice_get xs row) (sym rows) ∙ e)) [
            | inl same ↦
                let none = fresh.unknown k c (ap (λ (y : Row). slice_get y.cells k) (sym same) ∙ f) in
                record {
                  step = λ low. absurd (omega (arith, none, low));
                  dead = λ is. absurd (omega (arith, none, is));
                }
            | inr there ↦ cell-same nfa t u q.state k c limits more old (h.cells row k q c there f)
          ];
      first = subst HasEmptyList (sym lists) h.first;
      fits = omega (arith, more_fit, limits.rows, ap length rows, length-append t.rows.items (r ∷ []));
      few = omega (arith, h.few, limits.rows);
      room = room-same t u limits h.room;
      ends = ends-same nfa t u limits h.ends;
    }

-- a table is one of the NFA whatever lists are added
pub IsFor-lists : (nfa : Automaton) (t u : OnePass) → u.rows.items ≡ t.rows.items
    → Keeps t.lists.items.items u.lists.items.items → SameLimits t u → IsFor nfa t → IsFor nfa u
IsFor-lists nfa t u rows keeps same h = record {
  states = λ row z e. h.states row z (ap (λ (xs : List Row). state_at xs row) (sym rows) ∙ e);
  cells = λ row k r c e f. cell-same nfa t u r.state k c same
      (λ j s g. ap (λ (xs : List Row). state_at xs j) rows ∙ g) keeps
      (h.cells row k r c (ap (λ (xs : List Row). slice_get xs row) (sym rows) ∙ e) f);
  first = HasEmptyList-keeps t.lists.items.items u.lists.items.items keeps h.first;
  fits = omega (arith, h.fits, same.rows, ap length rows);
  few = omega (arith, h.few, same.rows);
  room = room-same t u same h.room;
  ends = ends-same nfa t u same h.ends;
}
