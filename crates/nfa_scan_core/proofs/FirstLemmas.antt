-- What is reached before a byte is read, and what the table of first bytes promises of it.
use Rattle.nfa_paths.proofs.Common.{◌≡◌, ℕ, suc, zero, ◌+◌, ◌<◌, ◌≤◌, inl, inr, List, [], ◌∷◌, length, get_or, replicate, refl, arith, subst, Some, true, false, Bool, All, is_some, if◌then◌else◌, slice_get, get_or_default, get_or_from_slice_get, Search, Automaton, Node, Pair, In, Path, node_at, pattern_of, edges, edges_of, holding_at, is_match, first_target, holds_byte, Transition, stop, go, not, slice_index_or, not-false, not-true, Accepts, get_or-replicate, ByteRange, Sparse, epsilon_states}
use Rattle.nfa_paths.proofs.EdgeLemmas.{edge-is}
use Rattle.nfa_paths.proofs.MemberLemmas.{All-In}
use Rattle.nfa_paths.proofs.StartLemmas.{epsilon-all, IsMatch-edges}
use Rattle.nfa_scan_core.specs.FirstBytes.{Admits, Grows, WasReached, Extends, Covers, IsRefused, MayBegin, IsFirstBytes, GrowsBy, Reads, Stops, AddsOnly, LacksRoom, Differ, AreDistinct, epsilon_targets, IsReachedAtStart, IsRead}
use Rattle.nfa_scan_core.specs.declared.first_bytes.ReachedStates.{ReachedStates}
use Rattle.nfa_paths.specs.Paths.{NoMatchBegins}
use Rattle.nfa_paths.proofs.PathToLemmas.{PathTo-accepts}
use Rattle.nfa_scan_core.specs.FirstBytes.IsReachedAtStart.{on}
use Rattle.nfa_scan_core.specs.FirstBytes.MayBegin.{matches, many}

-- tables

-- a table that admits the bytes of some transitions admits those of the first one that has the byte
pub admits-first : (table : List Bool) (ts : List Transition)
    → All (λ t. (b : ℕ) → holds_byte t b ≡ true → Admits table b) ts
    → (b u : ℕ) → first_target ts b ≡ Some u → Admits table b
admits-first table [] all b u e = cc
admits-first table (t ∷ ts) all b u e =
    let here : (b : ℕ) → holds_byte t b ≡ true → Admits table b = all 0 t (omega arith) in
    (elim (holds_byte t b) as (λ h. holds_byte t b ≡ h → (if h then Some t.next else first_target ts b) ≡ Some u
    → Admits table b) [
      | true ↦ λ holds s. here b holds
      | false ↦ λ no s. admits-first table ts (λ k d h. all (suc k) d (omega arith)) b u s
    ]) refl e

-- states

pub Extends-then : {a b c : ReachedStates} → Extends a b → Extends b c → Extends a c
Extends-then f g = grind arith

pub WasReached-extends : {a b : ReachedStates} {s : ℕ} → Extends a b → WasReached a s → WasReached b s
WasReached-extends f r = grind arith

-- what is covered stays covered
pub Covers-more : (a b : ReachedStates) (t u : List Bool) → Extends a b → Grows t u → (node : Node) → Covers a t node
    → Covers b u node
Covers-more a b t u f g node c = grind (arith, WasReached-extends)

module _ (nfa : Automaton) where
  -- one state more is followed
  pub covers-step : (a b : ReachedStates) (t u : List Bool) (done d : ℕ) (node : Node) → done < a.len
      → done < length a.states
      → Extends a b → Grows t u
      → slice_get nfa.states (get_or a.states done d) ≡ Some node → Covers b u node
      → ((k : ℕ) → k < done → Covers a t (node_at nfa (get_or a.states k 0)))
      → (k : ℕ) → k < done + 1 → Covers b u (node_at nfa (get_or b.states k 0))
  unfolding node_at
  covers-step a b t u done d node less inside f g is here below =
      grind (arith, Covers-more, get_or_default, get_or_from_slice_get)

  -- all that was reached is covered
  pub covers-all : (r : ReachedStates) (table : List Bool) (done : ℕ) → r.len ≤ done
      → ((k : ℕ) → k < done → Covers r table (node_at nfa (get_or r.states k 0)))
      → (s : ℕ) → WasReached r s → Covers r table (node_at nfa s)
  covers-all r table done all below s i = rw (← i.is) (below i.place (omega (arith, i.below)))

-- edges

module _ (r : ReachedStates) (table : List Bool) (x : Search) (at : ℕ) (f : IsRefused table x at) where
  edge-lands : (node : Node) → Covers r table node → (w : Pair) → In w (edges_of x node at)
      → (w.1 ≡ at) × WasReached r w.0
  edge-lands node c w i =
      elim (edge-is x node at w i) [
        | inl stays ↦
            let states = epsilon_states (holding_at x.haystack at) node in
            let all = epsilon-all (WasReached r) (holding_at x.haystack at) node c.leads in
            (stays.0, All-In (WasReached r) states all w.0 stays.1)
        | inr over ↦ let admitted = c.admits over.byte w.0 over.target in absurd (grind (arith, f.read, over.is))
      ]

no-match : (r : ReachedStates) (table : List Bool) (node : Node) → Covers r table node
    → is_some (pattern_of node) ≡ true → ⊥
no-match r table node c e = let never : false ≡ true = rw c.plain at e in cc

module _ (nfa : Automaton) (table : List Bool) where
  -- if all states that were reached are covered, no path from them on a refused byte ends at a match
  no-path : (r : ReachedStates) → ((s : ℕ) → WasReached r s → Covers r table (node_at nfa s)) → (x : Search)
      → {v : Pair} {p : List Pair}
      → Path (edges nfa x) (is_match nfa) v p → WasReached r v.0 → IsRefused table x v.1 → ⊥
  no-path r covers x (stop {v = v} t) at f = no-match r table (node_at nfa v.0) (covers v.0 at) t
  no-path r covers x (go {v = v} {w = w} t i n h) at f =
      let s = edge-lands r table x v.1 f (node_at nfa v.0) (covers v.0 at) w i in
      no-path r covers x h s.1 (rw s.0 f)

  pub IsFirstBytes-covered : (r : ReachedStates) → WasReached r nfa.anchored
      → ((s : ℕ) → WasReached r s → Covers r table (node_at nfa s))
      → ((b : ℕ) → b < 256 → Admits table b → MayBegin nfa b)
      → IsFirstBytes nfa table
  IsFirstBytes-covered r start covers least = grind (arith, no-path)

  -- a table that admits all bytes
  pub IsFirstBytes-all : (n : ℕ) → table ≡ replicate n true → ((b : ℕ) → MayBegin nfa b) → IsFirstBytes nfa table
  IsFirstBytes-all n all may = record {
    none = λ x at f marks p a. never n f.byte (rw all at f.refused);
    least = λ b less admits. may b;
  }
    where
      never : (n b : ℕ) → get_or (replicate n true) b true ≡ false → ⊥
      never zero b e = cc
      never (suc n) zero e = cc
      never (suc n) (suc b) e = never n b e

module _ {nfa : Automaton} {table : List Bool} (h : IsFirstBytes nfa table) (byte : ℕ) {refused : Bool} where
  -- a match may begin with a byte that is not refused
  pub begins-may : byte < 256 → (refused ≡ false → Admits table byte) → not refused ≡ true → MayBegin nfa byte
  begins-may small admitted may = h.least byte small (admitted (not-true refused may))

  -- if no search with marks finds a path from a position with the byte, there is none
  pub begins-none : (refused ≡ true → slice_index_or table byte true ≡ false) → not refused ≡ false
      → NoMatchBegins nfa byte
  begins-none refuses none = record {
    no_path = λ x at read m p w t.
        let a = PathTo-accepts (edges nfa x) ((nfa.anchored, at) ∷ []) (is_match nfa) (IsMatch-edges nfa x) w t in
        elim w.among [
          | inl e ↦ h.none x at
              (record { byte = byte; read = read; refused = refuses (not-false refused none) }) [] p
              (subst (λ (v : Pair). Accepts (edges nfa x) (is_match nfa) [] v p) e a)
          | inr never ↦ absurd never
        ];
  }

-- tables

pub GrowsBy-more : {a b c : List Bool} {n m : Node} → GrowsBy a b n → GrowsBy b c m
    → ((k : ℕ) → Reads m k → Reads n k) → GrowsBy a c n
GrowsBy-more f g more = grind arith

-- what one of some transitions holds, they read
pub Reads-among : (ts : List Transition) (i : ℕ) (d : Transition) (b : ℕ) → i < length ts
    → Reads (ByteRange (get_or ts i d)) b → Reads (Sparse ts) b
Reads-among [] i d b less r = absurd (omega arith)
Reads-among (t ∷ ts) zero d b less r = grind arith
Reads-among (t ∷ ts) (suc i) d b less r = grind (arith, Reads-among ts i d b (omega arith) r)

-- states

pub In-at : (xs : List ℕ) (i d : ℕ) → i < length xs → In (get_or xs i d) xs
In-at [] i d less = absurd (omega arith)
In-at (x ∷ xs) zero d less = inl refl
In-at (x ∷ xs) (suc i) d less = inr (In-at xs i d (omega arith))

-- the only state of a list is among others if the list is
pub In-one : (y : ℕ) (ys : List ℕ) → In y ys → (x : ℕ) → In x (y ∷ []) → In x ys
In-one y ys i x (inl e) = rw e i
In-one y ys i x (inr never) = absurd never

pub AddsOnly-then : {a b c : ReachedStates} {s t u : List ℕ} → AddsOnly a b s → AddsOnly b c t → Extends b c
    → ((x : ℕ) → In x s → In x u) → ((x : ℕ) → In x t → In x u) → AddsOnly a c u
AddsOnly-then {b = b} f g e of_s of_t = grind arith

pub LacksRoom-among : {r : ReachedStates} {s t : List ℕ} → LacksRoom r s → ((x : ℕ) → In x s → In x t) → LacksRoom r t
LacksRoom-among l of = record { state = l.state; among = of _ l.among; full = l.full; other = l.other }

-- what holds of what was reached, and of all that was added, holds of what is reached now
pub each-added : (P : ℕ → Type 0) {a b : ReachedStates} {s : List ℕ} → Extends a b → AddsOnly a b s
    → ((x : ℕ) → In x s → P x) → ((k : ℕ) → k < a.len → P (get_or a.states k 0))
    → (k : ℕ) → k < b.len → P (get_or b.states k 0)
each-added P {a = a} e g new old k less = grind arith

-- what holds of one state holds of the first of many places that have it
pub each-first : (P : ℕ → Type 0) (n s : ℕ) → P s → (k : ℕ) → k < 1 → P (get_or (replicate (n + 1) s) k 0)
each-first P n s holds k less = let first : k < n + 1 = omega arith in rw (get_or-replicate (n + 1) k s 0 first) holds

-- a state that was not reached, before those that were
distinct-more : (r : ReachedStates) (s : ℕ) → (WasReached r s → ⊥) → r.len ≡ length r.states → Differ r
    → AreDistinct (s ∷ r.states)
distinct-more = grind arith

-- a table that lets nothing through
pub admits-none : (n b : ℕ) → b < n → Admits (replicate n false) b → ⊥
admits-none n b less e = let no = get_or-replicate n b false true less in cc

module _ (nfa : Automaton) where
  -- if following a state stops, a match may begin with any byte
  MayBegin-stopped : (r : ReachedStates) (s : ℕ) (node : Node) → node_at nfa s ≡ node → IsReachedAtStart nfa s
      → length r.states ≡ 64 → ((k : ℕ) → k < r.len → IsReachedAtStart nfa (get_or r.states k 0)) → Differ r
      → Stops r node → (b : ℕ) → MayBegin nfa b
  MayBegin-stopped r s node is at size all differ (inl m) b = matches s at (rw is m)
  MayBegin-stopped r s node is at size all differ (inr l) b =
      let full : r.len ≡ length r.states = omega (arith, l.full) in
      let total : length (l.state ∷ r.states) ≡ 65 = omega arith in
      many (l.state ∷ r.states) total each (distinct-more r l.state l.other full differ)
    where
      each : All (IsReachedAtStart nfa) (l.state ∷ r.states)
      each zero d less = on at (rw is l.among)
      each (suc k) d less =
          let within : k < length r.states = omega arith in
          let inside : k < r.len = omega (arith, l.full) in
          rw (get_or_default r.states k d 0 within) (all k inside)

  -- one state more is followed
  module _ (a b : ReachedStates) (done d : ℕ) (node : Node) (less : done < a.len) (size : length a.states ≡ 64)
      (room : a.len ≤ 64) (here : slice_get nfa.states (get_or a.states done d) ≡ Some node)
      (all : (k : ℕ) → k < a.len → IsReachedAtStart nfa (get_or a.states k 0)) where
    is-here : node_at nfa (get_or a.states done 0) ≡ node
    unfolding node_at
    is-here = grind (arith, get_or_default, get_or_from_slice_get)

    pub at_start-step : Extends a b → AddsOnly a b (epsilon_targets node)
        → (k : ℕ) → k < b.len → IsReachedAtStart nfa (get_or b.states k 0)
    at_start-step e g = each-added (IsReachedAtStart nfa) e g (λ t i. on (all done less) (rw is-here i)) all

    pub least-step : (t u : List Bool) → GrowsBy t u node → ((x : ℕ) → x < 256 → Admits t x → IsRead nfa x)
        → (x : ℕ) → x < 256 → Admits u x → IsRead nfa x
    least-step t u g before x small admits = grind (arith, is-here)

    pub stops-step : Extends a b → AddsOnly a b (epsilon_targets node) → Differ b → Stops b node
        → (x : ℕ) → MayBegin nfa x
    stops-step e g differ stops =
        let full : length b.states ≡ 64 = omega (arith, e.size) in
        MayBegin-stopped b (get_or a.states done 0) node is-here (all done less) full (at_start-step e g) differ stops
