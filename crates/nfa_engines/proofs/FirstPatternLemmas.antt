-- If the anchored start tries the patterns in order, the first pattern that has an accepting path answers.
use Rattle.nfa_paths.proofs.Common.{◌≡◌, ◌∙◌, ℕ, zero, suc, ◌≤◌, ◌<◌, ◌⊎◌, inl, inr, false, List, [], ◌∷◌, map, refl, sym, ap, arith, slice_get, None, Some, is_some, cases_eq, Search, Automaton, Node, Pair, In, Earlier, HeadIs, NoRepeats, Linked, EndsWith, ComesBefore, PathTo, capture, edges, edges_of, node_at, pattern_of, slot_of, starts, is_match, IsMatch, Yes}
use Rattle.nfa_paths.proofs.FirstStartLemmas.{anchored-start, put-linked, start-there}
use Rattle.nfa_engines.specs.StartLaws.{alternates_of, started_at, IsUnionOfPatterns}
use Rattle.nfa_paths.proofs.MemberLemmas.{same_some}
use Rattle.nfa_paths.proofs.PathToLemmas.{EndsWith-cons}

-- lists

-- what is in a path has a path of its own
record Begins (edges : Pair → List Pair) (s v : Pair) (p : List Pair) : Type 0 where
  along : List Pair
  head : HeadIs s along
  once : NoRepeats along
  linked : Linked edges along
  ends : EndsWith v along
  within : (z : Pair) → In z along → In z p

begins : (edges : Pair → List Pair) (s v : Pair) (p : List Pair) → HeadIs s p → NoRepeats p → Linked edges p → In v p
    → Begins edges s v p
begins edges s v [] head once linked i = absurd i
begins edges s v (a ∷ p) head once linked (inl e) = record {
  along = a ∷ [];
  head = head;
  once = (λ i. i, tt);
  linked = tt;
  ends = sym e;
  within = λ z i. elim i [ inl same ↦ inl same | inr never ↦ absurd never ];
}
begins edges s v (a ∷ []) head once linked (inr i) = absurd i
begins edges s v (a ∷ (b ∷ p)) head once linked (inr i) =
    let r = begins edges b v (b ∷ p) refl once.1 linked.1 i in
    record {
      along = a ∷ r.along;
      head = head;
      once = (λ j. once.0 (r.within a j), r.once);
      linked = put-linked edges a b r.along linked.0 r.head r.linked;
      ends = EndsWith-cons a v r.along r.ends;
      within = λ z j. elim j [ inl same ↦ inl same | inr later ↦ inr (r.within z later) ];
    }

-- the first place of a state among the starts of patterns
module _ (b : ℕ) where
  -- the pairs of the states at one position
  abbrev pub at_position : List ℕ → List Pair
  at_position states = map (λ (next : ℕ). (next, b)) states

  record Place (u : Pair) (states : List ℕ) : Type 0 where
    k : ℕ
    state : ℕ
    is : u ≡ (state, b)
    at : slice_get states k ≡ Some state
    before : (j : ℕ) → j < k → slice_get states j ≡ Some state → ⊥

  before-cons : (e state k : ℕ) (es : List ℕ) → (e ≡ state → ⊥)
      → ((j : ℕ) → j < k → slice_get es j ≡ Some state → ⊥)
      → (j : ℕ) → j < suc k → slice_get (e ∷ es) j ≡ Some state → ⊥
  before-cons = grind (arith, same_some)

  place : (states : List ℕ) (u : Pair) → In u (at_position states) → Place u states
  place [] u i = absurd i
  place (e ∷ es) u (inl here) =
      record { k = 0; state = e; is = here; at = refl; before = λ j less. absurd (omega arith) }
  place (e ∷ es) u (inr later) =
      let r = place es u later in
      elim (cases_eq e r.state) [
        | inl same ↦
            record {
              k = 0;
              state = e;
              is = r.is ∙ ap (λ (z : ℕ). (z, b)) (sym same);
              at = refl;
              before = λ j less. absurd (omega arith);
            }
        | inr apart ↦
            record {
              k = suc r.k;
              state = r.state;
              is = r.is;
              at = r.at;
              before = before-cons e r.state r.k es apart r.before;
            }
      ]

  -- a state of the list is among its pairs
  among : (states : List ℕ) (k state : ℕ) → slice_get states k ≡ Some state → In (state, b) (at_position states)
  among [] k state at = cc
  among (e ∷ es) zero state at = grind arith
  among (e ∷ es) (suc k) state at = inr (among es k state at)

  -- a state whose first place is at k or after it, and another one, in order
  pub earlier : (states : List ℕ) (k state other : ℕ) → slice_get states k ≡ Some state → (state ≡ other → ⊥)
      → ((j : ℕ) → j < k → slice_get states j ≡ Some other → ⊥)
      → Earlier (at_position states) (state, b) (other, b)
  earlier [] k state other at apart before = cc
  earlier (e ∷ es) zero state other at apart before = grind arith
  earlier (e ∷ es) (suc k) state other at apart before =
      grind (arith, before 0, earlier es k state other at apart (λ j less. before (suc j) (omega arith)))

  -- and not the other way round
  pub not-earlier : (states : List ℕ) (j state other : ℕ) → slice_get states j ≡ Some other
      → ((i : ℕ) → i ≤ j → slice_get states i ≡ Some state → ⊥)
      → Earlier (at_position states) (state, b) (other, b) → ⊥
  not-earlier [] j state other at past h = h
  not-earlier (e ∷ es) zero state other at past h = grind arith
  not-earlier (e ∷ es) (suc j) state other at past h =
      grind (arith, past 0, not-earlier es j state other at (λ i less. past (suc i) (omega arith)))

-- a union

never-none : (ps : List ℕ) → None ≡ Some ps → ⊥
never-none ps e = cc

-- the edges of a union
union-edges : (x : Search) (b : ℕ) (n : Node) (ps : List ℕ) → alternates_of n ≡ Some ps
    → edges_of x n b ≡ at_position b ps
unfolding edges_of
union-edges x b _ ps e = grind arith

-- it is not a Match
union-plain : (n : Node) (ps : List ℕ) → alternates_of n ≡ Some ps → is_some (pattern_of n) ≡ false
union-plain _ ps e = grind arith

-- and writes nothing
union-writes : (n : Node) (ps : List ℕ) → alternates_of n ≡ Some ps → slot_of n ≡ None
union-writes _ ps e = grind arith

module _ (nfa : Automaton) (x : Search) (bound : x.anchored ≡ Yes) where
  -- the one start of an anchored search of an NFA

  pub there-start : (n : Automaton) (v : Pair) → v ≡ (n.anchored, x.start) → x.start ≤ x.end → In v (starts n x)
  there-start n v e within = grind (arith, anchored-start)

-- an anchored search whose anchored start tries the patterns
pub record IsTried (nfa : Automaton) (x : Search) : Type 0 where
  pub bound : x.anchored ≡ Yes
  pub union : IsUnionOfPatterns nfa x

module _ {nfa : Automaton} {x : Search} (u : IsTried nfa x) where
  -- the anchored start
  abbrev pub top : Pair
  top = (nfa.anchored, x.start)

  pub top-edges : edges nfa x top ≡ at_position x.start nfa.patterns
  top-edges = union-edges x x.start (node_at nfa nfa.anchored) nfa.patterns u.union.union

  top-plain : is_match nfa top ≡ false
  top-plain = union-plain (node_at nfa nfa.anchored) nfa.patterns u.union.union

  pub top-writes : capture nfa top ≡ None
  top-writes = union-writes (node_at nfa nfa.anchored) nfa.patterns u.union.union

  -- an accepting path goes on by the start of a pattern
  pub record GoesOn (m : Pair) (p : List Pair) : Type 0 where
    pub k : ℕ
    pub state : ℕ
    pub at : slice_get nfa.patterns k ≡ Some state
    pub before : (j : ℕ) → j < k → slice_get nfa.patterns j ≡ Some state → ⊥
    pub rest : List Pair
    pub is : p ≡ top ∷ rest
    pub head : HeadIs (state, x.start) rest
    pub path : PathTo (edges nfa x) (starts (started_at nfa state) x) m rest

  not_match : (m : Pair) → m ≡ top → IsMatch nfa m → ⊥
  not_match m e t = grind (arith, top-plain)

  pub goes : (m : Pair) (p : List Pair) → PathTo (edges nfa x) (starts nfa x) m p → IsMatch nfa m → GoesOn m p
  goes m p w t = grind (arith, start-there, not_match, place, top-edges, there-start)

  -- a path of a pattern is the rest of one of the search
  pub comes : (k state : ℕ) → slice_get nfa.patterns k ≡ Some state → (m : Pair) (q : List Pair)
      → PathTo (edges nfa x) (starts (started_at nfa state) x) m q
      → PathTo (edges nfa x) (starts nfa x) m (top ∷ q)
  comes k state at m q w =
      let from = start-there nfa x u.bound (started_at nfa state) w.start w.among in
      record {
        start = top;
        among = there-start nfa x u.bound nfa top refl from.within;
        head = refl;
        once = (
          λ i.
              let r = begins (edges nfa x) w.start top q w.head w.once w.linked i in
              u.union.apart k state x.start r.along at (record {
                start = w.start;
                among = w.among;
                head = r.head;
                once = r.once;
                linked = r.linked;
                ends = r.ends;
              }),
          w.once,
        );
        linked = put-linked (edges nfa x) top w.start q
            (rw (from.is, top-edges) (among x.start nfa.patterns k state at)) w.head w.linked;
        ends = EndsWith-cons top m q w.ends;
      }

  -- the head of a pattern's path
  pub head-of : (state : ℕ) (m : Pair) (q : List Pair) → PathTo (edges nfa x) (starts (started_at nfa state) x) m q
      → HeadIs (state, x.start) q
  head-of state m q w = grind (arith, start-there)

  -- the order of two paths, from that of their rests
  pub order-same : (s : Pair) (q r : List Pair) → HeadIs s q → HeadIs s r → (r ≡ q) ⊎ ComesBefore (edges nfa x) q r
      → (top ∷ r ≡ top ∷ q) ⊎ ComesBefore (edges nfa x) (top ∷ q) (top ∷ r)
  order-same = grind arith

  pub order-apart : (s t : Pair) (q r : List Pair) → HeadIs s q → HeadIs t r → Earlier (edges nfa x top) s t
      → ComesBefore (edges nfa x) (top ∷ q) (top ∷ r)
  order-apart = grind arith

  -- and back
  pub order-back : (s t : Pair) (q r : List Pair) → HeadIs s q → HeadIs t r
      → (top ∷ r ≡ top ∷ q) ⊎ ComesBefore (edges nfa x) (top ∷ q) (top ∷ r)
      → (r ≡ q) ⊎ (Earlier (edges nfa x top) s t ⊎ ((s ≡ t) × ComesBefore (edges nfa x) q r))
  order-back = grind arith
